-- What a deal keeps of gains: when it is empty, and after a cell is put or moved.
use Rattle.std.proofs.Common.{◌≡◌, ◌≢◌, ◌<◌, ◌≤◌, ℕ, zero, suc, List, [], ◌∷◌, ◌++◌, length, get_or, set, replicate, nat_lt, eqb, ap, refl, sym, subst, ◌∙◌, ⊎_elim, arith}
use Rattle.std.proofs.Math.ListN.{length-replicate}
use Rattle.std.proofs.lemmas.Bool.{cases_eq}
use Rattle.std.proofs.lemmas.List.{get_or-set_other, get_or-set_same, length-set}
use Rattle.std.proofs.lemmas.List.Elements.{All-get_or}
use Rattle.vw_net.specs.Steps.Bits.{one_if}
use Rattle.vw_net.proofs.SumsOverLists.{sum_agree, sum_none}
use Rattle.vw_plan.specs.declared.board.Board.{Board}
use Rattle.vw_plan.specs.Chips.{IsChip}
use Rattle.vw_part.specs.declared.deal.Deal.{Deal}
use Rattle.vw_part.specs.declared.load.Load.{Load}
use Rattle.vw_part.specs.declared.cell_nets.CellNets.{CellNets}
use Rattle.vw_part.specs.Steps.Deals.{IsLoad, cells_held, freed, met, cell_nets_at}
use Rattle.vw_part.specs.Steps.Gains.{AreGains, KeepsGains, lone_among}
use Rattle.vw_part.proofs.Dealing.{loads_written}

-- ---- no cells

-- a load with no cells
pub record IsEmptyLoad (cell_nets : CellNets) (load : Load) : Type 0 where
  pub cells : load.cells ≡ 0
  pub held : load.held.counts.items ≡ replicate cell_nets.nets 0
  pub met : load.met.counts.items ≡ replicate (length cell_nets.of_cells.items) 0

none_anywhere : (many place : ℕ) → get_or (replicate many zero) place zero ≡ zero
none_anywhere zero place = refl
none_anywhere (suc many) zero = refl
none_anywhere (suc many) (suc place) = none_anywhere many place

zeros_at : (numbers : List ℕ) (many place : ℕ) → numbers ≡ replicate many 0 → get_or numbers place 0 ≡ 0
zeros_at numbers many place are = ap (λ (l : List ℕ). get_or l place 0) are ∙ none_anywhere many place

pub empty_load : (cell_nets : CellNets) (chip : ℕ) (load : Load) → IsEmptyLoad cell_nets load → IsLoad cell_nets [] chip load
empty_load cell_nets chip load is = record {
  cells = is.cells;
  long = ap (λ (l : List ℕ). length l) is.held ∙ length-replicate cell_nets.nets 0;
  counts = λ net. zeros_at load.held.counts.items cell_nets.nets net is.held;
}

pub empty_gains : (cell_nets : CellNets) (chip : ℕ) (load : Load) (frees : List ℕ)
    → IsEmptyLoad cell_nets load → frees ≡ replicate (length cell_nets.of_cells.items) 0 → AreGains cell_nets [] chip load frees
empty_gains cell_nets chip load frees is none =
    let cells = length cell_nets.of_cells.items in
    let held = λ (net : ℕ). get_or load.held.counts.items net 0 in
    let unheld = λ (net : ℕ). zeros_at load.held.counts.items cell_nets.nets net is.held in
    let not_met = λ (net : ℕ). ap (λ (n : ℕ). one_if (nat_lt 0 n)) (unheld net) in
    let not_lone = λ (net : ℕ). ap (λ (n : ℕ). one_if (eqb n 1)) (unheld net) in
    record {
      met_long = ap (λ (l : List ℕ). length l) is.met ∙ length-replicate cells 0;
      met = λ cell.
          let nothing = sum_none (λ net. one_if (nat_lt 0 (held net))) (cell_nets_at cell_nets cell) not_met in
          zeros_at load.met.counts.items cells cell is.met ∙ sym nothing;
      freed_long = ap (λ (l : List ℕ). length l) none ∙ length-replicate cells 0;
      freed = λ cell on.
          let nothing = sum_none (λ net. one_if (eqb (held net) 1)) (cell_nets_at cell_nets cell) not_lone in
          zeros_at frees cells cell none ∙ sym nothing;
    }

-- ---- one cell elsewhere

-- all cells but one are on the chips on which they were
abbrev pub StayBut : ℕ → List ℕ → List ℕ → Type 0
StayBut cell chips chips_after = (other : ℕ) → cell ≢ other → get_or chips_after other 0 ≡ get_or chips other 0

-- what the cells of all other chips free is as it was
abbrev pub StayOff : ℕ → List ℕ → List ℕ → List ℕ → Type 0
StayOff chip chips frees frees_after = (cell : ℕ) → get_or chips cell 0 ≢ chip → get_or frees_after cell 0 ≡ get_or frees cell 0

-- the cells of a chip were there before, and what they free is as it was
record StaysThere (chips chips_after : List ℕ) (chip : ℕ) (frees frees_after : List ℕ) : Type 0 where
  long : length frees_after ≡ length frees
  cells : (cell : ℕ) → get_or chips_after cell 0 ≡ chip → get_or chips cell 0 ≡ chip
  same : (cell : ℕ) → get_or chips_after cell 0 ≡ chip → get_or frees_after cell 0 ≡ get_or frees cell 0

-- then so are the gains of the chip
gains_stay : (cell_nets : CellNets) (chips chips_after : List ℕ) (chip : ℕ) (load : Load) (frees frees_after : List ℕ)
    → AreGains cell_nets chips chip load frees → StaysThere chips chips_after chip frees frees_after → AreGains cell_nets chips_after chip load frees_after
gains_stay cell_nets chips chips_after chip load frees frees_after gains stays = record {
  met_long = gains.met_long;
  met = gains.met;
  freed_long = stays.long ∙ gains.freed_long;
  freed = λ cell on. stays.same cell on ∙ gains.freed cell (stays.cells cell on);
}

-- how many of a cell's nets only one cell of a load's chip holds
abbrev pub lone_at : CellNets → Load → ℕ → ℕ
lone_at cell_nets load cell = lone_among (λ net. get_or load.held.counts.items net 0) (cell_nets_at cell_nets cell)

-- a cell comes to a chip, and what it frees there is written, but its nets aren't counted there yet
pub record IsRecounted (cell_nets : CellNets) (chips chips_after : List ℕ) (cell lone : ℕ) (load : Load) (frees frees_after : List ℕ) : Type 0 where
  pub within : cell < length frees
  pub others : StayBut cell chips chips_after
  pub count : lone ≡ lone_at cell_nets load cell
  pub written : frees_after ≡ set frees cell lone

-- the gains of that chip
pub gains_come : (cell_nets : CellNets) (chips chips_after : List ℕ) (cell chip lone : ℕ) (load : Load) (frees frees_after : List ℕ)
    → AreGains cell_nets chips chip load frees → IsRecounted cell_nets chips chips_after cell lone load frees frees_after
    → AreGains cell_nets chips_after chip load frees_after
gains_come cell_nets chips chips_after cell chip lone load frees frees_after gains is = record {
  met_long = gains.met_long;
  met = gains.met;
  freed_long = ap (λ (l : List ℕ). length l) is.written ∙ length-set frees cell lone ∙ gains.freed_long;
  freed = λ other on.
      let read = ap (λ (l : List ℕ). get_or l other 0) is.written in
      let if_here = λ (here : cell ≡ other).
      let own = get_or-set_same frees cell lone 0 is.within ∙ is.count in
      read ∙ subst (λ (x : ℕ). get_or (set frees cell lone) x 0 ≡ lone_at cell_nets load x) here own in
      let if_not = λ (apart : cell ≢ other).
      let kept = get_or-set_other frees cell other lone 0 (λ same. apart (sym same)) in
      read ∙ kept ∙ gains.freed other (sym (is.others other apart) ∙ on) in
      ⊎_elim if_here if_not (cases_eq cell other);
}

-- ---- all chips

-- one load is written, and the other chips stay as they were
keeps_set : (board : Board) (cell_nets : CellNets) (chips chips_after : List ℕ) (loads : List Load) (frees frees_after : List ℕ) (place : ℕ) (load : Load)
    → KeepsGains board cell_nets chips loads frees → place < length loads → AreGains cell_nets chips_after place load frees_after
    → ((other : ℕ) → place ≢ other → StaysThere chips chips_after other frees frees_after)
    → KeepsGains board cell_nets chips_after (set loads place load) frees_after
keeps_set board cell_nets chips chips_after loads frees frees_after place load keeps within here elsewhere other default low =
    let gains = λ (chip : ℕ) (x : Load). AreGains cell_nets chips_after chip x frees_after in
    let stays = λ (apart : place ≢ other).
    gains_stay cell_nets chips chips_after other (get_or loads other default) frees frees_after (keeps other default low) (elsewhere other apart) in
    loads_written gains loads place load within here other default stays

-- the nets of a cell are no longer counted at its chip
record HasLeft (cell_nets : CellNets) (chips frees frees_after : List ℕ) (from : ℕ) (load : Load) : Type 0 where
  here : AreGains cell_nets chips from load frees_after
  long : length frees_after ≡ length frees
  others : StayOff from chips frees frees_after

keeps_left : (board : Board) (cell_nets : CellNets) (chips : List ℕ) (loads : List Load) (frees frees_after : List ℕ) (from : ℕ) (load : Load)
    → KeepsGains board cell_nets chips loads frees → from < length loads → HasLeft cell_nets chips frees frees_after from load
    → KeepsGains board cell_nets chips (set loads from load) frees_after
keeps_left board cell_nets chips loads frees frees_after from load keeps within left =
    keeps_set board cell_nets chips chips loads frees frees_after from load keeps within left.here
    (λ other apart. record {
      long = left.long;
      cells = λ cell on. on;
      same = λ cell on. left.others cell (λ is. apart (sym is ∙ on));
    })

-- a cell has come to a chip: what it frees there is written first, and then its nets are counted there
pub record HasCome (cell_nets : CellNets) (chips chips_after frees frees_between frees_after : List ℕ) (cell chip lone : ℕ) (load : Load) : Type 0 where
  pub here : AreGains cell_nets chips_after chip load frees_after
  pub long : length frees_after ≡ length frees
  pub comes : get_or chips_after cell 0 ≡ chip
  pub chips_stay : StayBut cell chips chips_after
  pub written : frees_between ≡ set frees cell lone
  pub others : StayOff chip chips_after frees_between frees_after

pub keeps_come : (board : Board) (cell_nets : CellNets) (chips chips_after : List ℕ) (loads : List Load) (frees frees_between frees_after : List ℕ) (cell chip lone : ℕ) (load : Load)
    → KeepsGains board cell_nets chips loads frees → chip < length loads → HasCome cell_nets chips chips_after frees frees_between frees_after cell chip lone load
    → KeepsGains board cell_nets chips_after (set loads chip load) frees_after
keeps_come board cell_nets chips chips_after loads frees frees_between frees_after cell chip lone load keeps within come =
    keeps_set board cell_nets chips chips_after loads frees frees_after chip load keeps within come.here
    (λ other apart.
    let not_it = λ (place : ℕ) (on : get_or chips_after place 0 ≡ other) (is : cell ≡ place).
    apart (sym come.comes ∙ ap (λ (x : ℕ). get_or chips_after x 0) is ∙ on) in
    record {
      long = come.long;
      cells = λ place on. sym (come.chips_stay place (not_it place on)) ∙ on;
      same = λ place on.
          let counted = come.others place (λ is. apart (sym is ∙ on)) in
          let read = ap (λ (l : List ℕ). get_or l place 0) come.written in
          counted ∙ read ∙ get_or-set_other frees cell place lone 0 (λ same. not_it place on (sym same));
    })

-- ---- the next cell's chip

pub pushed_here : (chips : List ℕ) (chip : ℕ) → get_or (chips ++ chip ∷ []) (length chips) 0 ≡ chip
pushed_here [] chip = refl
pushed_here (first ∷ chips) chip = pushed_here chips chip

pub pushed_other : (chips : List ℕ) (chip other : ℕ) → (length chips ≡ other → ⊥) → get_or (chips ++ chip ∷ []) other 0 ≡ get_or chips other 0
pushed_other [] chip zero apart = absurd (apart refl)
pushed_other [] chip (suc other) apart = refl
pushed_other (first ∷ chips) chip zero apart = refl
pushed_other (first ∷ chips) chip (suc other) apart = pushed_other chips chip other (λ same. apart (ap suc same))

-- ---- what a deal's numbers say

module _ (deal : Deal) where
  -- its board
  abbrev board : Board
  board = deal.board.now

  -- the nets of its cells
  abbrev cell_nets : CellNets
  cell_nets = deal.cell_nets.now

  -- the chip of each cell
  abbrev chip_of : List ℕ
  chip_of = deal.chip_of.items

  -- what each chip holds
  abbrev loads : List Load
  loads = deal.loads.items

  -- how many nets each cell frees
  abbrev frees : List ℕ
  frees = deal.freed.counts.items

  pub gains_at : (chip : ℕ) (load : Load) → chip ≤ board.chips → load ≡ get_or loads chip load → AreGains cell_nets chip_of chip load frees
  gains_at chip load low found = subst (λ (x : Load). AreGains cell_nets chip_of chip x frees) (sym found) (deal.gains chip load low)

  -- between the two halves of a move
  pub gains_between : (from : ℕ) (left : Load) (frees_left chips : List ℕ) → from ≤ board.chips → chips ≡ chip_of
      → AreGains cell_nets chips from left frees_left → StayOff from chips frees frees_left → KeepsGains board cell_nets chip_of (set loads from left) frees_left
  gains_between from left frees_left chips low same gains others =
      keeps_left board cell_nets chip_of loads frees frees_left from left deal.gains (omega (arith, low, deal.is.nodes)) (record {
        here = subst (λ (l : List ℕ). AreGains cell_nets l from left frees_left) same gains;
        long = gains.freed_long ∙ sym (deal.gains from left low).freed_long;
        others = subst (λ (l : List ℕ). StayOff from l frees frees_left) same others;
      })

  pub freed_is : (cell : ℕ) → cell < length chip_of → get_or frees cell 0 ≡ freed cell_nets chip_of cell
  freed_is cell within =
      let chip = get_or chip_of cell 0 in
      let some_load : Load = record { cells = 0; held = deal.freed; met = deal.freed } in
      let was = All-get_or (IsChip board) chip_of cell 0 within deal.is.chips in
      let load = get_or loads chip some_load in
      let counted = λ (net : ℕ). get_or load.held.counts.items net 0 in
      let held = λ (net : ℕ). cells_held chip_of cell_nets.of_cells.items chip net in
      let each = λ (net : ℕ). ap (λ (n : ℕ). one_if (eqb n 1)) ((deal.is.held chip some_load was.1).counts net) in
      let same = sum_agree (λ net. one_if (eqb (counted net) 1)) (λ net. one_if (eqb (held net) 1)) (cell_nets_at cell_nets cell) each in
      (deal.gains chip some_load was.1).freed cell refl ∙ same

  pub met_is : (cell chip : ℕ) (load : Load) → chip ≤ board.chips → load ≡ get_or loads chip load → get_or load.met.counts.items cell 0 ≡ met cell_nets chip_of cell chip
  met_is cell chip load low found =
      let is = subst (λ (x : Load). IsLoad cell_nets chip_of chip x) (sym found) (deal.is.held chip load low) in
      let counted = λ (net : ℕ). get_or load.held.counts.items net 0 in
      let held = λ (net : ℕ). cells_held chip_of cell_nets.of_cells.items chip net in
      let each = λ (net : ℕ). ap (λ (n : ℕ). one_if (nat_lt 0 n)) (is.counts net) in
      let same = sum_agree (λ net. one_if (nat_lt 0 (counted net))) (λ net. one_if (nat_lt 0 (held net))) (cell_nets_at cell_nets cell) each in
      (gains_at chip load low found).met cell ∙ same
