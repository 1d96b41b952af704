-- A deal after one more cell, and after a move.
use Rattle.std.proofs.Common.{◌≡◌, ◌≢◌, ◌<◌, ◌≤◌, ◌+◌, ◌*◌, ℕ, List, [], ◌∷◌, ◌++◌, length, get_or, set, nat_lt, sym, subst, ◌∙◌, ⊎_elim, All, arith}
use Rattle.std.proofs.lemmas.Bool.{cases_eq}
use Rattle.std.proofs.lemmas.List.{get_or-set_other, get_or-set_same, length-set, length_push}
use Rattle.std.proofs.lemmas.List.Elements.{All-get_or, All-push, All-set}
use Rattle.std.proofs.lemmas.List.Sums.{count_by-le-length}
use Rattle.vw_plan.specs.declared.board.Board.{Board}
use Rattle.vw_plan.specs.Chips.{IsChip, cells_on}
use Rattle.vw_part.specs.declared.deal.Deal.{Deal}
use Rattle.vw_part.specs.declared.load.Load.{Load}
use Rattle.vw_part.specs.declared.cell_nets.CellNets.{CellNets}
use Rattle.vw_part.specs.Steps.Deals.{IsDeal, IsLoad, MayMoveTo, cells_held, met, cell_nets_at}
use Rattle.vw_part.specs.Steps.CellNets.{times_among}
use Rattle.vw_part.proofs.ChipLoads.{all_full, held_push, held_set, on_all, on_push, on_set}
use Rattle.vw_part.proofs.Shares.{at, at_other, at_same}

-- the chips below a number have no room
abbrev pub AreFullBelow : Board → List ℕ → ℕ → Type 0
AreFullBelow board chips bound = (chip : ℕ) → 1 ≤ chip → chip < bound → board.cells ≤ cells_on chips chip

-- some chip has room
pub not_all_full : (board : Board) (chips : List ℕ) → All (IsChip board) chips → length chips < board.chips * board.cells → AreFullBelow board chips (1 + board.chips) → ⊥
not_all_full board chips real few full =
    omega (arith, few, on_all chips board.chips real, all_full (cells_on chips) board.cells 1 board.chips full)

-- a load with one more cell, or one less
pub record HasCellMore (own : List ℕ) (before after : Load) : Type 0 where
  pub cells : after.cells ≡ before.cells + 1
  pub long : length after.held.counts.items ≡ length before.held.counts.items
  pub counts : (net : ℕ) → get_or after.held.counts.items net 0 ≡ get_or before.held.counts.items net 0 + times_among own net

-- one load is written: what holds of it, and of the loads of all other chips, then holds of every chip's load
pub loads_written : (Holds : ℕ → Load → Type 0) (loads : List Load) (place : ℕ) (load : Load) → place < length loads → Holds place load
    → (chip : ℕ) (default : Load) → (place ≢ chip → Holds chip (get_or loads chip default)) → Holds chip (get_or (set loads place load) chip default)
loads_written Holds loads place load within here chip default elsewhere =
    let if_here = λ (is : place ≡ chip).
    let written = subst (λ (x : Load). Holds place x) (sym (get_or-set_same loads place load default within)) here in
    subst (λ (x : ℕ). Holds x (get_or (set loads place load) x default)) is written in
    let if_not = λ (apart : place ≢ chip).
    let kept = get_or-set_other loads place chip load default (λ same. apart (sym same)) in
    subst (λ (x : Load). Holds chip x) (sym kept) (elsewhere apart) in
    ⊎_elim if_here if_not (cases_eq place chip)

-- ---- after one more cell

-- the next cell may be put on a chip
pub record MayPut (board : Board) (cell_nets : CellNets) (chips : List ℕ) (chip : ℕ) : Type 0 where
  pub next : length chips < length cell_nets.of_cells.items
  pub real : IsChip board chip
  pub room : cells_on chips chip < board.cells

-- it is put there, and the chip's load has one more cell
module _ (board : Board) (cell_nets : CellNets) (chips : List ℕ) (loads : List Load) (chip : ℕ) (load : Load)
    (is : IsDeal board cell_nets chips loads) (may : MayPut board cell_nets chips chip)
    (more : HasCellMore (cell_nets_at cell_nets (length chips)) (get_or loads chip load) load) where
  -- the chips of the cells with the new one
  abbrev pushed : List ℕ
  pushed = chips ++ chip ∷ []

  -- how often the new cell has a net
  abbrev times_pushed : ℕ → ℕ
  times_pushed net = times_among (cell_nets_at cell_nets (length chips)) net

  room_when_pushed : (other : ℕ) → cells_on pushed other ≤ board.cells
  room_when_pushed other =
      let if_here = λ (here : chip ≡ other).
      let fits : cells_on pushed chip ≤ board.cells = omega (arith, on_push chips chip chip, at_same chip 1, may.room) in
      subst (λ (x : ℕ). cells_on pushed x ≤ board.cells) here fits in
      let if_not = λ (apart : chip ≢ other).
      let fits : cells_on pushed other ≤ board.cells = omega (arith, on_push chips chip other, at_other chip 1 other apart, is.room other) in fits in
      ⊎_elim if_here if_not (cases_eq chip other)

  -- the chip's own load, and those of the others
  load_with_pushed : IsLoad cell_nets pushed chip load
  load_with_pushed =
      let old = is.held chip load may.real.1 in
      record {
        cells = omega (arith, more.cells, old.cells, on_push chips chip chip, at_same chip 1);
        long = more.long ∙ old.long;
        counts = λ net.
            let held = held_push chips cell_nets.of_cells.items chip chip net may.next in
            omega (arith, more.counts net, old.counts net, held, at_same chip (times_pushed net));
      }

  load_beside_pushed : (other : ℕ) (old : Load) → chip ≢ other → IsLoad cell_nets chips other old → IsLoad cell_nets pushed other old
  load_beside_pushed other old apart was = record {
    cells = omega (arith, was.cells, on_push chips chip other, at_other chip 1 other apart);
    long = was.long;
    counts = λ net.
        let held = held_push chips cell_nets.of_cells.items chip other net may.next in
        omega (arith, was.counts net, held, at_other chip (times_pushed net) other apart);
  }

  -- so there is a deal with the cell
  pub dealt_more : (chips_after : List ℕ) (loads_after : List Load) → chips_after ≡ pushed → loads_after ≡ set loads chip load → IsDeal board cell_nets chips_after loads_after
  dealt_more chips_after loads_after chips_are loads_are =
      let within : chip < length loads = omega (arith, is.nodes, may.real.1) in
      let deal : IsDeal board cell_nets pushed (set loads chip load) = record {
        few = omega (arith, length_push chips chip, may.next);
        chips = All-push (IsChip board) chips chip is.chips may.real;
        room = room_when_pushed;
        nodes = length-set loads chip load ∙ is.nodes;
        held = λ other default low.
            let beside = λ (apart : chip ≢ other). load_beside_pushed other (get_or loads other default) apart (is.held other default low) in
            loads_written (IsLoad cell_nets pushed) loads chip load within load_with_pushed other default beside;
      } in
      rw (chips_are, loads_are) deal

-- ---- after a move

-- a cell moves to a chip where it may: the load that it leaves has one cell less, and that to which it comes one more
module _ (board : Board) (cell_nets : CellNets) (chips : List ℕ) (loads : List Load) (cell chip : ℕ) (left come : Load)
    (is : IsDeal board cell_nets chips loads) (within : cell < length chips) (target : MayMoveTo board chips cell chip)
    (less : HasCellMore (cell_nets_at cell_nets cell) left (get_or loads (get_or chips cell 0) left))
    (more : HasCellMore (cell_nets_at cell_nets cell) (get_or loads chip come) come) where
  -- the chip that the cell leaves
  abbrev from : ℕ
  from = get_or chips cell 0

  -- the chips of the cells after the move
  abbrev moved : List ℕ
  moved = set chips cell chip

  -- the loads when the cell has left the one chip, and has not come to the other
  abbrev loads_between : List Load
  loads_between = set loads from left

  -- how often the cell that moves has a net
  abbrev times_moved : ℕ → ℕ
  times_moved net = times_among (cell_nets_at cell_nets cell) net

  -- how many cells of a chip hold a net, where cells are on these chips
  abbrev held_on : List ℕ → ℕ → ℕ → ℕ
  held_on places other net = cells_held places cell_nets.of_cells.items other net

  cells_moved : (other : ℕ) → cells_on moved other + at from 1 other ≡ cells_on chips other + at chip 1 other
  cells_moved other = on_set chips cell chip other within

  nets_moved : (other net : ℕ) → held_on moved other net + at from (times_moved net) other ≡ held_on chips other net + at chip (times_moved net) other
  nets_moved other net = held_set chips cell_nets.of_cells.items cell chip other net within

  from_real : IsChip board from
  from_real = All-get_or (IsChip board) chips cell 0 within is.chips

  back_away : chip ≢ from
  back_away same = target.away (sym same)

  room_when_moved : (other : ℕ) → cells_on moved other ≤ board.cells
  room_when_moved other =
      let if_here = λ (here : chip ≡ other).
      let fits : cells_on moved chip ≤ board.cells = omega (arith, cells_moved chip, at_same chip 1, target.room) in
      subst (λ (x : ℕ). cells_on moved x ≤ board.cells) here fits in
      let if_not = λ (apart : chip ≢ other).
      let fits : cells_on moved other ≤ board.cells = omega (arith, cells_moved other, at_other chip 1 other apart, is.room other) in fits in
      ⊎_elim if_here if_not (cases_eq chip other)

  -- the loads of the two chips, and those of the others
  load_that_it_leaves : IsLoad cell_nets moved from left
  load_that_it_leaves =
      let old = is.held from left from_real.1 in
      record {
        cells = omega (arith, less.cells, old.cells, cells_moved from, at_same from 1, at_other chip 1 from back_away);
        long = sym less.long ∙ old.long;
        counts = λ net.
            let none = at_other chip (times_moved net) from back_away in
            omega (arith, less.counts net, old.counts net, nets_moved from net, at_same from (times_moved net), none);
      }

  load_to_which_it_comes : IsLoad cell_nets moved chip come
  load_to_which_it_comes =
      let old = is.held chip come target.real.1 in
      record {
        cells = omega (arith, more.cells, old.cells, cells_moved chip, at_same chip 1, at_other from 1 chip target.away);
        long = more.long ∙ old.long;
        counts = λ net.
            let none = at_other from (times_moved net) chip target.away in
            omega (arith, more.counts net, old.counts net, nets_moved chip net, at_same chip (times_moved net), none);
      }

  load_beside_moved : (other : ℕ) (old : Load) → chip ≢ other → from ≢ other → IsLoad cell_nets chips other old → IsLoad cell_nets moved other old
  load_beside_moved other old apart away was = record {
    cells = omega (arith, was.cells, cells_moved other, at_other chip 1 other apart, at_other from 1 other away);
    long = was.long;
    counts = λ net.
        let not_come = at_other chip (times_moved net) other apart in
        let not_left = at_other from (times_moved net) other away in
        omega (arith, was.counts net, nets_moved other net, not_come, not_left);
  }

  -- so there is a deal after the move
  pub dealt_moved : (chips_after : List ℕ) (loads_after : List Load) → chips_after ≡ moved → loads_after ≡ set loads_between chip come → IsDeal board cell_nets chips_after loads_after
  dealt_moved chips_after loads_after chips_are loads_are =
      let between_long = length-set loads from left in
      let from_within : from < length loads = omega (arith, is.nodes, from_real.1) in
      let chip_within : chip < length loads_between = omega (arith, between_long, is.nodes, target.real.1) in
      let deal : IsDeal board cell_nets moved (set loads_between chip come) = record {
        few = omega (arith, length-set chips cell chip, is.few);
        chips = All-set (IsChip board) chips cell chip target.real is.chips;
        room = room_when_moved;
        nodes = length-set loads_between chip come ∙ between_long ∙ is.nodes;
        held = λ other default low.
            let beside = λ (apart : chip ≢ other) (away : from ≢ other).
            load_beside_moved other (get_or loads other default) apart away (is.held other default low) in
            let between = λ (apart : chip ≢ other).
            loads_written (IsLoad cell_nets moved) loads from left from_within load_that_it_leaves other default (beside apart) in
            loads_written (IsLoad cell_nets moved) loads_between chip come chip_within load_to_which_it_comes other default between;
      } in
      rw (chips_are, loads_are) deal

-- ---- what a load says of its chip

pub loaded : (deal : Deal) (chip : ℕ) (load : Load) → chip ≤ deal.board.now.chips → load ≡ get_or deal.loads.items chip load → IsLoad deal.cell_nets.now deal.chip_of.items chip load
loaded deal chip load low found = subst (λ (x : Load). IsLoad deal.cell_nets.now deal.chip_of.items chip x) (sym found) (deal.is.held chip load low)

pub met-le : (cell_nets : CellNets) (chips : List ℕ) (cell chip : ℕ) → met cell_nets chips cell chip ≤ length (cell_nets_at cell_nets cell)
met-le cell_nets chips cell chip = count_by-le-length (λ net. nat_lt 0 (cells_held chips cell_nets.of_cells.items chip net)) (cell_nets_at cell_nets cell)
