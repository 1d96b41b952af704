-- The nets that gates read, and the one of them that is there last.
use Rattle.std.proofs.Common.{◌≡◌, ◌<◌, ◌≤◌, ◌+◌, ◌-◌, ℕ, true, false, Bool, List, [], ◌∷◌, length, map, nat_lt, slice_get, slice_index, Option, None, Some, eq-eqb, le-ltb, ap, refl, sym, ◌∙◌, All, true≢false, arith, if◌then◌else◌}
use Rattle.std.proofs.lemmas.List.Elements.{All-head, All-tail}
use Rattle.vw_net.specs.declared.cell.Cell.{Cell}
use Rattle.vw_net.specs.declared.cell.Cell.TheVariants.{Gate, Latch}
use Rattle.vw_net.specs.declared.cover.Cover.{Cover}
use Rattle.vw_net.specs.Lists.{greatest}
use Rattle.vw_net.specs.Order.{gate_inputs, is_among, is_gate}
use Rattle.vw_net.proofs.FittingCells.{cell_fits}
use Rattle.vw_net.proofs.Orders.{among_below}
use Rattle.vw_plan.specs.Lead.{brought_at, lead}
use Rattle.vw_plan.specs.ChainsBack.{is_read_by}
use Rattle.vw_plan.specs.Nets.{driving_cell, greatest_read}
use Rattle.vw_plan.specs.PlannedBoard.{PlannedBoard, home}
use Rattle.vw_plan.specs.Sound.{IsSound}
use Rattle.vw_plan.proofs.GreatestReads.{greatest_read-least}
use Rattle.vw_plan.proofs.LeadLevels.{lead-by_driver}
use Rattle.vw_plan.proofs.ReadNets.{read_or_needed}
use Rattle.vw_chain.specs.Steps.{IsLastRead, IsThere, chip_at, net_of}

-- a greatest number is of something
pub some_greatest : (f : ℕ → ℕ) (xs : List ℕ) → 0 < greatest (map f xs) → 0 < length xs
some_greatest f [] less = absurd (omega (arith, less))
some_greatest f (x ∷ xs) less = omega arith

-- and no greater than what none of them is above
greatest_below : (f : ℕ → ℕ) (most : ℕ) (xs : List ℕ) → All (λ x. f x ≤ most) xs → greatest (map f xs) ≤ most
greatest_below f most [] all = omega arith
greatest_below f most (x ∷ xs) all =
    let here = All-head (λ (one : ℕ). f one ≤ most) x xs all in
    let rest = greatest_below f most xs (All-tail (λ (one : ℕ). f one ≤ most) x xs all) in
    omega (arith, here, rest)

-- what stands at the number of a gate is one
pub gate_by : (found : Option Cell) → is_gate found ≡ true → (ins : List ℕ) × (cover : Cover) × (found ≡ Some (Gate ins cover))
gate_by None gate = absurd (true≢false (sym gate))
gate_by (Some (Gate ins cover)) gate = (ins, cover, refl)
gate_by (Some (Latch d init)) gate = absurd (true≢false (sym gate))

module _ (planned : PlannedBoard) (number : ℕ) where
  abbrev cells : List Cell
  cells = planned.ordered.flat.cells

  past_inputs : nat_lt (net_of planned number) planned.ordered.flat.inputs ≡ false
  past_inputs = le-ltb (net_of planned number) planned.ordered.flat.inputs (omega arith)

  its_number : net_of planned number - planned.ordered.flat.inputs ≡ number
  its_number = omega arith

  -- the net of a cell is driven by it, and on its chip
  pub its_driver : driving_cell planned.ordered.flat (net_of planned number) ≡ slice_get cells number
  its_driver = ap (λ (input : Bool). if input then None else slice_get cells (net_of planned number - planned.ordered.flat.inputs)) past_inputs ∙ ap (slice_get cells) its_number

  pub its_home : home planned (net_of planned number) ≡ chip_at planned number
  its_home = ap (λ (input : Bool). if input then 0 else slice_index planned.plan.chip_of (net_of planned number - planned.ordered.flat.inputs)) past_inputs ∙ ap (slice_index planned.plan.chip_of) its_number

  -- its lead there is the greatest of what it reads
  own_lead : lead planned (chip_at planned number) (net_of planned number) ≡ greatest_read (lead planned (chip_at planned number)) (slice_get cells number)
  own_lead =
      let node = chip_at planned number in
      let net = net_of planned number in
      lead-by_driver planned node net
      ∙ ap (λ (own : Bool). if own then greatest_read (lead planned node) (driving_cell planned.ordered.flat net) else brought_at planned node net) (eq-eqb (home planned net) node its_home)
      ∙ ap (greatest_read (lead planned node)) its_driver

  module _ (ins : List ℕ) (cover : Cover) (here : slice_get cells number ≡ Some (Gate ins cover)) where
    gate_lead : lead planned (chip_at planned number) (net_of planned number) ≡ greatest (map (lead planned (chip_at planned number)) ins)
    gate_lead = own_lead ∙ ap (greatest_read (lead planned (chip_at planned number))) here

    -- a gate that waits reads something
    pub reads_some : 0 < lead planned (chip_at planned number) (net_of planned number) → 0 < length ins
    reads_some late = some_greatest (lead planned (chip_at planned number)) ins (omega (arith, late, gate_lead))

    pub reads : (net : ℕ) → is_read_by planned.ordered.flat (net_of planned number) net ≡ is_among ins net
    reads net = ap (λ (cell : Option Cell). is_among (gate_inputs cell) net) (its_driver ∙ here)

    -- one of those, before which no other comes, is read last
    pub is_last : (net : ℕ) → is_among ins net ≡ true → All (λ other. lead planned (chip_at planned number) other ≤ lead planned (chip_at planned number) net) ins
        → IsLastRead planned number net
    is_last net among all =
        let f = lead planned (chip_at planned number) in
        let below = greatest_below f (f net) ins all in
        let least = greatest_read-least f (Some (Gate ins cover)) net among in
        record { read = reads net ∙ among; last = omega (arith, below, least, gate_lead) }

    -- a net that it reads is one of the netlist, and of its node or brought there
    pub read_net : (net : ℕ) → is_among ins net ≡ true → net < planned.ordered.flat.inputs + length cells
    read_net net among = among_below ins net (planned.ordered.flat.inputs + length cells) (cell_fits (planned.ordered.flat.inputs + length cells) cells number (Gate ins cover) planned.ordered.flat.cells_fit here).1 among

    pub read_there : IsSound planned → (net : ℕ) → is_among ins net ≡ true → IsThere planned (chip_at planned number) net
    read_there sound net among = read_or_needed planned.ordered.flat planned.plan.chip_of number net (Gate ins cover) sound.one_chip_each.each here among

  -- the same of a net that is read last
  module _ (gate : is_gate (slice_get cells number) ≡ true) (net : ℕ) (its : IsLastRead planned number net) where
    abbrev at : (ins : List ℕ) × (cover : Cover) × (slice_get cells number ≡ Some (Gate ins cover))
    at = gate_by (slice_get cells number) gate

    among : is_among at.0 net ≡ true
    among = sym (reads at.0 at.1 at.2 net) ∙ its.read

    pub last_net : net < planned.ordered.flat.inputs + length cells
    last_net = read_net at.0 at.1 at.2 net among

    pub last_there : IsSound planned → IsThere planned (chip_at planned number) net
    last_there sound = read_there at.0 at.1 at.2 sound net among
