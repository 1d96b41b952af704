-- Numbers that no lead of a sound plan is below.
use Rattle.std.proofs.Common.{◌≡◌, ◌≤◌, ◌+◌, ◌-◌, ◌&&◌, ℕ, zero, suc, Bool, true, false, List, [], ◌∷◌, length, map, slice_get, slice_index, nat_lt, eqb, cond, ap, refl, ◌∙◌, Option, Some, None, ⊎_elim, eq-eqb, eqb-true, arith}
use Rattle.std.proofs.lemmas.Bool.{cases_Bool, or_right}
use Rattle.vw_net.specs.declared.cell.Cell.{Cell}
use Rattle.vw_net.specs.declared.cell.Cell.TheVariants.{Gate, Latch}
use Rattle.vw_net.specs.Lists.{greatest}
use Rattle.vw_net.specs.Order.{gate_inputs, is_among, is_gate, read_nets_at}
use Rattle.vw_plan.specs.Lead.{brought_at, lead, usable}
use Rattle.vw_plan.specs.Nets.{driving_cell, greatest_read, is_needed}
use Rattle.vw_plan.specs.PlannedBoard.{PlannedBoard, home}
use Rattle.vw_plan.specs.Sound.{IsSound}
use Rattle.vw_plan.proofs.GreatestReads.{greatest_read-least}
use Rattle.vw_plan.proofs.LeadLevels.{lead-by_driver}
use Rattle.vw_plan.proofs.ReadNets.{read_needed}
use Rattle.vw_delays.specs.Delays.{least_delay}
use Rattle.vw_delays.specs.Ways.{AreWays}
use Rattle.vw_bound.specs.PlacedDesigns.{placed_by}
use Rattle.vw_bound.specs.Times.{level_soon, read_by, settling, soon, there_by}
use Rattle.vw_bound.proofs.BroughtWires.{pair_late}

-- a greatest number of what a gate reads is below another where each number is
pub greatest_below : (f : ℕ → ℕ) (most : ℕ) (nets : List ℕ) → ((net : ℕ) → is_among nets net ≡ true → f net ≤ most) → greatest (map f nets) ≤ most
greatest_below f most [] below = omega arith
greatest_below f most (net ∷ nets) below =
    let here : is_among (net ∷ nets) net ≡ true = rw (eq-eqb net net refl) refl in
    let first : f net ≤ most = below net here in
    let rest = greatest_below f most nets (λ other among. below other (later net other nets among)) in
    omega (arith, first, rest)
  where
    later : (net other : ℕ) (nets : List ℕ) → is_among nets other ≡ true → is_among (net ∷ nets) other ≡ true
    later net other nets among = or_right (eqb net other) (is_among nets other) among

pub read_below : (f : ℕ → ℕ) (most : ℕ) (cell : Option Cell) → ((net : ℕ) → is_among (gate_inputs cell) net ≡ true → f net ≤ most) → greatest_read f cell ≤ most
read_below f most None below = omega arith
read_below f most (Some (Gate ins cover)) below = greatest_below f most ins below
read_below f most (Some (Latch d init)) below = omega arith

module _ (planned : PlannedBoard) (sound : IsSound planned) (ways : AreWays planned.board.links (least_delay planned.board)) where
  -- a net settles at its own node
  pub usable_home : (net : ℕ) → usable planned (home planned net) net ≡ lead planned (home planned net) net + settling (placed_by planned) net
  usable_home net =
      let own : eqb (home planned net) (home planned net) ≡ true = eq-eqb (home planned net) (home planned net) refl in
      let gate = is_gate (driving_cell planned.ordered.flat net) in
      ap (λ (here : Bool). lead planned (home planned net) net + cond (gate && here) planned.board.settle 0) own ∙ by gate
    where
      by : (gate : Bool) → lead planned (home planned net) net + cond (gate && true) planned.board.settle 0 ≡ lead planned (home planned net) net + cond gate planned.board.settle 0
      by true = refl
      by false = refl

  -- at its own node a gate's net has the lead of what it reads
  pub lead_home : (net : ℕ) → lead planned (home planned net) net ≡ greatest_read (lead planned (home planned net)) (driving_cell planned.ordered.flat net)
  lead_home net =
      lead-by_driver planned (home planned net) net
      ∙ ap (λ (own : Bool). cond own (greatest_read (lead planned (home planned net)) (driving_cell planned.ordered.flat net)) (brought_at planned (home planned net) net)) (eq-eqb (home planned net) (home planned net) refl)

  -- at another one it has its arrival
  pub lead_away : (node net : ℕ) → eqb (home planned net) node ≡ false → lead planned node net ≡ brought_at planned node net
  lead_away node net away =
      lead-by_driver planned node net
      ∙ ap (λ (own : Bool). cond own (greatest_read (lead planned node) (driving_cell planned.ordered.flat net)) (brought_at planned node net)) away

  -- what the gate of a net reads from another node is needed at the net's
  pub read_needed_home : (net read : ℕ) → is_among (gate_inputs (driving_cell planned.ordered.flat net)) read ≡ true
      → eqb (home planned read) (home planned net) ≡ false → is_needed planned.ordered.flat planned.plan.chip_of read (home planned net) ≡ true
  read_needed_home net read among away = by (nat_lt net planned.ordered.flat.inputs) among away where
    as_read : (cell : Option Cell) → is_among (gate_inputs cell) read ≡ true → is_among (read_nets_at cell) read ≡ true
    as_read None is = is
    as_read (Some (Gate ins cover)) is = is
    as_read (Some (Latch d init)) is = cc

    by : (input : Bool) → is_among (gate_inputs (cond input None (slice_get planned.ordered.flat.cells (net - planned.ordered.flat.inputs)))) read ≡ true
        → eqb (home planned read) (cond input 0 (slice_index planned.plan.chip_of (net - planned.ordered.flat.inputs))) ≡ false
        → is_needed planned.ordered.flat planned.plan.chip_of read (cond input 0 (slice_index planned.plan.chip_of (net - planned.ordered.flat.inputs))) ≡ true
    by true reads apart = cc
    by false reads apart = read_needed planned.ordered.flat planned.plan.chip_of (net - planned.ordered.flat.inputs) read sound.one_chip_each.each (as_read (slice_get planned.ordered.flat.cells (net - planned.ordered.flat.inputs)) reads) apart

  -- ---- by any numbers

  -- a number of a net that its lead at its own node isn't below
  abbrev pub IsSoonBy : (ℕ → ℕ) → ℕ → Type 0
  IsSoonBy soon_of net = soon_of net ≤ lead planned (home planned net) net

  -- then no needed pair is there sooner than by these numbers
  pub there_late : (soon_of : ℕ → ℕ) (net node : ℕ) → IsSoonBy soon_of net → is_needed planned.ordered.flat planned.plan.chip_of net node ≡ true
      → there_by (placed_by planned) soon_of net node ≤ brought_at planned node net
  there_late soon_of net node late needed =
      omega (arith, late, usable_home net, pair_late planned sound (least_delay planned.board) ways net node needed)

  -- nor what a gate of the node reads
  pub read_late : (soon_of : ℕ → ℕ) (net read : ℕ) → IsSoonBy soon_of read → is_among (gate_inputs (driving_cell planned.ordered.flat net)) read ≡ true
      → read_by (placed_by planned) soon_of (home planned net) read ≤ lead planned (home planned net) read
  read_late soon_of net read late among =
      let node = home planned net in
      let Goal = cond (eqb (home planned read) node) (soon_of read) (there_by (placed_by planned) soon_of read node) ≤ lead planned node read in
      let if_own = λ (own : eqb (home planned read) node ≡ true).
      let same : lead planned (home planned read) read ≡ lead planned node read = ap (λ (at : ℕ). lead planned at read) (eqb-true (home planned read) node own) in
      let got : Goal = rw own (omega (arith, late, same)) in got in
      let if_away = λ (away : eqb (home planned read) node ≡ false).
      let got : Goal = rw away (omega (arith, there_late soon_of read node late (read_needed_home net read among away), lead_away node read away)) in got in
      ⊎_elim if_own if_away (cases_Bool (eqb (home planned read) node))

  -- so the greatest of these is a further such number
  pub driver_late : (soon_of : ℕ → ℕ) (net : ℕ) → ((other : ℕ) → IsSoonBy soon_of other)
      → greatest_read (read_by (placed_by planned) soon_of (home planned net)) (driving_cell planned.ordered.flat net) ≤ lead planned (home planned net) net
  driver_late soon_of net late =
      let reads = driving_cell planned.ordered.flat net in
      let below = read_below (read_by (placed_by planned) soon_of (home planned net)) (greatest_read (lead planned (home planned net)) reads) reads
      (λ read among. let least = greatest_read-least (lead planned (home planned net)) reads read among in omega (arith, least, read_late soon_of net read (late read) among)) in
      omega (arith, below, lead_home net)

  -- ---- by levels

  level_late : (level net : ℕ) → level_soon level (placed_by planned) net ≤ lead planned (home planned net) net
  level_late zero net = omega arith
  level_late (suc level) net = driver_late (level_soon level (placed_by planned)) net (level_late level)

  -- no lead is below the least one
  pub soon_late : (net : ℕ) → soon (placed_by planned) net ≤ lead planned (home planned net) net
  unfolding soon
  soon_late net = level_late (length planned.ordered.flat.cells + 1) net
