-- What needed pairs and latches ask of a period.
use Rattle.std.proofs.Common.{◌≡◌, ◌≤◌, ◌+◌, ◌-◌, ℕ, suc, Bool, true, false, List, [], ◌∷◌, map, slice_get, slice_index, eqb, cond, nat_lt, le-ltb, ap, refl, sym, subst, ◌∙◌, Option, Some, ⊎_elim, eq-eqb, eqb-true, arith}
use Rattle.std.proofs.lemmas.Bool.{cases_Bool, or_left}
use Rattle.vw_net.specs.declared.cell.Cell.{Cell}
use Rattle.vw_net.specs.declared.cell.Cell.TheVariants.{Gate, Latch}
use Rattle.vw_net.specs.Lists.{greatest}
use Rattle.vw_net.specs.Order.{is_among, read_nets_at}
use Rattle.vw_net.specs.declared.cell.Init.{Init}
use Rattle.vw_plan.specs.declared.need.Need.{Need}
use Rattle.vw_plan.specs.Lead.{usable}
use Rattle.vw_plan.specs.Needs.{needed_pairs}
use Rattle.vw_plan.specs.PlannedBoard.{PlannedBoard, home, planned_board}
use Rattle.vw_plan.specs.Sound.{IsSound}
use Rattle.vw_plan.proofs.ReadNets.{read_needed}
use Rattle.vw_delays.specs.Delays.{least_delay}
use Rattle.vw_delays.specs.Ways.{AreWays}
use Rattle.vw_delays.proofs.LevelDelays.{least_ways}
use Rattle.vw_bound.specs.PlacedDesigns.{PlacedDesign, placed_by, placed_design}
use Rattle.vw_bound.specs.Times.{cells_due_by, depth_bound, due_by, soon, there_by}
use Rattle.vw_bound.specs.Bounds.{IsPeriodBound}
use Rattle.vw_bound.proofs.BroughtWires.{pair_in_period}
use Rattle.vw_bound.proofs.ListedNeeds.{listed_needed}
use Rattle.vw_bound.proofs.SoonLeads.{IsSoonBy, soon_late, there_late, usable_home}

-- numbers of needs, each of which is at most a number
needs_below : (f : Need → ℕ) (most : ℕ) (needs : List Need) → ((need : Need) (place : ℕ) → slice_get needs place ≡ Some need → f need ≤ most) → greatest (map f needs) ≤ most
needs_below f most [] below = omega arith
needs_below f most (need ∷ needs) below =
    let first = below need 0 refl in
    let rest = needs_below f most needs (λ other place at. below other (suc place) at) in
    omega (arith, first, rest)

later : (number : ℕ) (first : Cell) (cells all : List Cell) → ((place : ℕ) (cell : Cell) → slice_get (first ∷ cells) place ≡ Some cell → slice_get all (number + place) ≡ Some cell)
    → (place : ℕ) (cell : Cell) → slice_get cells place ≡ Some cell → slice_get all (suc number + place) ≡ Some cell
later number first cells all are place cell at = let one : suc number + place ≡ number + suc place = omega arith in ap (slice_get all) one ∙ are (suc place) cell at

module _ (planned : PlannedBoard) (sound : IsSound planned) (ways : AreWays planned.board.links (least_delay planned.board))
    (soon_of : ℕ → ℕ) (late : (net : ℕ) → IsSoonBy planned sound ways soon_of net) where
  abbrev due_at : ℕ → ℕ → ℕ
  due_at net node = there_by (placed_by planned) soon_of net node

  needs_due : greatest (map (λ (need : Need). due_at need.net need.to) (needed_pairs planned.ordered.flat planned.plan.chip_of)) ≤ planned.plan.period
  needs_due = needs_below (λ need. due_at need.net need.to) planned.plan.period (needed_pairs planned.ordered.flat planned.plan.chip_of) (λ need place at.
      let needed = listed_needed planned.ordered.flat planned.plan.chip_of need place at in
      omega (arith, there_late planned sound ways soon_of need.net need.to (late need.net) needed, pair_in_period planned sound need.net need.to needed))

  -- the node of a cell's net is the cell's chip
  cell_home : (number : ℕ) → home planned (planned.ordered.flat.inputs + number) ≡ slice_index planned.plan.chip_of number
  cell_home number =
      let inputs = planned.ordered.flat.inputs in
      let no_input : nat_lt (inputs + number) inputs ≡ false = le-ltb (inputs + number) inputs (omega arith) in
      let its : inputs + number - inputs ≡ number = omega arith in
      ap (λ (input : Bool). cond input 0 (slice_index planned.plan.chip_of (inputs + number - inputs))) no_input ∙ ap (slice_index planned.plan.chip_of) its

  -- what a latch reads is its node's own, and settles in time, or it is brought there
  latch_due : (number d : ℕ) (init : Init) → slice_get planned.ordered.flat.cells number ≡ Some (Latch d init) → due_at d (slice_index planned.plan.chip_of number) ≤ planned.plan.period
  latch_due number d init is =
      let node = slice_index planned.plan.chip_of number in
      let reads : is_among (read_nets_at (slice_get planned.ordered.flat.cells number)) d ≡ true = ap (λ (cell : Option Cell). is_among (read_nets_at cell) d) is ∙ or_left (eqb d d) false (eq-eqb d d refl) in
      let if_own = λ (own : eqb (home planned d) node ≡ true).
      let in_time : usable planned (home planned (planned.ordered.flat.inputs + number)) d ≤ planned.plan.period = sound.latches_in_time number d init is in
      let same : home planned d ≡ node = eqb-true (home planned d) node own in
      let here : usable planned (home planned (planned.ordered.flat.inputs + number)) d ≡ usable planned (home planned d) d = ap (λ (at : ℕ). usable planned at d) (cell_home number ∙ sym same) in
      let no_way : least_delay planned.board (home planned d) node ≡ 0 = ap (least_delay planned.board (home planned d)) (sym same) ∙ ways.own (home planned d) in
      let got : due_at d node ≤ planned.plan.period = omega (arith, late d, in_time, here, no_way, usable_home planned sound ways d) in got in
      let if_away = λ (away : eqb (home planned d) node ≡ false).
      let needed = read_needed planned.ordered.flat planned.plan.chip_of number d sound.one_chip_each.each reads away in
      let got : due_at d node ≤ planned.plan.period = omega (arith, there_late planned sound ways soon_of d node (late d) needed, pair_in_period planned sound d node needed) in got in
      ⊎_elim if_own if_away (cases_Bool (eqb (home planned d) node))

  cells_due : (number : ℕ) (cells : List Cell) → ((place : ℕ) (cell : Cell) → slice_get cells place ≡ Some cell → slice_get planned.ordered.flat.cells (number + place) ≡ Some cell)
      → cells_due_by (placed_by planned) soon_of number cells ≤ planned.plan.period
  cells_due number [] are = omega arith
  cells_due number (Gate ins cover ∷ cells) are =
      let rest = cells_due (suc number) cells (later number (Gate ins cover) cells planned.ordered.flat.cells are) in
      omega (arith, rest)
  cells_due number (Latch d init ∷ cells) are =
      let rest = cells_due (suc number) cells (later number (Latch d init) cells planned.ordered.flat.cells are) in
      let none : number + 0 ≡ number = omega arith in
      let here = latch_due number d init (ap (slice_get planned.ordered.flat.cells) (sym none) ∙ are 0 (Latch d init) refl) in
      omega (arith, rest, here)

  -- so the last of all is no later than the end of the period
  pub due_in_period : due_by (placed_by planned) soon_of ≤ planned.plan.period
  due_in_period = omega (arith, needs_due, cells_due 0 planned.ordered.flat.cells (λ place cell at. let none : 0 + place ≡ place = omega arith in ap (slice_get planned.ordered.flat.cells) none ∙ at), sound.a_period)

-- as in any plan for these chips
pub of_plans : (placed : PlacedDesign) (bound : PlacedDesign → ℕ) → ((planned : PlannedBoard) → IsSound planned → bound (placed_by planned) ≤ planned.plan.period) → IsPeriodBound placed (bound placed)
of_plans placed bound all plan same sound =
    subst (λ (chips : List ℕ). bound (placed_design placed.ordered placed.board chips) ≤ plan.period) same (all (planned_board placed.ordered placed.board plan) sound)

-- no period is below what the depth asks for
pub depth_bounds : (placed : PlacedDesign) → IsPeriodBound placed (depth_bound placed)
depth_bounds placed = of_plans placed depth_bound (λ planned sound. due_in_period planned sound (least_ways planned.board) (soon (placed_by planned)) (soon_late planned sound (least_ways planned.board)))
