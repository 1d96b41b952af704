-- Nets that aren't usable when they have to be, and the points of a sound plan that they break.
use Rattle.std.proofs.Common.{◌≡◌, ◌<◌, ◌≤◌, ◌+◌, ℕ, zero, suc, List, [], ◌∷◌, length, Option, Some, None, nat_le, slice_get, get_or, refl, sym, subst, ◌∙◌, All, arith}
use Rattle.std.specs.Option.{option_and_then, ForSome}
use Rattle.std.proofs.lemmas.Bool.{leb-true, le-leb}
use Rattle.std.proofs.lemmas.Option.{none-some}
use Rattle.vw_net.specs.declared.cell.Cell.{Cell}
use Rattle.vw_net.specs.declared.cell.Cell.TheVariants.{Gate, Latch}
use Rattle.vw_net.specs.declared.cell.Init.{Init}
use Rattle.vw_plan.specs.declared.plan.Plan.{Plan}
use Rattle.vw_plan.specs.declared.wire.Hop.{Hop}
use Rattle.vw_plan.specs.PlannedBoard.{PlannedBoard}
use Rattle.vw_plan.specs.Sound.{IsSentWhenUsable, AreLatchesInTime}
use Rattle.vw_check.specs.declared.fault.PlanFault.{PlanFault}
use Rattle.vw_check.specs.declared.fault.PlanFault.TheVariants.{TooEarly, LateLatch}
use Rattle.vw_net.specs.FirstFound.{found_unless}
use Rattle.vw_check.specs.MicrocycleFaults.{usable_at_home, early_wire, too_early, latch_microcycle, late_cell, late_latch}
use Rattle.vw_check.specs.Answers.{Breaks}
use Rattle.vw_net.proofs.FirstFound.{each_none, none_each, each_to, each_all, all_each, each_get, or_each-zero, unless_none, none_unless, first_is, unless_is}

module _ (planned : PlannedBoard) where
  abbrev plan : Plan
  plan = planned.plan

  abbrev cells : List Cell
  cells = planned.ordered.flat.cells

  -- ---- first hops

  abbrev early : ℕ → ℕ → Hop → Option PlanFault
  early number net hop = found_unless (nat_le (usable_at_home planned net) hop.at) (TooEarly number hop.at (usable_at_home planned net))

  sent : (number net : ℕ) (first : Option Hop) → option_and_then (early number net) first ≡ None → ForSome first (λ hop. usable_at_home planned net ≤ hop.at)
  sent number net None none hop is = absurd (none-some hop is)
  sent number net (Some first) none hop is =
      let in_time = leb-true (usable_at_home planned net) first.at (unless_none (nat_le (usable_at_home planned net) first.at) (TooEarly number first.at (usable_at_home planned net)) none) in
      let same : first ≡ hop = cc in
      subst (λ (one : Hop). usable_at_home planned net ≤ one.at) same in_time

  not_early : (number net : ℕ) (first : Option Hop) → ForSome first (λ hop. usable_at_home planned net ≤ hop.at)
      → option_and_then (early number net) first ≡ None
  not_early number net None is = refl
  not_early number net (Some first) is =
      none_unless (nat_le (usable_at_home planned net) first.at) (TooEarly number first.at (usable_at_home planned net)) (le-leb (usable_at_home planned net) first.at (is first refl))

  early_is : (P : PlanFault → Type 0) → ((number sent usable : ℕ) → P (TooEarly number sent usable))
      → (number net : ℕ) (first : Option Hop) (fault : PlanFault) → option_and_then (early number net) first ≡ Some fault → P fault
  early_is P each number net None fault is = absurd (none-some fault is)
  early_is P each number net (Some first) fault is =
      subst P (unless_is (nat_le (usable_at_home planned net) first.at) (TooEarly number first.at (usable_at_home planned net)) fault is) (each number first.at (usable_at_home planned net))

  pub all_sent : too_early planned ≡ None → All (IsSentWhenUsable planned) plan.wires
  all_sent none =
      each_all (IsSentWhenUsable planned) 0 plan.wires
      (each_to (λ number wire. early_wire planned number wire ≡ None) (λ number wire. IsSentWhenUsable planned wire) (λ number wire is. sent number wire.net (slice_get wire.hops 0) is) 0 plan.wires
      (each_none (early_wire planned) 0 plan.wires none))

  pub no_too_early : All (IsSentWhenUsable planned) plan.wires → too_early planned ≡ None
  no_too_early all =
      none_each (early_wire planned) 0 plan.wires
      (each_to (λ number wire. IsSentWhenUsable planned wire) (λ number wire. early_wire planned number wire ≡ None) (λ number wire is. not_early number wire.net (slice_get wire.hops 0) is) 0 plan.wires
      (all_each (IsSentWhenUsable planned) 0 plan.wires all))

  pub too_early_breaks : (fault : PlanFault) → too_early planned ≡ Some fault → Breaks planned fault
  too_early_breaks fault is =
      first_is (early_wire planned) (Breaks planned)
      (λ number wire found its. early_is (Breaks planned) (λ one at usable sound. none-some fault (sym (no_too_early sound) ∙ is)) number wire.net (slice_get wire.hops 0) found its) 0 plan.wires fault is

  -- ---- latches

  in_time : (number d : ℕ) (init : Init) → late_cell planned number (Latch d init) ≡ None → latch_microcycle planned number d ≤ plan.period
  in_time number d init none = leb-true (latch_microcycle planned number d) plan.period (unless_none (nat_le (latch_microcycle planned number d) plan.period) (LateLatch number (latch_microcycle planned number d)) none)

  pub latches_in_time : late_latch planned ≡ None → AreLatchesInTime planned
  latches_in_time none number d init is =
      let same : 0 + number ≡ number = omega arith in
      in_time number d init (subst (λ (n : ℕ). late_cell planned n (Latch d init) ≡ None) same (each_get (λ n cell. late_cell planned n cell ≡ None) 0 cells (each_none (late_cell planned) 0 cells none) number (Latch d init) is))

  cell_in_time : AreLatchesInTime planned → (number : ℕ) (cell : Cell) → slice_get cells number ≡ Some cell → late_cell planned number cell ≡ None
  cell_in_time all number (Gate ins cover) is = refl
  cell_in_time all number (Latch d init) is =
      none_unless (nat_le (latch_microcycle planned number d) plan.period) (LateLatch number (latch_microcycle planned number d)) (le-leb (latch_microcycle planned number d) plan.period (all number d init is))

  at_place : {X : Type 0} (xs : List X) (i : ℕ) (default : X) → i < length xs → slice_get xs i ≡ Some (get_or xs i default)
  at_place [] i default below = absurd (omega arith)
  at_place (x ∷ xs) zero default below = refl
  at_place (x ∷ xs) (suc i) default below = at_place xs i default (omega arith)

  pub no_late_latch : AreLatchesInTime planned → late_latch planned ≡ None
  no_late_latch all =
      none_each (late_cell planned) 0 cells
      (or_each-zero (λ number cell. late_cell planned number cell ≡ None) cells (λ i default below. cell_in_time all i (get_or cells i default) (at_place cells i default below)))

  late_is : (P : PlanFault → Type 0) → ((number usable : ℕ) → P (LateLatch number usable)) → (number : ℕ) (cell : Cell) (fault : PlanFault)
      → late_cell planned number cell ≡ Some fault → P fault
  late_is P each number (Gate ins cover) fault is = absurd (none-some fault is)
  late_is P each number (Latch d init) fault is =
      subst P (unless_is (nat_le (latch_microcycle planned number d) plan.period) (LateLatch number (latch_microcycle planned number d)) fault is) (each number (latch_microcycle planned number d))

  pub late_latch_breaks : (fault : PlanFault) → late_latch planned ≡ Some fault → Breaks planned fault
  late_latch_breaks fault is =
      first_is (late_cell planned) (Breaks planned) (λ number cell found its. late_is (Breaks planned) (λ one usable sound. none-some fault (sym (no_late_latch sound) ∙ is)) number cell found its) 0 cells fault is
