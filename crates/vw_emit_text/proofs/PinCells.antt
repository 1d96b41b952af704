-- The cells of pins, counted at the first hop of each.
use Rattle.std.proofs.Common.{◌≡◌, ◌∙◌, ◌++◌, ◌+◌, ◌-◌, ◌≤◌, ◌==◌, ℕ, suc, Bool, true, false, cond, List, [], ◌∷◌, map, slice_get, None, Some, ap, ap₂, refl, sym, ne_eqb, arith}
use Rattle.std.specs.Prelude.{sum_by}
use Rattle.std.specs.List.{AllByRecursion, flat_map}
use Rattle.std.proofs.lemmas.List.Sums.{sum_by-append, sum_by-cons}
use Rattle.vw_net.specs.Sorting.{sorted}
use Rattle.vw_net.proofs.ListedLists.{listed_plain}
use Rattle.vw_plan.specs.PlannedBoard.{PlannedBoard}
use Rattle.vw_plan.specs.Sound.{IsSound}
use Rattle.vw_plan.specs.declared.link.Link.{Link}
use Rattle.vw_plan.proofs.HopsOfWires.{at_place}
use Rattle.vw_emit_text.specs.Emitted.{pin_cells, pin_delays, used_delay}
use Rattle.vw_emit_text.specs.Outlets.{leaves_before, outlets, outlets_behind}
use Rattle.vw_emit_text.specs.Steps.{outlet_cells, planned_by}
use Rattle.vw_emit_text.specs.declared.emitter.Emitter.{Emitter}
use Rattle.vw_emit_text.specs.declared.numbered_hop.NumberedHop.{NumberedHop}
use Rattle.vw_emit_text.specs.declared.outlet.Outlet.{Outlet}
use Rattle.vw_emit_text.proofs.Blocks.{in_turn}
use Rattle.vw_emit_text.proofs.ByPins.{IsOf, by_pins}
use Rattle.vw_emit_text.proofs.PinUsers.{user_of}

-- the tables of an emitter are of its board
pub all_outlets : (emitter : Emitter) → emitter.outlets.now ≡ outlets (planned_by emitter)
all_outlets emitter = emitter.outlets_are ∙ ap (λ (hops : List NumberedHop). outlets_behind None 0 (sorted leaves_before hops)) emitter.hops_are

-- the delay of the link of the first hop of a pin
abbrev first_delay : Outlet → List ℕ
first_delay outlet = cond (outlet.number == 0) ((outlet.hop.arrival - outlet.hop.at + 1) ∷ []) []

none_later : (k : ℕ) (hops : List NumberedHop) → flat_map first_delay (in_turn (suc k) hops) ≡ []
none_later k [] = refl
none_later k (hop ∷ hops) =
    let other = ne_eqb (suc k) 0 (λ same. omega (arith, same)) in
    let rest = flat_map first_delay (in_turn (suc (suc k)) hops) in
    ap (λ (test : Bool). cond test ((hop.arrival - hop.at + 1) ∷ []) [] ++ rest) other ∙ none_later (suc k) hops

sums_same : (list : List Outlet) → outlet_cells list ≡ sum_by (λ delay. delay) (flat_map first_delay list)
sums_same [] = refl
sums_same (outlet ∷ list) =
    sum_by-cons (λ (one : Outlet). cond (one.number == 0) (one.hop.arrival - one.hop.at + 1) 0) outlet list
    ∙ ap₂ (λ (first rest : ℕ). first + rest) (by (outlet.number == 0)) (sums_same list)
    ∙ sym (sum_by-append (λ delay. delay) (first_delay outlet) (flat_map first_delay list)) where
      by : (first : Bool) → cond first (outlet.hop.arrival - outlet.hop.at + 1) 0 ≡ sum_by (λ delay. delay) (cond first ((outlet.hop.arrival - outlet.hop.at + 1) ∷ []) [])
      by true = omega (arith, sum_by-cons (λ (delay : ℕ). delay) (outlet.hop.arrival - outlet.hop.at + 1) [])
      by false = refl

module _ (planned : PlannedBoard) (sound : IsSound planned) where
  pin_given : (number pin : ℕ) (link : Link) (hops : List NumberedHop) → slice_get planned.board.links number ≡ Some link
      → AllByRecursion (IsOf planned number pin link) hops
      → flat_map first_delay (in_turn 0 hops) ≡ used_delay link.delay (map (user_of planned) hops)
  pin_given number pin link [] there all = refl
  pin_given number pin link (hop ∷ hops) there all =
      let timely = at_place (λ (one : Link). (1 ≤ one.delay) × (one.delay ≤ 16)) planned.board.links number link planned.board.linked.separate.timely there in
      let own : hop.arrival - hop.at + 1 ≡ link.delay = omega (arith, timely.0, all.0.goes.late) in
      ap₂ (λ (delay : ℕ) (rest : List ℕ). delay ∷ rest) own (none_later 0 hops)

  pub pins_are : outlet_cells (outlets planned) ≡ pin_cells planned
  pins_are =
      sums_same (outlets planned)
      ∙ ap (λ (delays : List ℕ). sum_by (λ delay. delay) delays)
      (by_pins planned sound first_delay (λ number link pin list. used_delay link.delay list) pin_given ∙ listed_plain (pin_delays planned) 0 planned.board.links)
