-- The flags of the models that are reached.
use Rattle.std.proofs.Common.{◌≡◌, ℕ, Bool, false, List, get_or, slice_get, Some, sym, ◌∙◌, ap}
use Rattle.std.specs.Cmp.{both_ways}
use Rattle.std.proofs.lemmas.Option.{get_or_from_slice_get}
use Rattle.vw_design.specs.declared.model.Model.{Model}
use Rattle.vw_design.specs.declared.design.Design.{Design}
use Rattle.vw_design.specs.ModelFaults.{is_reached}
use Rattle.vw_design.specs.ModelNumbers.{AreTargets, AreModelsReached, is_reached_model}
use Rattle.vw_design.proofs.PairedLists.{AllZip-each}
use Rattle.vw_models.specs.Steps.Reach.{Targets, AreReachFlags}
use Rattle.vw_models.proofs.Models.{each_model, reached_closed_numbers, reached_least_numbers}

pub are_flags : (design : Design) (targets : Targets) (flags : List Bool) → AreTargets design targets → AreReachFlags targets flags → AreModelsReached design flags
are_flags design targets flags are reach = AllZip-each (λ model flag. flag ≡ is_reached design model.name) design.models flags (sym (each_model design targets are) ∙ sym reach.each) each where
  each : (k : ℕ) (model : Model) (flag : Bool) → slice_get design.models k ≡ Some model → slice_get flags k ≡ Some flag → flag ≡ is_reached design model.name
  each k model flag at flag_at =
      sym (get_or_from_slice_get flags k flag false flag_at)
      ∙ both_ways (get_or flags k false) (is_reached_model design (slice_get design.models k))
      (λ there. reach.reached (λ (n : ℕ). is_reached_model design (slice_get design.models n)) (reached_closed_numbers design targets are) k there)
      (λ back. reached_least_numbers design targets are (λ (n : ℕ). get_or flags n false) reach.closed k back)
      ∙ ap (is_reached_model design) at
