-- Ways that are longer by one step at their beginning.
use Rattle.std.proofs.Common.{◌≡◌, ◌++◌, ℕ, true, Bool, List, [], ◌∷◌, get_or, slice_get, Some, None, cond, eqb, eqb-true, reverse, ap, sym, ◌∙◌, ⊎_elim, subst, arith}
use Rattle.std.specs.List.{find}
use Rattle.std.proofs.Math.Bool.{true≢false}
use Rattle.std.proofs.lemmas.Bool.{and_parts}
use Rattle.std.proofs.lemmas.List.{reverse-append}
use Rattle.std.proofs.lemmas.Option.{slice_get-get_or}
use Rattle.vw_net.proofs.CountsOverLists.{some_counted}
use Rattle.vw_net.proofs.ListedLists.{find_none, find_stands}
use Rattle.vw_plan.specs.declared.wire.Wire.{Wire}
use Rattle.vw_plan.specs.Lead.{brings}
use Rattle.vw_plan.specs.Nets.{is_needed}
use Rattle.vw_plan.specs.PlannedBoard.{PlannedBoard, home}
use Rattle.vw_plan.specs.Sound.{IsSound}
use Rattle.vw_ready.proofs.FirstPlaces.{LeadsTo}
use Rattle.vw_chain.specs.declared.chain.Step.{Step}
use Rattle.vw_chain.specs.declared.chain.Step.TheVariants as step
use Rattle.vw_chain.specs.Chains.{IsBrought, IsRead, IsWay}
use Rattle.vw_chain.specs.Steps.{IsThere}

abbrev no_wire : Wire
no_wire = record { net = 0; to = 0; hops = [] }

module _ (planned : PlannedBoard) where
  -- a step that is put behind the others, the last one first, comes first
  turned : (before after : List Step) (its : Step) → after ≡ before ++ its ∷ [] → reverse after ≡ its ∷ reverse before
  turned before after its is = ap (λ (list : List Step). reverse list) is ∙ reverse-append before (its ∷ [])

  pub gate_way : (before after : List Step) (made net node to at : ℕ) → after ≡ before ++ step.Gate made ∷ [] → IsRead planned net node made
      → IsWay planned (reverse before) made node to at → IsWay planned (reverse after) net node to at
  gate_way before after made net node to at is read way =
      subst (λ (steps : List Step). IsWay planned steps net node to at) (sym (turned before after (step.Gate made) is)) (read, way)

  pub wire_way : (before after : List Step) (number : ℕ) (wire : Wire) (net node to at : ℕ) → after ≡ before ++ step.Wire number ∷ [] → IsBrought planned number wire net node
      → IsWay planned (reverse before) net wire.to to at → IsWay planned (reverse after) net node to at
  wire_way before after number wire net node to at is brought way =
      subst (λ (steps : List Step). IsWay planned steps net node to at) (sym (turned before after (step.Wire number) is)) (wire, brought, way)

  -- what a table of the wires finds brings the net
  pub found_wire : (net node number : ℕ) → LeadsTo (brings net node) planned.plan.wires (Some number)
      → (wire : Wire) × (slice_get planned.plan.wires number ≡ Some wire) × (wire.net ≡ net) × (wire.to ≡ node)
  found_wire net node number leads =
      let wires = planned.plan.wires in
      let wire = get_or wires number no_wire in
      let there : slice_get wires number ≡ Some wire = slice_get-get_or wires number no_wire leads.0 in
      let parts = and_parts (eqb wire.net net) (eqb wire.to node) (find_stands (brings net node) wire wires (sym leads.1 ∙ there)).1 in
      (wire, there, eqb-true wire.net net parts.0, eqb-true wire.to node parts.1)

  -- and it finds one wherever the net is of another node
  pub wire_found : IsSound planned → (net node : ℕ) → IsThere planned node net → ¬ (home planned net ≡ node) → find (brings net node) planned.plan.wires ≡ None → ⊥
  wire_found sound net node there away none =
      let wires = planned.plan.wires in
      let if_needed = λ (needed : is_needed planned.ordered.flat planned.plan.chip_of net node ≡ true).
      let one = sound.one_wire_for_each_need net node ∙ ap (λ (is : Bool). cond is 1 0) needed in
      true≢false (sym (some_counted (brings net node) wires (omega (arith, one))) ∙ find_none (brings net node) wires none) in
      ⊎_elim away if_needed there
