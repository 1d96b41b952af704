use Rattle.std.proofs.Common.{◌≡◌, ◌∙◌, Option, Some, None, ap, ap₂, refl, sym, subst, IfOk}
use Rattle.std.specs.Option.{option_or}
use Rattle.vw_net.proofs.FirstOptions.{or_nothing}
use Rattle.vw_plan.specs.PlannedBoard.{PlannedBoard}
use Rattle.vw_ready.specs.LeadTables.{planned_in}
use Rattle.vw_check.specs.declared.fault.PlanFault.{PlanFault}
use Rattle.vw_check.specs.Faults.{hop_fault}
use Rattle.vw_check.specs.HopFaults.{bad_pin, broken_route, out_of_order, past_period, pin_clash}
use Rattle.vw_check.proofs.FaultOrder.{no_fault, some_or}
use Rattle.vw_check.proofs.checker.hop_fault.Goals as goal

in_turn : (route pin order period clash : Option PlanFault)
    → option_or route (option_or pin (option_or order (option_or period (option_or clash None)))) ≡ option_or (option_or (option_or (option_or route pin) order) period) clash
in_turn None None None None clash = or_nothing clash
in_turn None None None (Some fault) clash = refl
in_turn None None (Some fault) period clash = refl
in_turn None (Some fault) order period clash = refl
in_turn (Some fault) pin order period clash = refl

-- the rules are tried in their order, and then the pins that are shared
module _ (planned : PlannedBoard) (route pin two order three period found : Option PlanFault) where
  rules_then_clash :
      route ≡ broken_route planned → pin ≡ bad_pin planned.board planned.plan → two ≡ option_or route pin
      → order ≡ out_of_order planned.board planned.plan → three ≡ option_or two order
      → period ≡ past_period planned.board planned.plan → found ≡ option_or three period
      → hop_fault planned ≡ option_or found (pin_clash planned.plan)
  rules_then_clash one first both other second third all =
      in_turn (broken_route planned) (bad_pin planned.board planned.plan) (out_of_order planned.board planned.plan) (past_period planned.board planned.plan) (pin_clash planned.plan)
      ∙ ap (λ (rules : Option PlanFault). option_or rules (pin_clash planned.plan)) (sym (all ∙ ap₂ option_or (second ∙ ap₂ option_or (both ∙ ap₂ option_or one first) other) third))

pub returns-then-is_some : goal.returns-then-is_some
returns-then-is_some c =
    let planned = planned_in c.args.wired.now in
    let is = rules_then_clash planned c.broken_route.result c.first_breaking.result c.or.result c.first_breaking-2.result c.or-2.result c.first_breaking-3.result c.or-found.result c.broken_route.ensures c.first_breaking.ensures c.or.ensures c.first_breaking-2.ensures c.or-2.ensures c.first_breaking-3.ensures c.or-found.ensures in
    sym (is ∙ some_or c.or-found.result (pin_clash planned.plan) c.if-is_some.ensures)

pub returns : goal.returns
returns c =
    let planned = planned_in c.args.wired.now in
    let is = rules_then_clash planned c.broken_route.result c.first_breaking.result c.or.result c.first_breaking-2.result c.or-2.result c.first_breaking-3.result c.or-found.result c.broken_route.ensures c.first_breaking.ensures c.or.ensures c.first_breaking-2.ensures c.or-2.ensures c.first_breaking-3.ensures c.or-found.ensures in
    let none = ap (λ (rules : Option PlanFault). option_or rules (pin_clash planned.plan)) (no_fault c.or-found.result c.if-is_some.ensures) in
    subst (λ (fault : Option PlanFault). IfOk c.pin_clash.result (λ found. found ≡ fault)) (sym (is ∙ none)) c.pin_clash.ensures
