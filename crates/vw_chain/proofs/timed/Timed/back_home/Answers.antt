use Rattle.std.proofs.Common.{◌∙◌, ℕ, Option, None, Some, refl, sym, subst, reverse}
use Rattle.vw_plan.specs.Lead.{brings}
use Rattle.vw_plan.specs.PlannedBoard.{home}
use Rattle.vw_ready.proofs.FirstPlaces.{LeadsTo}
use Rattle.vw_ready.proofs.WiresBrought.{wire_leads}
use Rattle.vw_chain.specs.Chains.{IsWay}
use Rattle.vw_chain.specs.Timing.{planned_of}
use Rattle.vw_chain.proofs.Ways.{found_wire, wire_found, wire_way}
use Rattle.vw_chain.proofs.timed.Timed.back_home.Goals as goal

pub returns-in_ok-push : goal.returns-in_ok-push
returns-in_ok-push c to at way =
    let planned = planned_of c.args.self.now in
    let wired = c.args.self.now.wired.now in
    let leads : LeadsTo (brings c.args.net c.args.node) planned.plan.wires (Some c.in-Some.number) =
    subst (λ (found : Option ℕ). LeadsTo (brings c.args.net c.args.node) planned.plan.wires found) (sym c.first.ensures ∙ c.in-Some.is) (wire_leads planned.plan.wires wired.wires.now.places wired.has_wires c.args.net c.args.node) in
    let found = found_wire planned c.args.net c.args.node c.in-Some.number leads in
    wire_way planned c.args.steps.now.items c.push.new.self.items c.in-Some.number found.0 c.args.net (home planned c.args.net) to at c.in_ok-push.ensures.items
    (record { there = found.1; its_net = found.2; from = refl })
    (subst (λ (node : ℕ). IsWay planned (reverse c.args.steps.now.items) c.args.net node to at) (sym found.3) way)

pub returns-in_default : goal.returns-in_default
returns-in_default c to at way =
    let planned = planned_of c.args.self.now in
    let wired = c.args.self.now.wired.now in
    let leads : LeadsTo (brings c.args.net c.args.node) planned.plan.wires None =
    subst (λ (found : Option ℕ). LeadsTo (brings c.args.net c.args.node) planned.plan.wires found) (sym c.first.ensures ∙ c.in_default.is) (wire_leads planned.plan.wires wired.wires.now.places wired.has_wires c.args.net c.args.node) in
    absurd (wire_found planned c.args.self.now.sound c.args.net c.args.node c.requires.there (λ same. c.if-home-node.false (c.home.ensures ∙ same)) leads)
