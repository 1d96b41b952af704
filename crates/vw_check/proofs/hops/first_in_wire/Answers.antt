use Rattle.std.proofs.Common.{◌<◌, ◌∙◌, ℕ, Bool, length, get_or, ap, sym, List, arith}
use Rattle.vw_plan.specs.declared.wire.Hop.{Hop}
use Rattle.vw_net.specs.FirstFound.{found_unless}
use Rattle.vw_check.specs.Steps.Rules.{keeps, rule_fault}
use Rattle.vw_check.proofs.Clashes.{no_hop}
use Rattle.vw_net.proofs.FirstFound.{search_on}
use Rattle.vw_check.proofs.hops.first_in_wire.Goals as goal

-- a hop that keeps the rule leaves the rest
pub loop-place-preserved : goal.loop-place-preserved
loop-place-preserved c =
    let hops = c.args.wire.now.hops in
    let place = c.loop-place.place in
    let within : place < length hops = omega (arith, ap length c.hops-hop-items.ensures) in
    let found = λ (at : ℕ) (hop : Hop). found_unless (keeps c.args.rule c.args.wired.now.board.now c.args.wired.now.plan.now.period c.args.from c.args.wire.now at hop) (rule_fault c.args.rule c.args.number at) in
    search_on found place hops no_hop within (ap (λ (kept : Bool). found_unless kept (rule_fault c.args.rule c.args.number place)) (ap (λ (list : List Hop). keeps c.args.rule c.args.wired.now.board.now c.args.wired.now.plan.now.period c.args.from c.args.wire.now place (get_or list place no_hop)) (sym c.hops-hop-items.ensures) ∙ sym c.if-not-keeps.ensures)) ∙ c.loop-place.invariant
