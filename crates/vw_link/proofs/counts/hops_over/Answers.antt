use Rattle.std.proofs.Common.{List, length, ap, ◌∙◌, arith}
use Rattle.std.specs.List.{filter}
use Rattle.vw_plan.specs.declared.wire.Hop.{Hop}
use Rattle.vw_plan.specs.declared.wire.Wire.{Wire}
use Rattle.vw_link.specs.Counts.{over}
use Rattle.vw_link.proofs.ScriptLengths.{one_within, over_few}
use Rattle.vw_link.proofs.counts.hops_over.Goals as goal

pub overflow_add-count : goal.overflow_add-count
overflow_add-count c =
    let on = c.hops_on-count.ensures ∙ ap (λ (hops : List Hop). length (filter (over c.args.link.now) hops)) (c.hops.ensures ∙ ap (λ (wire : Wire). wire.hops) c.wire-item.is) in
    omega (arith, on, c.loop-wire.invariant, one_within c.args.link.now c.args.wires.now c.loop-wire.wire-index c.wire-item.result c.loop-wire-test.true, over_few c.args.link.now c.args.wires.now, c.requires)

pub returns-clause-few : goal.returns-clause-few
returns-clause-few c = omega (arith, c.loop-wire.invariant, over_few c.args.link.now c.args.wires.now, c.requires)
