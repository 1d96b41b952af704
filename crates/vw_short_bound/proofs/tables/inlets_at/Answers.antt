use Rattle.std.proofs.Common.{◌∙◌}
use Rattle.vw_bound.specs.Given.{design_in}
use Rattle.vw_short_bound.proofs.NodeInlets.{made}
use Rattle.vw_short_bound.proofs.tables.inlets_at.Goals as goal

pub returns : goal.returns
returns c =
    made (design_in c.args.placed.now) c.args.node c.in_ok-nets.nets.items c.deref-2.result.now c.in_ok-classes.classes.items c.make.result c.in_ok-nets.ensures c.deref-2.ensures.value c.in_ok-classes.ensures (c.make.ensures.nets ∙ c.of.ensures) (c.make.ensures.classes ∙ c.of-3.ensures)
