use Rattle.std.proofs.Common.{◌==◌, ◌∙◌, ap}
use Rattle.std.specs.List.{filter}
use Rattle.vw_plan.specs.declared.need.Need.{Need}
use Rattle.vw_bound.specs.Given.{design_in}
use Rattle.vw_short_bound.specs.Steps.Inlets.{inlet_nets}
use Rattle.vw_short_bound.proofs.NodeInlets.{are_inlets}
use Rattle.vw_short_bound.proofs.tables.nets_at.Goals as goal

pub returns : goal.returns
returns c =
    are_inlets (design_in c.args.placed.now) c.args.node c.in_ok-inlets.inlets.items c.sort.new.self.items c.in_ok-nets.nets.items
    (c.in_ok-inlets.ensures ∙ ap (filter (λ (need : Need). need.to == c.args.node)) c.requires.needs)
    c.in_ok-sort.ensures.permutation
    (c.in_ok-nets.ensures ∙ ap inlet_nets c.deref.ensures.value)
