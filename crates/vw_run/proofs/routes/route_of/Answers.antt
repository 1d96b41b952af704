use Rattle.std.proofs.Common.{refl, sym, ◌∙◌, ap}
use Rattle.vw_plan.specs.Nets.{node_of}
use Rattle.vw_run.proofs.ShortRoutes.{short_route, walked_route}
use Rattle.vw_run.proofs.routes.route_of.Goals as goal

pub returns-clause-short : goal.returns-clause-short
returns-clause-short c =
    short_route c.args.placed.now.ordered.now.flat c.args.placed.now.board.now c.args.placed.now.chip_of.now c.make.result
    (walked_route c.args.placed.now.ordered.now.flat c.args.placed.now.board.now c.args.placed.now.board.now c.args.placed.now.chip_of.now c.make.result c.node_of-from.result c.to.result c.in_ok-nodes.nodes refl
    (c.node_of-from.ensures ∙ ap (λ flat. node_of flat c.args.placed.now.chip_of.now c.net.result) c.flat.ensures ∙ ap (node_of c.args.placed.now.ordered.now.flat c.args.placed.now.chip_of.now) (c.net.ensures ∙ sym c.net-2.ensures ∙ sym c.make.ensures.net))
    (c.to.ensures ∙ sym c.to-2.ensures ∙ sym c.make.ensures.to) (sym c.make.ensures.nodes) c.in_ok-nodes.ensures)
