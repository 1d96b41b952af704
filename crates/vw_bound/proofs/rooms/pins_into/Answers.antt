use Rattle.std.proofs.Common.{◌==◌, arith}
use Rattle.vw_plan.specs.declared.link.Link.{Link}
use Rattle.vw_bound.proofs.NodeLinks.{few_over}
use Rattle.vw_bound.proofs.rooms.pins_into.Goals as goal

pub loop-link-init : goal.loop-link-init
loop-link-init c = record { rest = omega arith; few = few_over c.args.board.now (λ (link : Link). link.to == c.args.node) }
