use Rattle.std.proofs.Common.{arith}
use Rattle.vw_bound.proofs.NodeLinks.{few_over}
use Rattle.vw_short_bound.specs.Shortest.{can_be_last}
use Rattle.vw_short_bound.proofs.lasts.last_pins.Goals as goal

pub loop-link-init : goal.loop-link-init
loop-link-init c = record { rest = omega arith; few = few_over c.args.board.now (can_be_last c.args.board.now c.args.source c.args.node) }
