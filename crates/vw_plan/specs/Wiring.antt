-- How the hops of a wire of a sound plan begin, follow each other, and end. Source: this project.
use Rattle.std.specs.Prelude.{◌≡◌, ◌≤◌, ◌<◌, ◌+◌}
use Rattle.vw_plan.specs.declared.wire.Hop.{Hop}
use Rattle.vw_plan.specs.declared.wire.Wire.{Wire}
use Rattle.vw_plan.specs.Lead.{after_last, arrival, usable}
use Rattle.vw_plan.specs.PlannedBoard.{PlannedBoard, home}

-- the first hop of a wire leaves the net's own node, where the net is usable
pub record BeginsWire (planned : PlannedBoard) (wire : Wire) (hop : Hop) : Type 0 where
  pub from : hop.from ≡ home planned wire.net
  pub ready : usable planned (home planned wire.net) wire.net ≤ hop.at

-- a hop leaves where the hop before it has arrived
pub record FollowsHop (planned : PlannedBoard) (hop next : Hop) : Type 0 where
  pub from : next.from ≡ hop.to
  pub later : arrival planned.board.links hop < next.at

-- the last hop of a wire reaches the wire's node, and with it the net
pub record EndsWire (planned : PlannedBoard) (wire : Wire) (hop : Hop) : Type 0 where
  pub to : hop.to ≡ wire.to
  pub brings : after_last planned.board.links wire.hops ≡ arrival planned.board.links hop + 1
