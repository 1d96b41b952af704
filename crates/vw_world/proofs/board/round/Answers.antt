use Rattle.std.proofs.Common.{arith}
use Rattle.vw_world.specs.Boards.{world_of}
use Rattle.vw_world.proofs.Rounds.{HasGoneOn, round_acts, round_more}
use Rattle.vw_world.proofs.board.round.Goals as goal

pub loop-node-preserved : goal.loop-node-preserved
loop-node-preserved c =
    let gone : HasGoneOn c.loop-node.lanes.job c.loop-node.nodes c.loop-node.lanes c.loop-node.node c.go_on.new.nodes c.go_on.new.lanes = record {
      board = c.go_on.ensures.board;
      leads = c.go_on.ensures.leads;
      count = c.go_on.ensures.count;
      less = c.go_on.ensures.less;
      still = c.go_on.ensures.still;
    } in
    let start = world_of c.args.nodes.now c.args.lanes.now in
    let more = round_more c.args.lanes.now.job start c.loop-node.nodes c.go_on.new.nodes c.loop-node.lanes c.go_on.new.lanes in
    more c.loop-node.node c.loop-node.invariant gone

pub returns-clause-less : goal.returns-clause-less
returns-clause-less c =
    let acts = round_acts c.args.lanes.now.job c.args.nodes.now c.loop-node.nodes c.args.lanes.now c.loop-node.lanes c.loop-node.node in
    acts c.requires.board c.loop-node.invariant (omega (arith, c.loop-node-test.false, c.loop-node.auto.nodes)) c.requires.some
