use Rattle.vw_world.proofs.BoardSteps.{agrees_there, fits_there, stepped_board}
use Rattle.vw_world.proofs.board.event.Goals as goal

pub step-requires-clause-fits : goal.step-requires-clause-fits
step-requires-clause-fits c =
    let all = c.args.lanes.now in
    fits_there all.job c.args.nodes.now all c.requires.board c.args.node c.requires.node c.turn_to.new.self c.turn_to.ensures c.index-nodes-node.result

pub step-requires-clause-agrees : goal.step-requires-clause-agrees
step-requires-clause-agrees c =
    let all = c.args.lanes.now in
    agrees_there all.job c.args.nodes.now all c.requires.board c.args.node c.requires.node c.turn_to.new.self c.turn_to.ensures c.index-nodes-node.result

pub returns-clause-board : goal.returns-clause-board
returns-clause-board c =
    let all = c.args.lanes.now in
    (stepped_board all.job c.args.nodes.now all c.requires.board c.args.node c.requires.node c.turn_to.new.self c.turn_to.ensures c.index-nodes-node.result
    c.step.new.self c.step.new.ends c.carry_scripts.ensures c.step.ensures.same c.step.ensures.fits c.step.result c.step.ensures.steps).0

pub returns-clause-happens : goal.returns-clause-happens
returns-clause-happens c =
    let all = c.args.lanes.now in
    (stepped_board all.job c.args.nodes.now all c.requires.board c.args.node c.requires.node c.turn_to.new.self c.turn_to.ensures c.index-nodes-node.result
    c.step.new.self c.step.new.ends c.carry_scripts.ensures c.step.ensures.same c.step.ensures.fits c.step.result c.step.ensures.steps).1
