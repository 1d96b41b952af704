use Rattle.vw_world.proofs.BoardSteps.{agrees_there, fits_there, went_board, went_leads, went_less, went_still}
use Rattle.vw_world.proofs.board.go_on.Goals as goal

pub go-requires-clause-fits : goal.go-requires-clause-fits
go-requires-clause-fits c =
    let all = c.args.lanes.now in
    fits_there all.job c.args.nodes.now all c.requires.board c.args.node c.requires.node c.turn_to.new.self c.turn_to.ensures c.index-nodes-node.result

pub go-requires-clause-agrees : goal.go-requires-clause-agrees
go-requires-clause-agrees c =
    let all = c.args.lanes.now in
    agrees_there all.job c.args.nodes.now all c.requires.board c.args.node c.requires.node c.turn_to.new.self c.turn_to.ensures c.index-nodes-node.result

pub returns-clause-board : goal.returns-clause-board
returns-clause-board c =
    let all = c.args.lanes.now in
    went_board all.job c.args.nodes.now all c.requires.board c.args.node c.requires.node c.turn_to.new.self c.turn_to.ensures c.index-nodes-node.result
    c.go.new.self c.go.new.ends c.carry_scripts.ensures c.go.ensures.same c.go.ensures.fits c.go.result c.go.ensures.goes

pub returns-clause-leads : goal.returns-clause-leads
returns-clause-leads c =
    let all = c.args.lanes.now in
    went_leads all.job c.args.nodes.now all c.requires.board c.args.node c.requires.node c.turn_to.new.self c.turn_to.ensures c.index-nodes-node.result
    c.go.new.self c.go.new.ends c.carry_scripts.ensures c.go.ensures.same c.go.ensures.fits c.go.result c.go.ensures.goes

pub returns-clause-less : goal.returns-clause-less
returns-clause-less c =
    let all = c.args.lanes.now in
    went_less all.job c.args.nodes.now all c.requires.board c.args.node c.requires.node c.turn_to.new.self c.turn_to.ensures c.index-nodes-node.result
    c.go.new.self c.go.new.ends c.carry_scripts.ensures c.go.ensures.same c.go.ensures.fits c.go.result c.go.ensures.goes

pub returns-clause-still : goal.returns-clause-still
returns-clause-still c =
    let all = c.args.lanes.now in
    went_still all.job c.args.nodes.now all c.requires.board c.args.node c.requires.node c.turn_to.new.self c.turn_to.ensures c.index-nodes-node.result
    c.go.new.self c.go.new.ends c.carry_scripts.ensures c.go.ensures.same c.go.ensures.fits c.go.result c.go.ensures.goes
