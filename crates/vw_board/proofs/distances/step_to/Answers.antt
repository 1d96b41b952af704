use Rattle.vw_board.proofs.NearerNodes.{all_near, some_nearer}
use Rattle.vw_board.proofs.distances.step_to.Goals as goal

pub first_nearer-requires-clause-near : goal.first_nearer-requires-clause-near
first_nearer-requires-clause-near c = all_near c.args.board.now c.args.to c.args.distances.now c.requires.distances

pub unwrap-requires : goal.unwrap-requires
unwrap-requires c = some_nearer c.args.board.now c.args.to c.args.distances.now c.requires.distances c.args.from c.requires.from c.requires.to c.if-from-to.false c.first_nearer.result (rw c.links.ensures at c.first_nearer.ensures.none)
