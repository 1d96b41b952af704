use Rattle.vw_board.proofs.Spelled.{spelled, refused_by}
use Rattle.vw_board.proofs.board_text.board_of.Goals as goal

pub returns-clause-spells : goal.returns-clause-spells
returns-clause-spells c = spelled c.args.lines.now c.in_ok-head.head c.in_ok-links.links.items c.in_ok-head.ensures.fine c.in_ok-links.ensures.fine c.make_board.result c.make_board.ensures.enough c.make_board.ensures.chips c.make_board.ensures.cells c.make_board.ensures.settle c.make_board.ensures.links

pub returns-clause-refuses : goal.returns-clause-refuses
returns-clause-refuses c = refused_by c.args.lines.now c.in_ok-head.head c.in_ok-links.links.items c.in_ok-head.ensures.fine c.in_ok-links.ensures.fine c.make_board.result c.make_board.ensures.refuses
