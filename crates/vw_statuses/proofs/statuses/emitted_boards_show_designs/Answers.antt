use Rattle.vw_statuses.proofs.EmittedBoards.{boards_show}
use Rattle.vw_statuses.proofs.statuses.emitted_boards_show_designs.Goals as goal

pub returns : goal.returns
returns c = boards_show c.emitted_texts_show_their_designs.ensures
