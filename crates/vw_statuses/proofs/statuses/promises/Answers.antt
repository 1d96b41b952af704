use Rattle.vw_statuses.proofs.PromisedTexts.{promised}
use Rattle.vw_statuses.proofs.statuses.promises.Goals as goal

pub returns : goal.returns
returns c = promised c.emitted_boards_show_designs.ensures
