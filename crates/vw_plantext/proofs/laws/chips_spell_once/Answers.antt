use Rattle.vw_plantext.proofs.OneChips.{chips_once, chips_unrefused}
use Rattle.vw_plantext.proofs.laws.chips_spell_once.Goals as goal

pub returns-clause-once : goal.returns-clause-once
returns-clause-once c = chips_once

pub returns-clause-faultless : goal.returns-clause-faultless
returns-clause-faultless c = chips_unrefused
