use Rattle.std.proofs.Common.{ap, is_some}
use Rattle.vw_design.proofs.word_set.WordSet.reserve.Goals as goal

pub returns-clause-words : goal.returns-clause-words
returns-clause-words c = λ word. ap is_some (c.reserve.ensures.entries.2 (record { ref_ptr = (0, 0); now = word }))
