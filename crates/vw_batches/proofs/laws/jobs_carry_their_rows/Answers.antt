use Rattle.vw_batches.proofs.LinkWords.{script_is_words}
use Rattle.vw_batches.proofs.laws.jobs_carry_their_rows.Goals as goal

pub returns : goal.returns
returns c = script_is_words
