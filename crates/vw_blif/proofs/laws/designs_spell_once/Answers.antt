use Rattle.vw_blif.proofs.SpelledOnce.{spelled_once}
use Rattle.vw_blif.proofs.laws.designs_spell_once.Goals as goal

pub returns : goal.returns
returns c = λ one other e. spelled_once one other e
