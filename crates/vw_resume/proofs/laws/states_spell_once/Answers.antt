use Rattle.vw_resume.proofs.ReadBack.{spelled_once}
use Rattle.vw_resume.proofs.laws.states_spell_once.Goals as goal

pub returns : goal.returns
returns c = spelled_once
