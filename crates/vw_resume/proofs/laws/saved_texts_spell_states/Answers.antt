use Rattle.vw_resume.proofs.SavedStates.{saved_spells}
use Rattle.vw_resume.proofs.laws.saved_texts_spell_states.Goals as goal

pub returns : goal.returns
returns c = saved_spells
