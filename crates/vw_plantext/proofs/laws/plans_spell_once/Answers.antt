use Rattle.vw_plantext.proofs.OnePlan.{spelled_once}
use Rattle.vw_plantext.proofs.laws.plans_spell_once.Goals as goal

-- two plans have two spellings
pub returns : goal.returns
returns c = spelled_once
