use Rattle.vw_resume.proofs.ReadBack.{spelled_is_short}
use Rattle.vw_resume.proofs.laws.spelled_short.Goals as goal

pub returns : goal.returns
returns c = spelled_is_short
