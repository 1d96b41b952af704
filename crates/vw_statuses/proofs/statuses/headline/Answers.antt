use Rattle.vw_statuses.proofs.HeadlineLaw.{headline, headline_of}
use Rattle.vw_statuses.proofs.statuses.headline.Goals as goal

pub returns-clause-followed : goal.returns-clause-followed
returns-clause-followed c = λ probes until design board stimulus by workers unknown call. headline probes until design board by stimulus workers unknown call

pub returns-clause-spelled : goal.returns-clause-spelled
returns-clause-spelled c = headline_of
