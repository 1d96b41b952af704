use Rattle.std.proofs.Common.{◌∙◌}
use Rattle.vw_resume.proofs.KeptStates.{kept_further}
use Rattle.vw_resume.proofs.keeping.KeepingRecorderRecorder.lines.Goals as goal

-- the states of a batch, and then those of what follows
pub returns-clause-text : goal.returns-clause-text
returns-clause-text c = λ more.
    kept_further c.args.self.now.every c.args.self.now.clocks c.len.result c.args.batch.now.states more c.in_ok-text.text.items (c.len.ensures ∙ c.requires.count) c.in_ok-text.ensures
