-- What a run of a board leaves. Source: this project.
use Rattle.vw_prog.specs.declared.job.Job.{Job}
use Rattle.vw_trace.specs.Engines.{SeenEngine}

-- a board, as contracts see it: the job that it has at hand, which begins where the board stands
pub record SeenRun : Type 0 where
  pub job : Job

-- a board at the start of a job, as an engine
abbrev pub engine_of : Job → SeenEngine
engine_of job = record { netlist = job.checked.ordered.flat; clock = job.first; state = job.start }
