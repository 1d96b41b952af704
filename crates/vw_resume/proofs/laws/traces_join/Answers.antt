use Rattle.vw_resume.proofs.JoinedTraces.{joined_from_state, joined_from_start}
use Rattle.vw_resume.proofs.laws.traces_join.Goals as goal

pub returns-clause-from_a_state : goal.returns-clause-from_a_state
returns-clause-from_a_state c = λ flat. joined_from_state 0 flat (c.histories_join.ensures flat)

pub returns-clause-from_the_start : goal.returns-clause-from_the_start
returns-clause-from_the_start c = λ unknown flat. joined_from_start 0 flat (c.histories_join.ensures flat) unknown

pub returns-clause-with_probes : goal.returns-clause-with_probes
returns-clause-with_probes c = λ probes flat. joined_from_state probes flat (c.histories_join.ensures flat)

pub returns-clause-with_probes_from_the_start : goal.returns-clause-with_probes_from_the_start
returns-clause-with_probes_from_the_start c = λ probes unknown flat. joined_from_start probes flat (c.histories_join.ensures flat) unknown
