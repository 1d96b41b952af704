use Rattle.vw_emit_names.proofs.History.{acts_as, has_columns, has_run}
use Rattle.vw_emit_names.proofs.laws.emitted_boards_act_as_their_designs.Goals as goal

pub returns-clause-columns : goal.returns-clause-columns
returns-clause-columns c = has_columns

pub returns-clause-acts : goal.returns-clause-acts
returns-clause-acts c = λ planned board sound is_board small unknown rows. acts_as planned sound board is_board small unknown rows

pub returns-clause-runs : goal.returns-clause-runs
returns-clause-runs c = has_run
