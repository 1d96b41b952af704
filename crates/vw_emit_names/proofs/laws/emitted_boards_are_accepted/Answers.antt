use Rattle.vw_emit_names.proofs.NetFaults.{accepted, loop_free}
use Rattle.vw_emit_names.proofs.RootNames.{no_two_drivers}
use Rattle.vw_emit_names.proofs.laws.emitted_boards_are_accepted.Goals as goal

pub returns-clause-one_driver : goal.returns-clause-one_driver
returns-clause-one_driver c = λ planned board sound is_board. no_two_drivers planned sound board is_board

pub returns-clause-accepted : goal.returns-clause-accepted
returns-clause-accepted c = λ planned board sound is_board small. accepted planned sound board is_board small

pub returns-clause-loop_free : goal.returns-clause-loop_free
returns-clause-loop_free c = λ planned board sound is_board small. loop_free planned sound board is_board small
