use Rattle.vw_board.proofs.OneBoard.{accepted_unrefused}
use Rattle.vw_board.proofs.OneFault.{fault_once}
use Rattle.vw_board.proofs.laws.board_faults_are_single.Goals as goal

-- by the reasons: the size, the first line at fault, the first chip with too few pins, the first nodes apart
pub returns-clause-single : goal.returns-clause-single
returns-clause-single c = fault_once

pub returns-clause-faultless : goal.returns-clause-faultless
returns-clause-faultless c = accepted_unrefused
