use Rattle.vw_emit_hardware.proofs.AllRows.{shows_latches, shows_outputs}
use Rattle.vw_emit_hardware.proofs.laws.emitted_boards_show_their_designs.Goals as goal

pub returns-clause-outputs : goal.returns-clause-outputs
returns-clause-outputs c = λ planned unknown rows value sound run. shows_outputs planned sound unknown rows value run

pub returns-clause-latches : goal.returns-clause-latches
returns-clause-latches c = λ planned unknown rows value sound run. shows_latches planned sound unknown rows value run
