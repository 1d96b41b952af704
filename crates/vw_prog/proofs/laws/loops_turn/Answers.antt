use Rattle.vw_prog.proofs.LoopTurns.{net_here, stand_again, stand_first, stand_turned}
use Rattle.vw_prog.proofs.laws.loops_turn.Goals as goal

pub returns : goal.returns
returns c = record {
  first = λ actions loops places count zeros. stand_first actions loops places count zeros;
  net = λ actions loops made places link pin net at one are stand next there its_link its_pin. net_here actions loops made places stand are link pin net at one next there its_link its_pin;
  turned = λ actions loops made places link pin net at one are stand next there its_link its_pin new is. stand_turned actions loops made places stand are link pin net at one next there its_link its_pin new is;
  again = λ actions loops made places are stand all. stand_again actions loops made places stand are all;
}
