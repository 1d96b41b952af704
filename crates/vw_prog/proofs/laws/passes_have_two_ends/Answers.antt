use Rattle.vw_prog.proofs.LinkPasses.{sends_are, takes_are}
use Rattle.vw_prog.proofs.laws.passes_have_two_ends.Goals as goal

pub returns : goal.returns
returns c = record { sent = λ planned number link sound there. sends_are planned sound number link there; taken = λ planned number link sound there. takes_are planned sound number link there }
