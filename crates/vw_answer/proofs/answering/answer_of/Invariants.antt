use Rattle.vw_answer.specs.Answers.{HasTold}
use Rattle.vw_answer.proofs.answering.answer_of.Given as goal

abbrev pub invariant-loop-node : goal.invariant-loop-node
invariant-loop-node l = HasTold l.fn.job l.node l.room
