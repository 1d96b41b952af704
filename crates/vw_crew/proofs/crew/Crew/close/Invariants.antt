use Rattle.vw_answer.specs.Answers.{HasTold}
use Rattle.vw_crew.proofs.crew.Crew.close.Given as goal

abbrev pub invariant-loop-chip : goal.invariant-loop-chip
invariant-loop-chip g l = HasTold l.job l.chip l.room
