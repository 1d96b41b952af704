use Rattle.std.proofs.Common.{ℕ, suc, subst, ◌∙◌, arith}
use Rattle.vw_answer.specs.Answers.{IsDoneNode}
use Rattle.vw_answer.proofs.DoneNodes.{all_last, all_latches, done_node, outputs_told}
use Rattle.vw_answer.proofs.room.Room.answer.Goals as goal

pub returns-clause-outputs : goal.returns-clause-outputs
returns-clause-outputs c =
    let job = c.args.job.now in
    let done : IsDoneNode job 0 c.args.host = subst (λ (node : ℕ). IsDoneNode job node c.args.host) c.requires.number (done_node job c.args.host c.requires.finished) in
    c.make.ensures.outputs ∙ c.into_rows.ensures ∙ outputs_told job c.args.host done

pub returns-clause-latches : goal.returns-clause-latches
returns-clause-latches c =
    let job = c.args.job.now in
    c.make.ensures.latches ∙ all_latches job c.args.self.latches (suc job.checked.board.chips) c.requires.told.latches (omega arith)

pub returns-clause-last : goal.returns-clause-last
returns-clause-last c =
    let job = c.args.job.now in
    c.make.ensures.last ∙ all_last job c.args.self.last (suc job.checked.board.chips) c.requires.told.last (omega arith)
