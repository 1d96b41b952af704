use Rattle.std.proofs.Common.{ap, subst, ◌∙◌}
use Rattle.vw_plan.specs.declared.board.Board.{Board}
use Rattle.vw_plan.specs.declared.checked.Checked.{Checked}
use Rattle.vw_plan.specs.PlannedBoard.{planned_board}
use Rattle.vw_prog.specs.Actions.{ArePrograms}
use Rattle.vw_crew_tests.proofs.ScriptSlots.{script_slots}
use Rattle.vw_crew_tests.proofs.scripts.script_of.Goals as goal

pub words_of-requires-clause-slots : goal.words_of-requires-clause-slots
words_of-requires-clause-slots c =
    let links = c.links.ensures ∙ ap (λ (board : Board). board.links) (c.board.ensures ∙ ap (λ (checked : Checked). checked.board) c.checked-3.ensures) in
    let are = subst (λ (checked : Checked). ArePrograms (planned_board checked.ordered checked.board checked.plan) c.in_ok-programs.programs) c.checked-2.ensures c.in_ok-programs.ensures in
    script_slots c.args.job.now c.args.link _ c.links.result.now _ c.in_ok-programs.programs c.deref.result.now _ links c.requires c.from-from.ensures are (c.deref.ensures.value ∙ c.in_ok-actions.ensures) (c.deref-3.ensures.value ∙ c.in_ok-slots.ensures) c.passes_have_two_ends.ensures.sent
