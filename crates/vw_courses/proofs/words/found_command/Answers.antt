use Rattle.std.proofs.Common.{option_and_then, option_map, sym, ◌∙◌, ap}
use Rattle.vw_courses.specs.Steps.Commands.{command_view}
use Rattle.vw_courses.specs.Words.{spelled_as}
use Rattle.vw_courses.proofs.FoundVerbs.{same_verb}
use Rattle.vw_courses.proofs.words.found_command.Goals as goal

-- no command of the table has the words
pub returns-in_err-command_of : goal.returns-in_err-command_of
returns-in_err-command_of c =
    let words = c.args.words.now in
    ap (option_map command_view) c.from_residual.ensures
    ∙ ap (option_and_then (λ verb. spelled_as verb words)) (sym c.in_err-command_of.was ∙ c.command_of.ensures ∙ same_verb words c.args.table.now)

-- this one has them
pub returns : goal.returns
returns c =
    let words = c.args.words.now in
    c.spelled_as.ensures
    ∙ ap (option_and_then (λ verb. spelled_as verb words)) (sym c.in_ok-command_of.was ∙ c.command_of.ensures ∙ same_verb words c.args.table.now)
