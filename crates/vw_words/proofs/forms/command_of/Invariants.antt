-- what is left of the table decides
use Rattle.std.proofs.Common.{◌≡◌, drop}
use Rattle.std.specs.List.{find}
use Rattle.vw_words.specs.Matched.{has_form}
use Rattle.vw_words.specs.Views.{form_view}
use Rattle.vw_words.proofs.forms.command_of.Given as goal

abbrev pub invariant-loop-entry : goal.invariant-loop-entry
invariant-loop-entry g l = find (λ entry. has_form l.words (form_view entry.form)) (drop l.entry-index l.table) ≡ find (λ entry. has_form l.words (form_view entry.form)) l.table
