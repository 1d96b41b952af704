-- the greatest number so far, and what is left of the forms
use Rattle.std.proofs.Common.{◌≡◌, ◌≤◌, drop, length, max}
use Rattle.vw_words.specs.Matched.{furthest}
use Rattle.vw_words.specs.Views.{forms_view}
use Rattle.vw_words.proofs.forms.first_wrong.Given as goal

abbrev pub invariant-loop-entry : goal.invariant-loop-entry
invariant-loop-entry g l = record {
  within : l.furthest ≤ length l.words;
  rest : max l.furthest (furthest (forms_view (drop l.entry-index l.table)) l.words) ≡ furthest (forms_view l.table) l.words;
}
