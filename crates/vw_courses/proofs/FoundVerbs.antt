-- A command is found in the table of the code as in that of the definitions.
use Rattle.std.proofs.Common.{◌≡◌, ℕ, Bool, true, false, List, [], ◌∷◌, map, Some, option_map, refl}
use Rattle.std.specs.Prelude.{if◌then◌else◌}
use Rattle.std.specs.List.{find}
use Rattle.vw_words.specs.declared.forms.Entry.{Entry}
use Rattle.vw_words.specs.Matched.{has_form}
use Rattle.vw_words.specs.Views.{form_view}
use Rattle.vw_courses.specs.declared.forms.Verb.{Verb}
use Rattle.vw_courses.specs.Steps.Commands.{command_form}
use Rattle.vw_courses.specs.Words.{found_verb}

pub same_verb : (words : List (List ℕ)) (table : List (Entry Verb)) → option_map (λ entry. entry.command) (find (λ entry. has_form words (form_view entry.form)) table) ≡ found_verb words (map command_form table)
same_verb words [] = refl
same_verb words (entry ∷ table) = by (has_form words (form_view entry.form)) (same_verb words table) where
  Same : Bool → Type 0
  Same has = option_map (λ entry. entry.command) (if has then Some entry else find (λ entry. has_form words (form_view entry.form)) table)
      ≡ option_map (λ command. command.verb) (if has then Some (command_form entry) else find (λ command. has_form words command.form) (map command_form table))

  by : (has : Bool) → Same false → Same has
  by true same = refl
  by false same = same
