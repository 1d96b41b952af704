-- The bindings of a placed model. Source: the Berkeley description of BLIF; that a binding is cut at its first `=` is
-- this project's choice.
use Rattle.std.specs.Prelude.{ℕ, Bool, false, ◌||◌, List, [], ◌∷◌, ◌++◌, map, length, ◌==◌}
use Rattle.std.specs.List.{list_any, before_first, after_first}
use Rattle.vw_design.specs.Distinct.{has_name}
use Rattle.vw_blif.specs.Words.{first_word, further_words}
use Rattle.vw_design.specs.Paths.{Word}
use Rattle.vw_blif.specs.Spelled.{Binding, SpelledItem, place}

-- what stands before the first `=`, and what stands behind it
abbrev pub formal_of : Word → Word
formal_of word = before_first (λ b. b == 61) word

-- what stands behind the first `=` of a word: the actual of a binding
abbrev pub actual_part : Word → Word
actual_part word = after_first (λ b. b == 61) word

-- no byte stands on one of the sides
abbrev pub is_no_bind : Word → Bool
is_no_bind word = length (formal_of word) == 0 || length (actual_part word) == 0

-- the binding that a word spells
abbrev pub bind_of : Word → Binding
bind_of word = record { formal = formal_of word; actual = actual_part word }

-- whether one of these words stands among those before it, or among these
abbrev pub repeats : List Word → List Word → Bool
repeats before [] = false
repeats before (word ∷ words) = has_name before word || repeats (before ++ word ∷ []) words

-- whether the words behind the keyword have a binding that can't stand there
abbrev pub has_bad_bind : List Word → Bool
has_bad_bind words =
    list_any is_no_bind (further_words words) || repeats [] (map formal_of (further_words words))

-- the placed model of the words behind the keyword
abbrev pub spelled_placing : ℕ → List Word → SpelledItem
spelled_placing line words = place line (first_word words) (map bind_of (further_words words))
