-- What it means that words have a form, in terms of the form's parts. Source: this project.
use Rattle.std.specs.Prelude.{◌≡◌, ◌≤◌, ◌==◌, ◌&&◌, ℕ, Bool, true, not, List, [], ◌∷◌, ◌++◌, IsTrue, Any, count_by}
use Rattle.std.specs.List.{All, AllZip, list_any}
use Rattle.std.specs.Str.{bytes_eq}
use Rattle.vw_words.specs.Forms.{Setting, suits, gives, Form}

-- a word for each place; and words in any order that each give a setting, none of which is given more often than it may
pub record AreWordsOf (form : Form) (front settings : List (List ℕ)) : Type 0 where
  pub places : AllZip (λ place word. IsTrue (suits place word)) form.places front
  pub each : All (λ word. Any (λ setting. IsTrue (gives setting word)) form.settings) settings
  pub few : All (λ setting. count_by (gives setting) settings ≤ setting.times) form.settings

-- the words are such words
abbrev pub HasWordsOf : Form → List (List ℕ) → Type 0
HasWordsOf form words = (front settings : List (List ℕ)) × (words ≡ front ++ settings) × AreWordsOf form front settings

-- whether a name has a `=`
abbrev pub has_equals : List ℕ → Bool
has_equals name = list_any (λ b. b == 61) name

-- whether settings have names of their own, without `=`
abbrev pub are_told_apart : List Setting → Bool
are_told_apart [] = true
are_told_apart (setting ∷ settings) = not (has_equals setting.name) && (not (list_any (λ other. bytes_eq other.name setting.name) settings) && are_told_apart settings)
