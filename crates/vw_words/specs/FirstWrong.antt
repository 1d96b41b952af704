-- The place of the first wrong word, by the fronts of words that a command may have. Source: this project.
use Rattle.std.specs.Prelude.{◌≡◌, ◌≤◌, ◌+◌, ℕ, List, ◌++◌, length, IsTrue}
use Rattle.std.specs.List.{All, Contains}
use Rattle.vw_words.specs.Forms.{suits, Form}
use Rattle.vw_words.specs.Matched.{has_form}

-- words that become words of a form with further ones behind them, perhaps none
abbrev pub IsFrontOfForm : Form → List (List ℕ) → Type 0
IsFrontOfForm form front = (more : List (List ℕ)) × IsTrue (has_form (front ++ more) form)

-- the same for some form of several
abbrev pub IsFrontOfSome : List Form → List (List ℕ) → Type 0
IsFrontOfSome forms front = (form : Form) × Contains forms form × IsFrontOfForm form front

-- a word is wrong at this place, from 1: it stands behind the longest front of the words that is one of some form's; where
-- all words are such a front, it is missing
pub record IsFirstWrong (forms : List Form) (words : List (List ℕ)) (place : ℕ) : Type 0 where
  pub front : List (List ℕ)
  pub rest : List (List ℕ)
  pub whole : words ≡ front ++ rest
  pub is_front : IsFrontOfSome forms front
  pub longest : (other later : List (List ℕ)) → words ≡ other ++ later → IsFrontOfSome forms other → length other ≤ length front
  pub behind : place ≡ length front + 1

-- there is a word for each place
abbrev pub CanBeGiven : Form → Type 0
CanBeGiven form = All (λ place. (word : List ℕ) × IsTrue (suits place word)) form.places
