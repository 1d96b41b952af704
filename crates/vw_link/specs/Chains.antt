-- The words that were taken from lifted links. Source: this project.
use Rattle.std.specs.Prelude.{◌≡◌, ◌≤◌, ◌<◌, ◌+◌, ◌^◌, ◌==◌, ℕ, Bool, List, [], ◌∷◌, ◌++◌, length, slice_get, vec_capacity, Some, None, if◌then◌else◌}
use Rattle.vw_prog.specs.declared.word.Word.{Word}
use Rattle.vw_prog.specs.Fabric.{Carried}
use Rattle.vw_link.specs.declared.chain.Piece.{Piece}
use Rattle.vw_link.specs.declared.chain.Chain.{Chain, End, Hung'}

-- the words that were taken from a link between a lay and a lift
pub record Lift : Type 0 where
  pub link : ℕ
  pub words : List Word

-- the lifts of a chain, newest first
abbrev pub lifts_of : Chain → List Lift
lifts_of End = []
lifts_of (Hung' place link words older) = record { link = link; words = words.items } ∷ lifts_of older

-- a piece without words, and with room for so many
pub record IsRoom (link room : ℕ) (piece : Piece) : Type 0 where
  pub same : piece.link ≡ link
  pub none : piece.words.items ≡ []
  pub wide : room ≤ vec_capacity piece.words

-- a fabric: whether it keeps its words, and its lifts, newest first
pub record SeenLinks : Type 0 where
  pub keeps : Bool
  pub lifts : List Lift

-- the words of a link, oldest first
abbrev pub lift_words : ℕ → List Lift → List Word
lift_words link [] = []
lift_words link (lift ∷ older) = if link == lift.link then lift_words link older ++ lift.words else lift_words link older

-- what a fabric tells: nothing, or for each link its words
abbrev pub carried_of : SeenLinks → Carried
carried_of links = if links.keeps then Some (λ link. lift_words link links.lifts) else None

-- ---- on the way to the word with a number. No public clause cites it

-- how many words of a link the newest lift has
abbrev pub newest : ℕ → List Lift → ℕ
newest link [] = 0
newest link (lift ∷ older) = if link == lift.link then length lift.words else 0

-- Of the words of a link in some lifts, all but the rest were counted, and no whole newest lift of them is behind the number.
pub record IsNear (link number rest : ℕ) (lifts : List Lift) (counted : ℕ) : Type 0 where
  pub count : length (lift_words link lifts) ≡ counted + rest
  pub near : counted ≤ number + newest link lifts
  pub low : counted < 2 ^ 65

-- the newest lifts were left out, whose words are all behind the number
pub record IsOlder (link number : ℕ) (old : List Lift) (before : ℕ) (new : List Lift) (counted : ℕ) : Type 0 where
  pub count : (rest : ℕ) → length (lift_words link old) ≡ before + rest → length (lift_words link new) ≡ counted + rest
  pub same : (rest : ℕ) → length (lift_words link old) ≡ before + rest → slice_get (lift_words link new) number ≡ slice_get (lift_words link old) number

-- and no further one can be left out
pub record IsPassed (link number : ℕ) (old : List Lift) (before : ℕ) (new : List Lift) (counted : ℕ) : Type 0 where
  pub near : (rest : ℕ) → length (lift_words link old) ≡ before + rest → IsNear link number rest new counted
  pub same : (rest : ℕ) → length (lift_words link old) ≡ before + rest → slice_get (lift_words link new) number ≡ slice_get (lift_words link old) number
