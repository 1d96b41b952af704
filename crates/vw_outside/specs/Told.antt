-- What is told of the texts outside, and what a fact of such a text says.
use Rattle.std.specs.Prelude.{◌≡◌, ℕ, List}

-- what is told of a name: nothing, that no text has it, or the bytes of the text
pub data Told : Type 0 where
  untold : Told
  absent : Told
  held : List ℕ → Told

-- a text that a name may have, of which this is told
abbrev pub IsTextOf : Told → List ℕ → Type 0
IsTextOf untold text = Unit {0}
IsTextOf absent text = ⊥
IsTextOf (held bytes) text = text ≡ bytes

-- a fact of the text of a name: of some text that it may have
abbrev pub OfText : Told → (List ℕ → Type 0) → Type 0
OfText told P = (text : List ℕ) × IsTextOf told text × P text
