-- What the words of a line say so far.
use Rattle.std.specs.Prelude.{◌≡◌, ◌<◌, ◌≤◌, ℕ, ◌-◌, ◌^◌, ◌==◌, min, Bool, true, false, List, [], ◌∷◌, ◌++◌, map, length, take, codes, Option, Some, None, Err, MatchBool}
use Rattle.std.specs.List.{All}
use Rattle.std.specs.Str.{bytes_eq}
use Rattle.vw_text.specs.Bare.{is_blank}
use Rattle.vw_text.specs.Number.{is_number, value_from}
use Rattle.vw_text.specs.WordLines.{words_of}
use Rattle.vw_rows.specs.declared.fault.StimFault.TheVariants.{BadLine}
use Rattle.vw_rows.specs.declared.said.Said.{Said}
use Rattle.vw_rows.specs.declared.said.Said.TheVariants.{Nothing, Bits, Dash, Row, Letters, Hold, Number, Times}
use Rattle.vw_rows.specs.Stimulus.{is_bits, bits_of, held_times, rows_added}
use Rattle.vw_rows.specs.declared.limits.TheConstants.{MOST_CLOCKS}

-- no line has these words
abbrev pub AreBad : List (List ℕ) → Type 0
AreBad words = (width number : ℕ) (before : List Bool) → rows_added width number before words ≡ Err (BadLine number)

-- a part of a word has no blank
abbrev pub IsSolid : List ℕ → Type 0
IsSolid part = All (λ b. is_blank b ≡ false) part

-- a count that stays at the end of its type
abbrev pub counted_to_limit : ℕ → ℕ
counted_to_limit number = min number (2 ^ 64 - 1)

-- a word spells a row, and isn't `hold`
pub record SpellsRow (word : List ℕ) (row : List Bool) : Type 0 where
  pub spells : bits_of word ≡ Some row
  pub other : bytes_eq word (codes "hold") ≡ false

-- this is said where these words are done and this is the front of a further one, with the row so far
abbrev pub IsSaid : Said → List (List ℕ) → List ℕ → List Bool → Type 0
IsSaid Nothing done part row = (done ≡ []) × (part ≡ []) × (row ≡ [])
IsSaid (Bits count) done part row = (done ≡ []) × (is_bits part ≡ true) × (row ≡ map (λ b. b == 49) part) × (count ≡ counted_to_limit (length row))
IsSaid Dash done part row = (done ≡ []) × (part ≡ codes "-") × (row ≡ [])
IsSaid (Row count) done part row = (word : List ℕ) × (done ≡ word ∷ []) × (part ≡ []) × SpellsRow word row × (count ≡ counted_to_limit (length row))
IsSaid (Letters count) done part row = (done ≡ []) × (part ≡ take count (codes "hold")) × (0 < count) × (count ≤ 4) × (row ≡ [])
IsSaid Hold done part row = (done ≡ codes "hold" ∷ []) × (part ≡ []) × (row ≡ [])
IsSaid (Number times) done part row = (done ≡ codes "hold" ∷ []) × (is_number part ≡ true) × (value_from 0 part ≡ times) × (times ≤ MOST_CLOCKS) × (row ≡ [])
IsSaid (Times times) done part row = (word : List ℕ) × (done ≡ codes "hold" ∷ word ∷ []) × (part ≡ []) × (held_times (codes "hold") word ≡ Some times) × (times ≤ MOST_CLOCKS) × (row ≡ [])

-- the row so far with a byte more
abbrev pub row_with : Said → ℕ → List Bool → List Bool
row_with (Bits count) byte row = row ++ (byte == 49) ∷ []
row_with _ byte row = row

-- a byte that is no blank belongs to the word under way, or begins one
abbrev pub GoesOn : Said → ℕ → Option Said → Type 0
GoesOn old byte (Some new) = (done : List (List ℕ)) (part : List ℕ) (row : List Bool) → IsSaid old done part row
    → IsSaid new done (part ++ byte ∷ []) (row_with new byte row)
GoesOn old byte None = (done : List (List ℕ)) (part : List ℕ) (row : List Bool) → IsSaid old done part row → IsSolid part → is_blank byte ≡ false
    → (more : List ℕ) → AreBad (done ++ words_of (part ++ byte ∷ more))

-- a blank ends the word under way
abbrev pub EndsWord : Said → Option Said → Type 0
EndsWord old (Some new) = (done : List (List ℕ)) (part : List ℕ) (row : List Bool) → IsSaid old done part row → IsSolid part
    → IsSaid new (done ++ words_of part) [] row
EndsWord old None = (done : List (List ℕ)) (part : List ℕ) (row : List Bool) → IsSaid old done part row → IsSolid part
    → (words : List (List ℕ)) → AreBad ((done ++ words_of part) ++ words)

-- what a byte does, by what it is
abbrev pub TakesByte : Said → ℕ → Option Said → Type 0
TakesByte old byte new = MatchBool (is_blank byte) (EndsWord old new) (GoesOn old byte new)
