-- A line that is read piece by piece.
use Rattle.std.specs.Prelude.{◌≡◌, ◌<◌, ◌≤◌, ℕ, ◌+◌, ◌==◌, ◌||◌, Bool, true, false, List, ◌∷◌, ◌++◌, length, take, drop, slice_index, map, nat_le, if◌then◌else◌, Option, Some, None, Result, Ok, Err, MatchBool}
use Rattle.std.specs.List.{All}
use Rattle.vw_text.specs.Bare.{without_comment}
use Rattle.vw_text.specs.Physical.{text_lines}
use Rattle.vw_text.specs.WordLines.{words_of}
use Rattle.vw_rows.specs.declared.fault.StimFault.{StimFault}
use Rattle.vw_rows.specs.declared.fault.StimFault.TheVariants.{BadLine}
use Rattle.vw_rows.specs.declared.said.Said.{Said}
use Rattle.vw_rows.specs.declared.said.Said.TheVariants.{Nothing, Bits}
use Rattle.vw_rows.specs.declared.line_so_far.LineSoFar.{LineSoFar}
use Rattle.vw_rows.specs.Stimulus.{line_words, is_text_fault}
use Rattle.vw_rows.specs.Steps.Saying.{AreBad, IsSolid, IsSaid}

-- no byte ends a line
abbrev pub IsUnended : List ℕ → Type 0
IsUnended bytes = All (λ b. (b == 10) ≡ false) bytes

-- the first byte that ends a line stands at this place
pub record IsEndOf (bytes : List ℕ) (end : ℕ) : Type 0 where
  pub before : IsUnended (take end bytes)
  pub cut : bytes ≡ take end bytes ++ 10 ∷ drop (end + 1) bytes
  pub within : end < length bytes

-- a line ends behind a place, with so many bytes and that which ends it, or goes on behind all of these
abbrev pub EndsBehind : List ℕ → ℕ → ℕ → Bool → Type 0
EndsBehind piece from count true = (end : ℕ) × (count ≡ from + end + 1) × IsEndOf (drop from piece) end
EndsBehind piece from count false = (count ≡ length piece) × IsUnended (drop from piece)

-- how many bits a word of bits has that may go on, or begin
abbrev pub bits_said : Said → Option ℕ
bits_said Nothing = Some 0
bits_said (Bits count) = Some count
bits_said _ = None

-- the bits that are kept with those that bytes spell, where what is said with them is a word of so few bits
abbrev pub bits_kept : ℕ → Said → List ℕ → List Bool → List Bool
bits_kept kept (Bits count) bytes bits = if nat_le count kept then bits ++ map (λ b. b == 49) bytes else bits
bits_kept kept _ bytes bits = bits

-- these bytes of a line were read
pub record IsLine (line : List ℕ) (read : LineSoFar) : Type 0 where
  pub done : List (List ℕ)
  pub part : List ℕ
  pub row : List Bool
  pub said : IsSaid read.said done part row
  pub solid : IsSolid part
  pub unended : IsUnended line
  pub whole : line_words line ≡ done ++ words_of part
  pub further : read.commented ≡ false → (more : List ℕ) → line_words (line ++ more) ≡ done ++ words_of (part ++ without_comment more)
  pub ended : read.commented ≡ true → (more : List ℕ) → line_words (line ++ more) ≡ line_words line
  pub bits : length row ≤ read.kept → read.bits.items ≡ row
  pub short : length row ≤ length line

-- the line goes on by some bytes
pub record GoesOnBy (bytes : List ℕ) (old new : LineSoFar) : Type 0 where
  pub line : (line : List ℕ) → IsLine line old → IsLine (line ++ bytes) new
  pub kept : new.kept ≡ old.kept

-- the first line of a text has none of the forms
pub record BeginsBad (text : List ℕ) : Type 0 where
  pub first : List ℕ
  pub others : List (List ℕ)
  pub cut : text_lines text ≡ first ∷ others
  pub bad : AreBad (line_words first)

-- with these bytes, the line has none of the forms
pub record IsBadBehind (bytes : List ℕ) (number : ℕ) (old : LineSoFar) (fault : StimFault) : Type 0 where
  pub is : fault ≡ BadLine number
  pub line : (line : List ℕ) → IsLine line old → (rest : List ℕ) → BeginsBad (line ++ (bytes ++ rest))

-- some bytes are taken, and no comment begins
abbrev pub TakesBytes : List ℕ → ℕ → LineSoFar → LineSoFar → Result (Unit {0}) StimFault → Type 0
TakesBytes bytes number old new (Ok _) = GoesOnBy bytes old new × (new.commented ≡ false)
TakesBytes bytes number old new (Err fault) = is_text_fault fault ≡ true → IsBadBehind bytes number old fault

-- the front of a piece is taken
pub record GoesOnByFront (piece : List ℕ) (count : ℕ) (old new : LineSoFar) : Type 0 where
  pub within : count ≤ length piece
  pub front : GoesOnBy (take count piece) old new
  pub plain : new.commented ≡ false

-- so many bytes at the front of a piece are taken, and what stands behind them is a `#` or the end of the line
abbrev pub TakesFront : List ℕ → ℕ → LineSoFar → LineSoFar → Result ℕ StimFault → Type 0
TakesFront piece number old new (Ok count) = GoesOnByFront piece count old new
    × (count < length piece → (slice_index piece count == 10 || slice_index piece count == 35) ≡ true)
TakesFront piece number old new (Err fault) = is_text_fault fault ≡ true → IsBadBehind piece number old fault

-- the line ends within a piece, of which so many bytes are its own
pub record EndsBy (piece : List ℕ) (count : ℕ) (old new : LineSoFar) : Type 0 where
  pub front : List ℕ
  pub cut : piece ≡ front ++ 10 ∷ drop count piece
  pub long : count ≡ length front + 1
  pub goes : GoesOnBy front old new

-- the whole piece belongs to the line
pub record TakesAll (piece : List ℕ) (count : ℕ) (old new : LineSoFar) : Type 0 where
  pub long : count ≡ length piece
  pub goes : GoesOnBy piece old new

-- the bytes of the line at the front of a piece are taken, with the end of the line where it is there
abbrev pub TakesLine : List ℕ → ℕ → LineSoFar → LineSoFar → Result (ℕ × Bool) StimFault → Type 0
TakesLine piece number old new (Ok taken) = MatchBool taken.1 (EndsBy piece taken.0 old new) (TakesAll piece taken.0 old new)
TakesLine piece number old new (Err fault) = is_text_fault fault ≡ true → IsBadBehind piece number old fault
