-- What is read of any bytes as a state: of a spelling it is the state, and of anything else it doesn't matter.
use Rattle.std.specs.Prelude.{ℕ, Bool, true, false, List, [], ◌∷◌, ◌==◌, unwrap_or, if◌then◌else◌}
use Rattle.std.specs.List.{flat_map, before_first, after_first}
use Rattle.vw_text.specs.Number.{spelled_number}

abbrev pub is_space : ℕ → Bool
is_space b = b == 32

-- what stands before the first space, and behind it
abbrev pub before_space : List ℕ → List ℕ
before_space text = before_first is_space text

abbrev pub behind_space : List ℕ → List ℕ
behind_space text = after_first is_space text

-- the bit that a character names, where it names one
abbrev pub bits_named : ℕ → List Bool
bits_named b = if b == 48 then false ∷ [] else (if b == 49 then true ∷ [] else [])

-- the third word as a number, and the bits that are named behind the fourth
abbrev pub clock_in : List ℕ → ℕ
clock_in text = unwrap_or (spelled_number (before_space (behind_space (behind_space text)))) 0

abbrev pub latches_in : List ℕ → List Bool
latches_in text = flat_map bits_named (behind_space (behind_space (behind_space (behind_space text))))
