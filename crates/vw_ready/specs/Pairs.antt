-- The first place of each pair of numbers in a list.
use Rattle.std.specs.Prelude.{◌≡◌, ◌==◌, ℕ, Bool, ◌&&◌, List, Option}
use Rattle.std.specs.HashMap as hash
use Rattle.vw_net.specs.FirstFound.{first_at, found_if}

-- whether a pair has these two parts
abbrev pub is_number_pair : ℕ → ℕ → ℕ × ℕ → Bool
is_number_pair one other pair = one == pair.0 && other == pair.1

-- the number of the first of these pairs, which are numbered from a number on, that has these two parts
abbrev pub first_pair : ℕ → List (ℕ × ℕ) → ℕ → ℕ → Option ℕ
first_pair number pairs one other = first_at (λ place pair. found_if (is_number_pair one other pair) place) number pairs

abbrev pub pair_in : {S : Type 0} → hash.HashMap (ℕ × ℕ) ℕ S → ℕ → ℕ → Option ℕ
pair_in table one other = hash.get_by (is_number_pair one other) table

-- it has the first place of each pair
abbrev pub HasPairs : {S : Type 0} → List (ℕ × ℕ) → hash.HashMap (ℕ × ℕ) ℕ S → Type 0
HasPairs pairs table = (one other : ℕ) → pair_in table one other ≡ first_pair 0 pairs one other
