-- Numbers as words. Source: this project.
use Rattle.std.specs.Prelude.{ℕ, ◌+◌, ◌*◌, ◌-◌, ◌^◌, Bool, false, ◌&&◌, not, List, [], ◌∷◌, Option, Some, None, if◌then◌else◌, ◌==◌, nat_le, nat_lt}
use Rattle.std.specs.List.{list_all}

-- the digits `0` to `9` of ASCII
abbrev pub is_digit : ℕ → Bool
is_digit b = nat_le 48 b && nat_le b 57

-- `0`, or decimal digits of which the first isn't `0`
abbrev pub is_number : List ℕ → Bool
is_number [] = false
is_number (b ∷ []) = is_digit b
is_number (b ∷ c ∷ bs) = is_digit b && (not (b == 48) && list_all is_digit (c ∷ bs))

-- the value of decimal digits, the first of which counts most, behind digits with this value
abbrev pub value_from : ℕ → List ℕ → ℕ
value_from before [] = before
value_from before (b ∷ bs) = value_from (before * 10 + (b - 48)) bs

-- the number that a word spells, below 2 ^ 64
abbrev pub spelled_number : List ℕ → Option ℕ
spelled_number word =
    if is_number word && nat_lt (value_from 0 word) (2 ^ 64) then Some (value_from 0 word) else None
