-- The identifiers of signals. Source: IEEE 1364 for the bytes from `!` to `~`; the order of the digits is this project's choice.
use Rattle.std.specs.Prelude.{ℕ, zero, suc, ◌+◌, ◌/◌, ◌%◌, List, [], ◌∷◌, if◌then◌else◌, ◌==◌}

-- the digits of a number to the base 94, at most so many: the least first, with no zero behind the last one that counts;
-- each is the byte 33 and so many more
abbrev pub digits_94 : ℕ → ℕ → List ℕ
digits_94 zero n = []
digits_94 (suc more) n = (33 + n % 94) ∷ (if n / 94 == 0 then [] else digits_94 more (n / 94))

-- the identifier of the signal with a number: all digits of it, since 94 ^ 5 is above 2 ^ 32
abbrev pub identifier : ℕ → List ℕ
identifier number = digits_94 5 number
