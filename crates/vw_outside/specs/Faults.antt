-- How faults are counted, and which calls in memory are to fail.
use Rattle.std.specs.Prelude.{ℕ, ◌+◌, ◌-◌, ◌^◌, ◌==◌, min, Bool, List}
use Rattle.std.specs.List.{list_any}

-- a count after one more fault; a count that has come to 2 ^ 64 - 1 stays there
abbrev pub one_more : ℕ → ℕ
one_more count = min (count + 1) (2 ^ 64 - 1)

-- whether the call with this number is among those that are to fail
abbrev pub is_listed : List ℕ → ℕ → Bool
is_listed failing number = list_any (λ call. call == number) failing
