-- Bits as numbers, for sums over tests.
use Rattle.std.specs.Prelude.{ℕ, Bool, if◌then◌else◌}

-- 1 where a bit is true, and 0 where it is false
abbrev pub one_if : Bool → ℕ
one_if bit = if bit then 1 else 0
