-- How many hops wires have.
use Rattle.std.specs.Prelude.{ℕ, List, length, sum_by}
use Rattle.vw_plan.specs.declared.wire.Wire.{Wire}

-- the hops of all of some wires
abbrev pub hop_count : List Wire → ℕ
hop_count wires = sum_by (λ wire. length wire.hops) wires
