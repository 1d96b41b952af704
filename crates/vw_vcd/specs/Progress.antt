-- What a wave has seen.
use Rattle.std.specs.Prelude.{ℕ, Bool, List, Option}

-- how many signals it has, the number of its next clock, and the value of each signal in the clock before that, where it has
-- seen one
pub record Progress : Type 0 where
  pub signals : ℕ
  pub clock : ℕ
  pub last : Option (List Bool)
