-- Numbers that are the same from a level on.
use Rattle.std.proofs.Common.{◌≡◌, ◌≤◌, ℕ, arith}

-- from a level on, it is one number
pub record IsSettledFrom (number : ℕ → ℕ) (from : ℕ) : Type 0 where
  pub same : (one other : ℕ) → from ≤ one → from ≤ other → number one ≡ number other

-- what is settled stays so
pub settled_later : (number : ℕ → ℕ) (from to : ℕ) → from ≤ to → IsSettledFrom number from → IsSettledFrom number to
settled_later number from to after settled = record { same = λ one other one_late other_late. settled.same one other (omega arith) (omega arith) }
