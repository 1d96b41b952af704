-- Numbers that read each other. Source: directed graphs, in the words of what is worked out in an order.
use Rattle.std.specs.Prelude.{◌≡◌, ◌<◌, ℕ, Bool, List, slice_get, Option, Some, IsTrue}

-- how many numbers there are, those that a search has to reach, those that it may come to (they count), and what each
-- number reads at its places
pub record Graph : Type 0 where
  pub count : ℕ
  pub starts : ℕ → Bool
  pub counts : ℕ → Bool
  pub reads : ℕ → List (Option ℕ)

-- one number reads another one at a place, or at some place
abbrev pub ReadsAt : Graph → ℕ → ℕ → ℕ → Type 0
ReadsAt graph number place other = slice_get (graph.reads number) place ≡ Some (Some other)

abbrev pub Reads : Graph → ℕ → ℕ → Type 0
Reads graph number other = (place : ℕ) × ReadsAt graph number place other

-- a search stays among the numbers that count: it starts there, they read no others, and each is below how many there are
pub record StaysWithin (graph : Graph) : Type 0 where
  pub below : (number : ℕ) → IsTrue (graph.counts number) → number < graph.count
  pub started : (number : ℕ) → IsTrue (graph.starts number) → IsTrue (graph.counts number)
  pub read : (number place other : ℕ) → IsTrue (graph.counts number) → ReadsAt graph number place other
      → IsTrue (graph.counts other)
