-- Exchanges that are tried one after the other.
use Rattle.std.specs.Prelude.{◌≡◌, ◌≤◌, ◌<◌, ℕ, List}
use Rattle.std.specs.List.{swap}
use Rattle.vw_place.specs.declared.exchange.Exchange.{Exchange}
use Rattle.vw_place.specs.Steps.Traffic.{travel_by}

-- after some exchanges were tried, by the same table and on the same board, the travel is no greater, and where it is the
-- same, the nodes are the same, and none of them lessens it
pub record HasTried (tried : ℕ → ℕ → Type 0) (old new : Exchange) : Type 0 where
  pub table : new.table ≡ old.table
  pub board : new.nodes.board ≡ old.nodes.board
  pub no_greater : new.travel ≤ old.travel
  pub same : new.travel ≡ old.travel → new.nodes ≡ old.nodes
  pub useless :
      new.travel ≡ old.travel → (one other : ℕ) → tried one other
      → old.travel ≤ travel_by old.table.now old.nodes.board (swap old.nodes.numbers one other)

-- these two
abbrev pub IsBoth : ℕ → ℕ → ℕ → ℕ → Type 0
IsBoth one other first second = (first ≡ one) × (second ≡ other)

-- one and each later one before an end
abbrev pub IsOneAndLater : ℕ → ℕ → ℕ → ℕ → Type 0
IsOneAndLater one end first second = (first ≡ one) × (one < second) × (second < end)

-- two chips, of which the first is before a number
abbrev pub IsBefore : ℕ → ℕ → ℕ → ℕ → Type 0
IsBefore one end first second = (1 ≤ first) × (first < one) × (first < second) × (second < end)

-- no exchange of two chips lowers the cost
abbrev pub NoneIsUseful : (List ℕ → ℕ) → ℕ → List ℕ → Type 0
NoneIsUseful cost end at = (one other : ℕ) → 1 ≤ one → one < other → other < end → cost at ≤ cost (swap at one other)
