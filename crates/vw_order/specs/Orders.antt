-- Orders of numbers that read each other.
use Rattle.std.specs.Prelude.{◌<◌, ◌==◌, ℕ, List, length, take, slice_index, IsTrue}
use Rattle.std.specs.List.{IsDistinct}
use Rattle.vw_net.specs.Order.{is_among}
use Rattle.vw_order.specs.Graphs.{Graph, ReadsAt}

-- each number stands behind those that it reads
abbrev pub IsBehind : Graph → List ℕ → Type 0
IsBehind graph order =
    (i place other : ℕ) → i < length order → ReadsAt graph (slice_index order i) place other → IsTrue (is_among (take i order) other)

-- all that has to be reached, and nothing that doesn't count; each once, and behind those that it reads
pub record IsNumberOrder (graph : Graph) (order : List ℕ) : Type 0 where
  pub all : (number : ℕ) → IsTrue (graph.starts number) → IsTrue (is_among order number)
  pub counted : (number : ℕ) → IsTrue (is_among order number) → IsTrue (graph.counts number)
  pub once : IsDistinct ◌==◌ order
  pub behind : IsBehind graph order
