-- Numbers that read each other in a circle.
use Rattle.std.specs.Prelude.{◌<◌, ◌≤◌, ◌==◌, ℕ, List, length, slice_index, IsTrue}
use Rattle.std.specs.List.{AllZip, IsDistinct}
use Rattle.vw_net.specs.Order.{is_among}
use Rattle.vw_net.specs.Lists.{turned}
use Rattle.vw_order.specs.Graphs.{Graph, Reads}

-- each number reads the next one and the last one the first; none stands twice, and all of them count. A number that
-- reads itself is a circle
pub record IsNumberCircle (graph : Graph) (numbers : List ℕ) : Type 0 where
  pub some : 0 < length numbers
  pub counted : (number : ℕ) → IsTrue (is_among numbers number) → IsTrue (graph.counts number)
  pub once : IsDistinct ◌==◌ numbers
  pub each : AllZip (Reads graph) numbers (turned numbers)

-- the first of some numbers is the least
abbrev pub BeginsWithLeast : List ℕ → Type 0
BeginsWithLeast numbers = (i : ℕ) → i < length numbers → slice_index numbers 0 ≤ slice_index numbers i
