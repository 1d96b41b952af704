-- A search in depth under way: the numbers that are done, and the stack of those that are open. Source: the textbook
-- form of depth-first search.
use Rattle.std.specs.Prelude.{◌≡◌, ◌<◌, ◌==◌, ℕ, List, [], ◌∷◌, ◌++◌, length, slice_index, slice_index_or, Option, Some, None, if◌then◌else◌, IsTrue}
use Rattle.std.specs.Global.{Vec}
use Rattle.std.specs.List.{IsDistinct}
use Rattle.vw_net.specs.Order.{is_among}
use Rattle.vw_order.specs.declared.progress.Progress.{Progress}
use Rattle.vw_order.specs.declared.progress.Progress.TheVariants.{Fresh, Open, Done}
use Rattle.vw_order.specs.declared.depth.DepthSearch.{DepthSearch}
use Rattle.vw_order.specs.Graphs.{Graph, ReadsAt, Reads}
use Rattle.vw_order.specs.Orders.{IsBehind}
use Rattle.vw_order.specs.Circles.{IsNumberCircle}

-- the progress of a number
abbrev pub progress_of : List ℕ → List ℕ → ℕ → Progress
progress_of order stack number = if is_among order number then Done else (if is_among stack number then Open else Fresh)

-- each number reads the next one
abbrev pub IsReadChain : Graph → List ℕ → Type 0
IsReadChain graph [] = Unit {0}
IsReadChain graph (number ∷ []) = Unit {0}
IsReadChain graph (number ∷ next ∷ rest) = Reads graph number next × IsReadChain graph (next ∷ rest)

-- how far a search has come
pub record IsSearch (graph : Graph) (progress : List Progress) (cursors order stack : List ℕ) : Type 0 where
  pub progress_each : length progress ≡ graph.count
  pub cursors_each : length cursors ≡ graph.count
  pub known : (number : ℕ) → slice_index_or progress number Fresh ≡ progress_of order stack number
  pub done : (number place other : ℕ) → place < slice_index cursors number → ReadsAt graph number place other → IsTrue (is_among order other)
  pub behind : IsBehind graph order
  pub once : IsDistinct ◌==◌ (order ++ stack)
  pub leads : IsReadChain graph stack
  pub counted : (number : ℕ) → IsTrue (is_among (order ++ stack) number) → IsTrue (graph.counts number)

abbrev pub IsDepthSearch : Graph → DepthSearch → Type 0
IsDepthSearch graph depth = IsSearch graph depth.progress.items depth.cursors.items depth.order.items depth.stack.items

-- what was done or open is done or open
abbrev pub KeepsNumbers : DepthSearch → DepthSearch → Type 0
KeepsNumbers old new =
    (number : ℕ) → IsTrue (is_among (old.order.items ++ old.stack.items) number) → IsTrue (is_among (new.order.items ++ new.stack.items) number)

-- nothing is open, and what was done or open is done
pub record IsAtRest (graph : Graph) (old new : DepthSearch) : Type 0 where
  pub depth : IsDepthSearch graph new
  pub rests : new.stack.items ≡ []
  pub kept : KeepsNumbers old new

-- a search that has gone on rests, or has found a circle
abbrev pub IsGoneOn : Graph → DepthSearch → DepthSearch → Option (Vec ℕ) → Type 0
IsGoneOn graph old new None = IsAtRest graph old new
IsGoneOn graph old new (Some circle) = IsNumberCircle graph circle.items

-- one that has visited a number has done with it, where it has to be reached
abbrev pub IsVisited : Graph → DepthSearch → DepthSearch → ℕ → Option (Vec ℕ) → Type 0
IsVisited graph old new number None =
    IsAtRest graph old new × (IsTrue (graph.starts number) → IsTrue (is_among new.order.items number))
IsVisited graph old new number (Some circle) = IsNumberCircle graph circle.items
