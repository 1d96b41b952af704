-- How many needed pairs go from each node to each other, and how far they go. Source: this project.
use Rattle.std.specs.Prelude.{◌≡◌, ◌==◌, ◌&&◌, ◌≤◌, ◌<◌, ◌+◌, ◌*◌, ℕ, Bool, List, length, count_by, sum_by, slice_index}
use Rattle.std.specs.List.{All, range_with_len}
use Rattle.vw_net.specs.declared.flat.Flat.{Flat}
use Rattle.vw_plan.specs.declared.board.Board.{Board}
use Rattle.vw_plan.specs.declared.need.Need.{Need}
use Rattle.vw_plan.specs.Distance.{distance}
use Rattle.vw_plan.specs.Needs.{needed_pairs}
use Rattle.vw_plan.specs.Nets.{node_of}
use Rattle.vw_place.specs.Steps.NodeLists.{renumbered_node}

-- whether a needed pair goes from a node to another
abbrev pub goes : Flat → List ℕ → ℕ → ℕ → Need → Bool
goes flat chip_of from to need = node_of flat chip_of need.net == from && need.to == to

-- a number for each two of 33 nodes; at most 69,632 nets are needed at 33 nodes each
pub record IsPairTable (table : List ℕ) : Type 0 where
  pub long : length table ≡ 1089
  pub low : All (λ count. count ≤ 2297856) table

-- a table has how many needed pairs go from each node to each other
abbrev pub IsTraffic : Flat → List ℕ → List ℕ → Type 0
IsTraffic flat chip_of table =
    (from to : ℕ) → from < 33 → to < 33 → slice_index table (from * 33 + to) ≡ count_by (goes flat chip_of from to) (needed_pairs flat chip_of)

-- how far the pairs between two nodes go, with nodes numbered by a list
abbrev pub travel_between : List ℕ → Board → List ℕ → ℕ → ℕ → ℕ
travel_between table board at from to = slice_index table (from * 33 + to) * distance board (renumbered_node at from) (renumbered_node at to)

-- those from a node to the nodes before one
abbrev pub travel_from : List ℕ → Board → List ℕ → ℕ → ℕ → ℕ
travel_from table board at from nodes = sum_by (travel_between table board at from) (range_with_len 0 nodes)

-- those from the nodes before one
abbrev pub travel_before : List ℕ → Board → List ℕ → ℕ → ℕ
travel_before table board at nodes = sum_by (λ from. travel_from table board at from (board.chips + 1)) (range_with_len 0 nodes)

-- all of them
abbrev pub travel_by : List ℕ → Board → List ℕ → ℕ
travel_by table board at = travel_before table board at (board.chips + 1)
