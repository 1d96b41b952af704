-- The graph of a table in a test.
use Rattle.std.specs.Prelude.{◌==◌, ◌&&◌, ℕ, List, map, nat_lt, Option, Some, None, if◌then◌else◌}
use Rattle.vw_order.specs.Graphs.{Graph}

-- what a line says that a number reads
abbrev pub read_in_line : ℕ → ℕ → ℕ × ℕ → Option ℕ
read_in_line count number line = if line.0 == number && nat_lt line.1 count then Some line.1 else None

abbrev pub graph_of_table : ℕ → ℕ → List (ℕ × ℕ) → Graph
graph_of_table count starts lines = record {
  count = count;
  starts = λ number. nat_lt number count && nat_lt number starts;
  counts = λ number. nat_lt number count;
  reads = λ number. map (read_in_line count number) lines;
}
