use Rattle.std.proofs.Common.{◌≡◌, ◌<◌, Some, map, take, slice_get}
use Rattle.std.specs.List.{All}
use Rattle.vw_design.specs.Preorder.{cells}
use Rattle.vw_flat.specs.Steps.Numbers.{net_count, numbers_at}
use Rattle.vw_flat.proofs.cell.numbers_read.Given as goal

-- so many numbers are there
abbrev pub invariant-loop-input : goal.invariant-loop-input
invariant-loop-input l = record {
  numbers : map (λ number. Some number) l.numbers.items ≡ take l.input (numbers_at l.elaborated (slice_get (cells l.elaborated) l.cell));
  fit : All (λ number. number < net_count l.elaborated) l.numbers.items;
}
