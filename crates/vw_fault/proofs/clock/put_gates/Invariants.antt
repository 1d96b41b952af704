-- in each lane the nets that are ready after the gates so far have the values that they have to have
use Rattle.std.proofs.Common.{◌≡◌, ◌<◌, ◌+◌, ℕ, Bool, true, false, List, [], length, take, map, Some, slice_get, slice_index_or}
use Rattle.vw_net.specs.declared.cell.Cell.TheVariants.{Gate}
use Rattle.vw_net.specs.declared.cover.Cover.{Cover}
use Rattle.vw_net.specs.Cover.{cover_value}
use Rattle.vw_net.specs.Order.{is_ready}
use Rattle.vw_fault.specs.Steps.Lanes.{find_in, lane_bits}
use Rattle.vw_fault.proofs.clock.put_gates.Given as goal

abbrev pub invariant-loop-number : goal.invariant-loop-number
invariant-loop-number l = record {
  nets : length l.words ≡ length l.initial.words;
  values : (lane : ℕ) → lane < 64 → (value : ℕ → Bool)
      → ((net : ℕ) → is_ready l.ordered.flat.inputs l.ordered.flat.cells [] net ≡ true → slice_index_or (lane_bits lane l.initial.words) net false ≡ value net)
      → ((number : ℕ) (ins : List ℕ) (cover : Cover) → slice_get l.ordered.flat.cells number ≡ Some (Gate ins cover) → value (l.ordered.flat.inputs + number) ≡ find_in l.stuck lane (l.ordered.flat.inputs + number) (cover_value cover (map value ins)))
      → (net : ℕ) → is_ready l.ordered.flat.inputs l.ordered.flat.cells (take l.number-index l.ordered.order) net ≡ true
      → slice_index_or (lane_bits lane l.words) net false ≡ value net;
}
