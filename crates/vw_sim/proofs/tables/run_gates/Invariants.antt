-- the nets that are ready after the gates so far have the values that they have to have, and the places that are left are those from here on
use Rattle.std.proofs.Common.{◌≡◌, ◌≤◌, ◌+◌, ℕ, Bool, List, [], length, drop, map, Some, slice_get}
use Rattle.vw_net.specs.declared.cell.Cell.TheVariants.{Gate}
use Rattle.vw_net.specs.declared.cover.Cover.{Cover}
use Rattle.vw_net.specs.Cover.{cover_value}
use Rattle.vw_sim.specs.Steps.Tables.{wide_places}
use Rattle.vw_sim.proofs.Runs.{Have}
use Rattle.vw_sim.proofs.tables.run_gates.Given as goal

abbrev pub invariant-loop-place : goal.invariant-loop-place
invariant-loop-place g l = record {
  nets : length l.values ≡ length l.initial.values;
  made : l.made ≤ length l.ordered.order;
  left : wide_places g.row.N l.ordered.flat.cells l.made (drop l.made l.ordered.order) ≡ drop l.place-index l.wide;
  values : (value : ℕ → Bool)
      → Have l.ordered.flat.inputs l.ordered.flat.cells [] value l.initial.values 0
      → ((number : ℕ) (ins : List ℕ) (cover : Cover) → slice_get l.ordered.flat.cells number ≡ Some (Gate ins cover) → value (l.ordered.flat.inputs + number) ≡ cover_value cover (map value ins))
      → Have l.ordered.flat.inputs l.ordered.flat.cells l.ordered.order value l.values l.made;
}
