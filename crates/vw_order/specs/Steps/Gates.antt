-- The gates of a netlist as numbers that read each other: each reads, at each of its inputs, the gate that drives it.
use Rattle.std.specs.Prelude.{ℕ, ◌-◌, List, length, map, nat_lt, slice_get, Option, Some, None, if◌then◌else◌}
use Rattle.vw_net.specs.declared.cell.Cell.{Cell}
use Rattle.vw_net.specs.declared.flat.Flat.{Flat}
use Rattle.vw_net.specs.Order.{is_gate, gate_inputs}
use Rattle.vw_order.specs.Graphs.{Graph}

-- the number of the gate that drives a net
abbrev pub gate_of : ℕ → List Cell → ℕ → Option ℕ
gate_of inputs cells net =
    if nat_lt net inputs then None else (if is_gate (slice_get cells (net - inputs)) then Some (net - inputs) else None)

-- for each net that the gate at a number reads, the gate that drives it
abbrev pub gates_read : ℕ → List Cell → ℕ → List (Option ℕ)
gates_read inputs cells number = map (gate_of inputs cells) (gate_inputs (slice_get cells number))

-- all gates have to be reached, and nothing else counts
abbrev pub gates : Flat → Graph
gates flat = record {
  count = length flat.cells;
  starts = λ number. is_gate (slice_get flat.cells number);
  counts = λ number. is_gate (slice_get flat.cells number);
  reads = gates_read flat.inputs flat.cells;
}
