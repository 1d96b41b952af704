-- Which gates read each other.
use Rattle.std.specs.Prelude.{ℕ, ◌+◌, Bool, ◌&&◌, slice_get}
use Rattle.vw_net.specs.declared.flat.Flat.{Flat}
use Rattle.vw_net.specs.Order.{is_gate, is_among, read_nets_at}

-- whether what stands at one cell number is a gate that reads the net of the gate at another one
abbrev pub gate_reads : Flat → ℕ → ℕ → Bool
gate_reads flat number other =
    is_gate (slice_get flat.cells number) && (is_gate (slice_get flat.cells other) && is_among (read_nets_at (slice_get flat.cells number)) (flat.inputs + other))
