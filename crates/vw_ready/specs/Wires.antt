-- The pairs of nets and nodes of wires.
use Rattle.std.specs.Prelude.{ℕ, List, map}
use Rattle.vw_plan.specs.declared.wire.Wire.{Wire}

-- the net and the node of each wire
abbrev pub wire_pairs : List Wire → List (ℕ × ℕ)
wire_pairs wires = map (λ wire. (wire.net, wire.to)) wires
