-- The text of a plan, piece by piece.
use Rattle.std.specs.Prelude.{ℕ, List, [], ◌∷◌, ◌++◌}
use Rattle.std.specs.List.{flat_map}
use Rattle.vw_plan.specs.declared.wire.Hop.{Hop}
use Rattle.vw_plan.specs.declared.wire.Wire.{Wire}
use Rattle.vw_text.specs.Printed.{with_newline}
use Rattle.vw_plantext.specs.Grammar.{hop_line, wire_line}

abbrev pub hops_text : List Hop → List ℕ
hops_text hops = flat_map (λ hop. with_newline (hop_line hop)) hops

abbrev pub wire_text : Wire → List ℕ
wire_text wire = with_newline (wire_line wire) ++ hops_text wire.hops

abbrev pub wires_text : List Wire → List ℕ
wires_text wires = flat_map wire_text wires
