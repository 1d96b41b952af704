-- A worked example: the items and ports of each node of the toggle's board, which are those of its emitted text.
use Rattle.std.proofs.Common.{◌≡◌, true, [], ◌∷◌, refl}
use Rattle.vw_net.specs.declared.cell.Init.TheVariants.{One as StartsAtOne, Zero as StartsAtZero}
use Rattle.vw_net.specs.declared.cover.Mark.TheVariants.{Zero, One}
use Rattle.vw_plan.proofs.Toggle.{planned_with, quick}
use Rattle.vw_emit_hardware.specs.Items.{node_items}
use Rattle.vw_emit_hardware.specs.Ports.{node_inputs, node_outputs}
use Rattle.vw_emit_hardware.specs.Locals.{caught, column, coming, gate, held, kept, moment, pin_in, pin_out, register, result, sent, table}
use Rattle.vw_emit_hardware.specs.Tables.{both, choice, pass}

pub at_host : node_items (planned_with 0 quick) 0 ≡ register (moment 2) (moment 0) StartsAtOne ∷ register (moment 0) (moment 1) StartsAtZero ∷ register (moment 1) (moment 2) StartsAtZero
    ∷ table (moment 0 ∷ pin_in 4 0 ∷ held 2 0 ∷ []) (caught 2 0) true choice ∷ register (caught 2 0) (held 2 0) StartsAtZero
    ∷ table (moment 0 ∷ column 0 ∷ []) (sent 0 0 0) true both ∷ table (sent 0 0 0 ∷ []) (pin_out 0 0) true pass
    ∷ table (held 2 0 ∷ []) (result 0) true pass ∷ []
at_host = refl

pub at_one : node_items (planned_with 0 quick) 1 ≡ register (moment 2) (moment 0) StartsAtOne ∷ register (moment 0) (moment 1) StartsAtZero ∷ register (moment 1) (moment 2) StartsAtZero
    ∷ table (held 0 0 ∷ held 3 0 ∷ []) (gate 0) true ((One ∷ Zero ∷ []) ∷ (Zero ∷ One ∷ []) ∷ [])
    ∷ table (moment 0 ∷ pin_in 0 0 ∷ held 0 0 ∷ []) (caught 0 0) true choice ∷ register (caught 0 0) (held 0 0) StartsAtZero
    ∷ table (moment 0 ∷ pin_in 5 0 ∷ held 3 0 ∷ []) (caught 3 0) true choice ∷ register (caught 3 0) (held 3 0) StartsAtZero
    ∷ table (moment 1 ∷ gate 0 ∷ []) (sent 3 0 0) true both ∷ table (sent 3 0 0 ∷ []) (pin_out 3 0) true pass ∷ []
at_one = refl

pub at_two : node_items (planned_with 0 quick) 2 ≡ register (moment 2) (moment 0) StartsAtOne ∷ register (moment 0) (moment 1) StartsAtZero ∷ register (moment 1) (moment 2) StartsAtZero
    ∷ table (moment 2 ∷ held 1 0 ∷ kept 1 ∷ []) (coming 1) true choice ∷ register (coming 1) (kept 1) StartsAtZero
    ∷ table (moment 1 ∷ pin_in 3 0 ∷ held 1 0 ∷ []) (caught 1 0) true choice ∷ register (caught 1 0) (held 1 0) StartsAtZero
    ∷ table (moment 0 ∷ kept 1 ∷ []) (sent 4 0 0) true both ∷ table (sent 4 0 0 ∷ []) (pin_out 4 0) true pass
    ∷ table (moment 0 ∷ kept 1 ∷ []) (sent 5 0 0) true both ∷ table (sent 5 0 0 ∷ []) (pin_out 5 0) true pass ∷ []
at_two = refl

pub ports_in_two : node_inputs (planned_with 0 quick) 2 ≡ pin_in 3 0 ∷ []
ports_in_two = refl

pub ports_out_two : node_outputs (planned_with 0 quick) 2 ≡ pin_out 4 0 ∷ pin_out 5 0 ∷ kept 1 ∷ []
ports_out_two = refl

pub ports_in_host : node_inputs (planned_with 0 quick) 0 ≡ column 0 ∷ pin_in 4 0 ∷ []
ports_in_host = refl

pub ports_out_host : node_outputs (planned_with 0 quick) 0 ≡ pin_out 0 0 ∷ result 0 ∷ []
ports_out_host = refl
