-- What a net of the design is called at a node. Source: this project.
use Rattle.std.specs.Prelude.{◌==◌, ◌-◌, ℕ, zero, suc, length, nat_lt, unwrap_or, Option, if◌then◌else◌}
use Rattle.vw_net.specs.FirstFound.{first_at, found_if}
use Rattle.vw_net.specs.Order.{is_latch}
use Rattle.vw_net.specs.declared.flat.Flat.{Flat}
use Rattle.vw_plan.specs.Lead.{brings}
use Rattle.vw_plan.specs.Nets.{driving_cell}
use Rattle.vw_plan.specs.PlannedBoard.{PlannedBoard, home}
use Rattle.vw_plan.specs.declared.wire.Hop.{Hop}
use Rattle.vw_plan.specs.declared.wire.Wire.{Wire}
use Rattle.vw_emit_hardware.specs.Locals.{Local, column, gate, held, kept}

-- at its own node: a column, a latch, or a gate
abbrev pub own_name : Flat → ℕ → Local
own_name flat net =
    if nat_lt net flat.inputs then column net
    else (if is_latch (driving_cell flat net) then kept (net - flat.inputs) else gate (net - flat.inputs))

-- the register of the last hop of a wire, where the wire brings a net to a node
abbrev pub brought_by : ℕ → ℕ → ℕ → Wire → Option Local
brought_by net node number wire = found_if (brings net node wire) (held number (length wire.hops - 1))

-- at another node: the register of the first wire that brings it. Of a sound plan there is one wherever the net is read;
-- else this is any name
abbrev pub brought_name : PlannedBoard → ℕ → ℕ → Local
brought_name planned node net = unwrap_or (first_at (brought_by net node) 0 planned.plan.wires) (held 0 0)

abbrev pub name_at : PlannedBoard → ℕ → ℕ → Local
name_at planned node net =
    if home planned net == node then own_name planned.ordered.flat net else brought_name planned node net

-- what a hop sends, by its number and that of its wire: the wire's net, or what the hop before it has brought
abbrev pub sent_name : PlannedBoard → ℕ → Wire → ℕ → Hop → Local
sent_name planned number wire zero hop = name_at planned hop.from wire.net
sent_name planned number wire (suc before) hop = held number before
