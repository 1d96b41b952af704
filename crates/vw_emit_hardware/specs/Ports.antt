-- The ports of each node of an emitted board. Source: this project.
use Rattle.std.specs.Prelude.{◌==◌, ◌<◌, ℕ, List, [], ◌∷◌, ◌++◌, length, slice_index, if◌then◌else◌}
use Rattle.vw_net.specs.Gathered.{gather, listed}
use Rattle.vw_net.specs.declared.cell.Cell.{Cell}
use Rattle.vw_net.specs.declared.cell.Cell.TheVariants.{Gate, Latch}
use Rattle.vw_plan.specs.PlannedBoard.{PlannedBoard}
use Rattle.vw_plan.specs.declared.link.Link.{Link}
use Rattle.vw_emit_hardware.specs.Items.{User, users}
use Rattle.vw_emit_hardware.specs.Locals.{Local, column, kept, pin_in, pin_out, result}

-- a pin that some hop uses
pub record IsUsed (planned : PlannedBoard) (link : Link) (pin : ℕ) : Type 0 where
  pub within : pin < link.width
  pub some : 0 < length (users planned link pin)

-- the port of a pin with these users
abbrev pub used_port : Local → List User → List Local
used_port port [] = []
used_port port (user ∷ others) = port ∷ []

-- those of a link's used pins, at one of its ends
abbrev pub pin_ports : (ℕ → Local) → PlannedBoard → Link → List Local
pin_ports port planned link = gather (λ pin. used_port (port pin) (users planned link pin)) link.width

-- a node's inputs are the columns, at the host, and the used pins that reach it
abbrev pub node_inputs : PlannedBoard → ℕ → List Local
node_inputs planned node =
    (if node == 0 then gather (λ number. column number ∷ []) planned.ordered.flat.inputs else [])
    ++ listed (λ at link. if link.to == node then pin_ports (pin_in at) planned link else []) 0 planned.board.links

-- a latch of a node
abbrev pub latch_port : ℕ → Cell → List Local
latch_port cell (Gate ins cover) = []
latch_port cell (Latch d init) = kept cell ∷ []

-- its outputs are the used pins that leave it, and at the host the outputs, at a chip its latches
abbrev pub node_outputs : PlannedBoard → ℕ → List Local
node_outputs planned node =
    listed (λ at link. if link.from == node then pin_ports (pin_out at) planned link else []) 0 planned.board.links
    ++ (if node == 0 then gather (λ output. result output ∷ []) (length planned.ordered.flat.outputs)
    else listed (λ cell is. if slice_index planned.plan.chip_of cell == node then latch_port cell is else []) 0
    planned.ordered.flat.cells)
