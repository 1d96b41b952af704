-- How the nets of an emitted board are spelled: a letter and numbers, with `_` between numbers. Source: this project.
use Rattle.std.specs.Prelude.{ℕ, ◌++◌, codes, take}
use Rattle.std.specs.Fmt.{decimal}
use Rattle.vw_net.specs.Cells.{latch_count}
use Rattle.vw_design.specs.Paths.{Word}
use Rattle.vw_plan.specs.PlannedBoard.{PlannedBoard}
use Rattle.vw_emit_hardware.specs.Locals.{Local, caught, column, coming, delayed, gate, held, kept, moment, pin_in, pin_out, result, sent}

-- two and three numbers
abbrev pub two_numbers : ℕ → ℕ → Word
two_numbers one other = decimal one ++ (codes "_" ++ decimal other)

abbrev pub three_numbers : ℕ → ℕ → ℕ → Word
three_numbers one other third = decimal one ++ (codes "_" ++ two_numbers other third)

-- a net of a node
abbrev pub spelled : Local → Word
spelled (column number) = codes "x" ++ decimal number
spelled (moment microcycle) = codes "t" ++ decimal microcycle
spelled (gate cell) = codes "c" ++ decimal cell
spelled (kept cell) = codes "q" ++ decimal cell
spelled (coming cell) = codes "l" ++ decimal cell
spelled (held wire hop) = codes "r" ++ two_numbers wire hop
spelled (caught wire hop) = codes "n" ++ two_numbers wire hop
spelled (sent link pin number) = codes "e" ++ three_numbers link pin number
spelled (delayed link pin number) = codes "d" ++ three_numbers link pin number
spelled (pin_in link pin) = codes "i" ++ two_numbers link pin
spelled (pin_out link pin) = codes "o" ++ two_numbers link pin
spelled (result output) = codes "y" ++ decimal output

-- the board's net of a pin, and that which shows a latch, by its number among latches
abbrev pub pin_net : ℕ → ℕ → Word
pin_net link pin = codes "p" ++ two_numbers link pin

abbrev pub shown_net : ℕ → Word
shown_net latch = codes "s" ++ decimal latch

-- the board's net of a port of a node; columns and outputs have the names that they have there
abbrev pub net_of_port : PlannedBoard → Local → Word
net_of_port planned (kept cell) = shown_net (latch_count (take cell planned.ordered.flat.cells))
net_of_port planned (pin_in link pin) = pin_net link pin
net_of_port planned (pin_out link pin) = pin_net link pin
net_of_port planned port = spelled port

-- the model of a node
abbrev pub node_name : ℕ → Word
node_name node = codes "node" ++ decimal node
