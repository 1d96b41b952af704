-- What drives the nets of an emitted board, and in which order they have their values within a microclock. Source: this
-- project.
use Rattle.std.specs.Prelude.{◌≡◌, ◌<◌, ◌==◌, ◌+◌, ℕ, suc, List, [], ◌∷◌, length, slice_get, Some, if◌then◌else◌}
use Rattle.vw_plan.specs.PlannedBoard.{PlannedBoard}
use Rattle.vw_plan.specs.declared.link.Link.{Link}
use Rattle.vw_emit_hardware.specs.Locals.{Local, LocalItem, caught, column, coming, delayed, drives, gate, held, kept, moment, pin_in, pin_out, result, sent}
use Rattle.vw_emit_hardware.specs.Ports.{IsUsed}
use Rattle.vw_emit_hardware.specs.Run.{IsItem}

-- a net of a node is driven: by an item of the node, by a used pin that reaches it, or, at the host, by a column
pub data IsDriven (planned : PlannedBoard) (node : ℕ) (net : Local) : Type 0 where
  by_item : (item : LocalItem) → IsItem planned node item → drives item ≡ net → IsDriven planned node net
  by_pin : (number pin : ℕ) (link : Link) → slice_get planned.board.links number ≡ Some link → link.to ≡ node
      → IsUsed planned link pin → pin_in number pin ≡ net → IsDriven planned node net
  by_column : (number : ℕ) → node ≡ 0 → number < planned.ordered.flat.inputs → column number ≡ net
      → IsDriven planned node net

-- ---- ranks

-- how many numbers stand before a number in a list
abbrev pub count_before : List ℕ → ℕ → ℕ
count_before [] number = 0
count_before (first ∷ numbers) number = if first == number then 0 else suc (count_before numbers number)

-- the rank of a net, which rises from what a table reads to what it drives, and not from one end of a pin to the other: 0
-- for what a register or a column drives; a gate's by its place in the order; and then what leaves by pins, and what comes
-- in by them
abbrev pub rank : PlannedBoard → Local → ℕ
rank planned (column number) = 0
rank planned (moment microcycle) = 0
rank planned (gate cell) = suc (count_before planned.ordered.order cell)
rank planned (kept cell) = 0
rank planned (coming cell) = length planned.ordered.order + 2
rank planned (held wire hop) = 0
rank planned (caught wire hop) = length planned.ordered.order + planned.plan.period + 4
rank planned (sent link pin number) = length planned.ordered.order + 2 + number
rank planned (delayed link pin number) = 0
rank planned (pin_in link pin) = length planned.ordered.order + planned.plan.period + 3
rank planned (pin_out link pin) = length planned.ordered.order + planned.plan.period + 3
rank planned (result output) = length planned.ordered.order + 2
