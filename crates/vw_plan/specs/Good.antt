-- What makes a plan good, beyond being sound. Source: this project; the best partition, placement or period isn't asked for.
use Rattle.std.specs.Prelude.{◌≡◌, ◌≤◌, ◌<◌, ◌==◌, ℕ, List, length, map, sum_by, slice_set, if◌then◌else◌}
use Rattle.std.specs.List.{All}
use Rattle.vw_net.specs.declared.flat.Flat.{Flat}
use Rattle.vw_plan.specs.declared.board.Board.{Board}
use Rattle.vw_plan.specs.Chips.{IsChip, cells_on}
use Rattle.vw_plan.specs.Distance.{distance}
use Rattle.vw_plan.specs.Earliest.{HasEarliestHops, HasLeastPeriod}
use Rattle.vw_plan.specs.Needs.{needed_pairs}
use Rattle.vw_plan.specs.Nets.{node_of}
use Rattle.vw_plan.specs.PlannedBoard.{PlannedBoard, home}
use Rattle.vw_plan.specs.Sound.{IsSound}

-- how many pairs of a net and a node are needed
abbrev pub pair_count : Flat → List ℕ → ℕ
pair_count flat chip_of = length (needed_pairs flat chip_of)

-- no move of one cell to a chip with room lowers the number of needed pairs
abbrev pub NoMoveHelps : Flat → Board → List ℕ → Type 0
NoMoveHelps flat board chip_of =
    (cell chip : ℕ) → cell < length chip_of → IsChip board chip → cells_on chip_of chip < board.cells
    → pair_count flat chip_of ≤ pair_count flat (slice_set chip_of cell chip)

-- how far the needed pairs have to go, all together
abbrev pub travel : Flat → Board → List ℕ → ℕ
travel flat board chip_of = sum_by (λ need. distance board (node_of flat chip_of need.net) need.to) (needed_pairs flat chip_of)

-- a chip where two chips have exchanged what is on them
abbrev pub exchanged : ℕ → ℕ → ℕ → ℕ
exchanged one other chip = if chip == one then other else (if chip == other then one else chip)

-- no exchange of what is on two chips lowers the way of the needed pairs
abbrev pub NoExchangeHelps : Flat → Board → List ℕ → Type 0
NoExchangeHelps flat board chip_of =
    (one other : ℕ) → IsChip board one → IsChip board other
    → travel flat board chip_of ≤ travel flat board (map (exchanged one other) chip_of)

-- ---- good plans

-- the wires stand by net and then by node
abbrev pub AreInOrder : PlannedBoard → Type 0
AreInOrder planned = map (λ wire. record { net = wire.net; to = wire.to }) planned.plan.wires ≡ needed_pairs planned.ordered.flat planned.plan.chip_of

-- each wire has as many hops as its nodes are apart
abbrev pub AreShort : PlannedBoard → Type 0
AreShort planned = All (λ wire. length wire.hops ≡ distance planned.board (home planned wire.net) wire.to) planned.plan.wires

-- what the program asks of its own plans
pub record IsGood (planned : PlannedBoard) : Type 0 where
  pub sound : IsSound planned
  pub in_order : AreInOrder planned
  pub no_move_helps : NoMoveHelps planned.ordered.flat planned.board planned.plan.chip_of
  pub no_exchange_helps : NoExchangeHelps planned.ordered.flat planned.board planned.plan.chip_of
  pub short : AreShort planned
  pub earliest : HasEarliestHops planned
  pub least_period : HasLeastPeriod planned
