-- What an emitted board shows of its design: at the last microclock of each clock. Source: this project.
use Rattle.std.specs.Prelude.{◌≡◌, ◌+◌, ◌*◌, ◌⊎◌, ℕ, Bool, List, IsTrue, Some, slice_get, [], ◌∷◌, map, replicate, slice_index}
use Rattle.std.specs.List.{flat_map, range_with_len}
use Rattle.vw_net.specs.Gathered.{listed}
use Rattle.vw_net.specs.declared.cell.Cell.{Cell}
use Rattle.vw_net.specs.declared.cell.Cell.TheVariants.{Gate, Latch}
use Rattle.vw_net.specs.Cells.{start_values}
use Rattle.vw_net.specs.History.{flat_history}
use Rattle.vw_plan.specs.Nets.{is_needed}
use Rattle.vw_plan.specs.PlannedBoard.{PlannedBoard, home}
use Rattle.vw_emit_hardware.specs.Locals.{kept, result}
use Rattle.vw_emit_hardware.specs.Run.{Values}

-- the rows of the board: each row of the design for as many microclocks as a clock has, which are one more than the period
abbrev pub held_rows : PlannedBoard → List (List Bool) → List (List Bool)
held_rows planned rows = flat_map (λ row. replicate (planned.plan.period + 1) row) rows

-- the microclock of a microcycle of a clock, and the last one of a clock
abbrev pub microclock : PlannedBoard → ℕ → ℕ → ℕ
microclock planned clock microcycle = clock * (planned.plan.period + 1) + microcycle

abbrev pub last_microclock : PlannedBoard → ℕ → ℕ
last_microclock planned clock = microclock planned clock planned.plan.period

-- the outputs that the host shows at a microclock
abbrev pub shown_outputs : PlannedBoard → Values → ℕ → List Bool
shown_outputs planned value time = listed (λ output net. value time 0 (result output) ∷ []) 0 planned.ordered.flat.outputs

-- the latch values that the chips show, in the order of the cells
abbrev pub shown_latch : PlannedBoard → Values → ℕ → ℕ → Cell → List Bool
shown_latch planned value time cell (Gate ins cover) = []
shown_latch planned value time cell (Latch d init) = value time (slice_index planned.plan.chip_of cell) (kept cell) ∷ []

abbrev pub shown_latches : PlannedBoard → Values → ℕ → List Bool
shown_latches planned value time = listed (shown_latch planned value time) 0 planned.ordered.flat.cells

-- what is shown at the last microclock of each of so many clocks
abbrev pub at_each_clock : PlannedBoard → (ℕ → List Bool) → ℕ → List (List Bool)
at_each_clock planned shown clocks = map (λ clock. shown (last_microclock planned clock)) (range_with_len 0 clocks)

-- a clock of the design over some rows: its row, and the latch values before its step
pub record IsClockOf (planned : PlannedBoard) (unknown : Bool) (rows : List (List Bool)) (clock : ℕ)
    (row state : List Bool) : Type 0 where
  pub row_is : slice_get rows clock ≡ Some row
  pub state_is : slice_get
      (flat_history planned.ordered.flat (start_values unknown planned.ordered.flat.cells) rows).states clock ≡ Some state

-- a net is of a node, or needed there
abbrev pub IsThere : PlannedBoard → ℕ → ℕ → Type 0
IsThere planned net node = (home planned net ≡ node) ⊎ IsTrue (is_needed planned.ordered.flat planned.plan.chip_of net node)
