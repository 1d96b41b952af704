-- The text of an emitted board, and its limits. Source: this project.
use Rattle.std.specs.Prelude.{◌≡◌, ◌≤◌, ◌<◌, ◌+◌, ◌*◌, ℕ, List, [], ◌∷◌, length, sum_by}
use Rattle.std.specs.List.{flat_map}
use Rattle.vw_net.specs.Cells.{latch_count}
use Rattle.vw_net.specs.Gathered.{gather}
use Rattle.vw_blif.specs.Printed.{printed_by}
use Rattle.vw_plan.specs.HopCounts.{hop_count}
use Rattle.vw_plan.specs.PlannedBoard.{PlannedBoard}
use Rattle.vw_plan.specs.declared.link.Link.{Link}
use Rattle.vw_emit_hardware.specs.Items.{User, users}
use Rattle.vw_emit_text.specs.declared.fault.EmitFault.{EmitFault}
use Rattle.vw_emit_text.specs.declared.fault.EmitFault.TheVariants.{TooManyCells, TooManyOutputs, TooLong, NoMemory}
use Rattle.vw_emit_text.specs.Numbered.{emitting, spelled_board}
use Rattle.vw_net.specs.declared.limits.TheConstants.{MOST_CELLS, MOST_DESIGN_OUTPUTS}
use Rattle.vw_text.specs.declared.limits.TheConstants.{MOST_DESIGN_BYTES}

-- ---- the text

-- the board's models in print
unfoldable pub emitted_text : PlannedBoard → List ℕ
emitted_text planned = printed_by emitting (spelled_board planned)

-- ---- how large it is

-- the delay of a link, where a pin of it has users; and that for each used pin of the link
abbrev pub used_delay : ℕ → List User → List ℕ
used_delay delay [] = []
used_delay delay (user ∷ others) = delay ∷ []

abbrev pub pin_delays : PlannedBoard → Link → List ℕ
pin_delays planned link = gather (λ pin. used_delay link.delay (users planned link pin)) link.width

-- the cells of pins: one for each used pin and microcycle of its link's delay
abbrev pub pin_cells : PlannedBoard → ℕ
pin_cells planned = sum_by (λ delay. delay) (flat_map (pin_delays planned) planned.board.links)

-- the cells of the sequencers; of gates, which have one, and latches, which have two; of hops, which have three; of pins; and
-- of outputs
abbrev pub emitted_cells : PlannedBoard → ℕ
emitted_cells planned =
    (planned.board.chips + 1) * (planned.plan.period + 1)
    + (length planned.ordered.flat.cells + latch_count planned.ordered.flat.cells)
    + 3 * hop_count planned.plan.wires
    + pin_cells planned
    + length planned.ordered.flat.outputs

abbrev pub emitted_outputs : PlannedBoard → ℕ
emitted_outputs planned = length planned.ordered.flat.outputs + latch_count planned.ordered.flat.cells

-- it is within the limits of designs and their texts
pub record FitsDesigns (planned : PlannedBoard) : Type 0 where
  pub cells : emitted_cells planned ≤ MOST_CELLS
  pub outputs : emitted_outputs planned ≤ MOST_DESIGN_OUTPUTS
  pub bytes : length (emitted_text planned) ≤ MOST_DESIGN_BYTES

-- why it isn't: the first limit that it is above
abbrev pub IsEmitFault : PlannedBoard → EmitFault → Type 0
IsEmitFault planned (TooManyCells cells) = (cells ≡ emitted_cells planned) × (MOST_CELLS < cells)
IsEmitFault planned (TooManyOutputs outputs) = (emitted_cells planned ≤ MOST_CELLS) × (outputs ≡ emitted_outputs planned) × (MOST_DESIGN_OUTPUTS < outputs)
IsEmitFault planned (TooLong bytes) = (emitted_cells planned ≤ MOST_CELLS) × (emitted_outputs planned ≤ MOST_DESIGN_OUTPUTS) × (bytes ≡ length (emitted_text planned)) × (MOST_DESIGN_BYTES < bytes)
IsEmitFault planned NoMemory = Unit {0}
