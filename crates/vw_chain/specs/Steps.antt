-- What functions of this crate compute and keep, step by step. No public clause cites it.
use Rattle.std.specs.Prelude.{◌≡◌, ◌≤◌, ◌+◌, ◌⊎◌, ℕ, List, Option, None, Some, reverse, slice_get, slice_index, IsTrue}
use Rattle.std.specs.List.{All}
use Rattle.vw_net.specs.Order.{is_gate}
use Rattle.vw_net.specs.declared.cell.Cell.{Cell}
use Rattle.vw_net.specs.declared.cell.Cell.TheVariants.{Gate, Latch}
use Rattle.vw_plan.specs.ChainsBack.{is_read_by}
use Rattle.vw_plan.specs.Lead.{after_last, lead, usable}
use Rattle.vw_plan.specs.Nets.{is_needed}
use Rattle.vw_plan.specs.PlannedBoard.{PlannedBoard, home}
use Rattle.vw_chain.specs.declared.chain.End.{End}
use Rattle.vw_chain.specs.declared.chain.Step.{Step}
use Rattle.vw_chain.specs.Chains.{IsWaitedFor, IsWay}

-- a net is of a node, or needed there
abbrev pub IsThere : PlannedBoard → ℕ → ℕ → Type 0
IsThere planned node net = (home planned net ≡ node) ⊎ IsTrue (is_needed planned.ordered.flat planned.plan.chip_of net node)

-- the number of a gate
abbrev pub IsGateNumber : PlannedBoard → ℕ → Type 0
IsGateNumber planned number = IsTrue (is_gate (slice_get planned.ordered.flat.cells number))

-- the chip of a cell, and the net that it drives
abbrev pub chip_at : PlannedBoard → ℕ → ℕ
chip_at planned number = slice_index planned.plan.chip_of number

abbrev pub net_of : PlannedBoard → ℕ → ℕ
net_of planned number = planned.ordered.flat.inputs + number

-- a net that the gate of a number reads, as late as the gate's own
pub record IsLastRead (planned : PlannedBoard) (number net : ℕ) : Type 0 where
  pub read : IsTrue (is_read_by planned.ordered.flat (net_of planned number) net)
  pub last : lead planned (chip_at planned number) net ≡ lead planned (chip_at planned number) (net_of planned number)

-- a net that its own node has from the beginning on
abbrev pub IsFirst : PlannedBoard → ℕ → Type 0
IsFirst planned net = lead planned (home planned net) net ≡ 0

-- ---- what is waited for

-- an end waits for some net up to a microcycle; without one nothing is waited for
abbrev pub EndsSo : PlannedBoard → ℕ → Option End → Type 0
EndsSo planned last None = last ≡ 0
EndsSo planned last (Some end) = (net node : ℕ) × IsWaitedFor planned end net node last

-- all wires have arrived by then
abbrev pub WiresAreDue : PlannedBoard → ℕ → Type 0
WiresAreDue planned last = All (λ wire. after_last planned.board.links wire.hops ≤ last) planned.plan.wires

-- what a cell reads at the end of a clock, where it is a latch, is usable by then on its chip
abbrev pub IsCellDue : PlannedBoard → ℕ → ℕ → Cell → Type 0
IsCellDue planned last number (Gate ins cover) = Unit {0}
IsCellDue planned last number (Latch d init) = usable planned (slice_index planned.plan.chip_of number) d ≤ last

-- ---- ways

-- steps, the last one first, lead on from one net at a node where others lead on from another
abbrev pub LeadsOn : PlannedBoard → List Step → ℕ → ℕ → List Step → ℕ → ℕ → Type 0
LeadsOn planned before net node after other its_node =
    (to at : ℕ) → IsWay planned (reverse before) net node to at → IsWay planned (reverse after) other its_node to at
