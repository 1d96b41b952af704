-- What the period of a plan waits for, and chains of gates and wires that lead there. Source: this project; a critical path of
-- static timing, over virtual wires.
use Rattle.std.specs.Prelude.{◌≡◌, ◌≤◌, ℕ, List, [], ◌∷◌, slice_get, slice_index, Option, None, Some, IsTrue}
use Rattle.std.specs.List.{All}
use Rattle.vw_net.specs.declared.cell.Init.{Init}
use Rattle.vw_net.specs.declared.cell.Cell.TheVariants.{Latch}
use Rattle.vw_plan.specs.declared.wire.Wire.{Wire}
use Rattle.vw_plan.specs.ChainsBack.{is_read_by}
use Rattle.vw_plan.specs.Lead.{after_last, lead, usable}
use Rattle.vw_plan.specs.PlannedBoard.{PlannedBoard, home}
use Rattle.vw_chain.specs.declared.chain.Chain.{Chain}
use Rattle.vw_chain.specs.declared.chain.Critical.{Critical}
use Rattle.vw_chain.specs.declared.chain.End.{End}
use Rattle.vw_chain.specs.declared.chain.End.TheVariants as end
use Rattle.vw_chain.specs.declared.chain.Step.{Step}
use Rattle.vw_chain.specs.declared.chain.Step.TheVariants as step

-- ---- what a period waits for

-- by a microcycle all wires have arrived, and each latch has what it reads
pub record IsDue (planned : PlannedBoard) (last : ℕ) : Type 0 where
  pub wires : All (λ wire. after_last planned.board.links wire.hops ≤ last) planned.plan.wires
  pub latches : (number d : ℕ) (init : Init) → slice_get planned.ordered.flat.cells number ≡ Some (Latch d init)
      → usable planned (slice_index planned.plan.chip_of number) d ≤ last

-- a net at a node is what the end waits for, up to this microcycle: it is brought there then by the wire, or is usable then on
-- the chip of the latch, which reads it
abbrev pub IsWaitedFor : PlannedBoard → End → ℕ → ℕ → ℕ → Type 0
IsWaitedFor planned (end.Wire number) net node last =
    (wire : Wire) × (slice_get planned.plan.wires number ≡ Some wire) × (wire.net ≡ net) × (wire.to ≡ node)
    × (after_last planned.board.links wire.hops ≡ last)
IsWaitedFor planned (end.Latch number reads) net node last =
    (init : Init) × (slice_get planned.ordered.flat.cells number ≡ Some (Latch reads init)) × (reads ≡ net)
    × (slice_index planned.plan.chip_of number ≡ node) × (usable planned node net ≡ last)

-- ---- steps

-- the gate that drives a net is on the node and reads the net before, and of all that it reads this one is there last
pub record IsRead (planned : PlannedBoard) (net node made : ℕ) : Type 0 where
  pub here : home planned made ≡ node
  pub read : IsTrue (is_read_by planned.ordered.flat made net)
  pub last : lead planned node net ≡ lead planned node made

-- the wire with a number brings the net, whose own node is this
pub record IsBrought (planned : PlannedBoard) (number : ℕ) (wire : Wire) (net node : ℕ) : Type 0 where
  pub there : slice_get planned.plan.wires number ≡ Some wire
  pub its_net : wire.net ≡ net
  pub from : home planned net ≡ node

-- steps lead from a net at a node to a net at a node
abbrev pub IsWay : PlannedBoard → List Step → ℕ → ℕ → ℕ → ℕ → Type 0
IsWay planned [] net node to at = (net ≡ to) × (node ≡ at)
IsWay planned (step.Gate made ∷ steps) net node to at = IsRead planned net node made × IsWay planned steps made node to at
IsWay planned (step.Wire number ∷ steps) net node to at =
    (wire : Wire) × IsBrought planned number wire net node × IsWay planned steps net wire.to to at

-- ---- chains

-- a chain begins with a net at its own node that rests on nothing later than the beginning, and leads to what its end waits for
-- up to this microcycle
pub record IsChain (planned : PlannedBoard) (last : ℕ) (chain : Chain) : Type 0 where
  pub begins : lead planned (home planned chain.first) chain.first ≡ 0
  pub net : ℕ
  pub node : ℕ
  pub way : IsWay planned chain.steps chain.first (home planned chain.first) net node
  pub ends : IsWaitedFor planned chain.end net node last

-- the chain, where there is one; without one nothing is waited for
abbrev pub LeadsThere : PlannedBoard → ℕ → Option Chain → Type 0
LeadsThere planned last None = last ≡ 0
LeadsThere planned last (Some chain) = IsChain planned last chain

-- all is there by the microcycle, and a chain leads to it, so not before
pub record IsCritical (planned : PlannedBoard) (found : Critical) : Type 0 where
  pub due : IsDue planned found.last
  pub chain : LeadsThere planned found.last found.chain
