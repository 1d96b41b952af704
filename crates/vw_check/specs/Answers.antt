-- What the checker answers, in terms of the points of a sound plan.
use Rattle.std.specs.Prelude.{◌≡◌, ◌≤◌, ◌⊎◌, ℕ, Bool, true, false, not, List, length, Some, None, IsTrue}
use Rattle.std.specs.List.{All, AllPairs}
use Rattle.vw_net.specs.declared.flat.Flat.{Flat}
use Rattle.vw_plan.specs.declared.board.Board.{Board}
use Rattle.vw_plan.specs.declared.checked.Checked.{Checked}
use Rattle.vw_plan.specs.Chips.{IsChip, cells_on}
use Rattle.vw_plan.specs.PlannedBoard.{PlannedBoard}
use Rattle.vw_plan.specs.Sound.{IsPlaced, HasWires, IsRouted, IsRising, IsSentWhenUsable, AreLatchesInTime, hops_of, share_pin}
use Rattle.vw_check.specs.declared.fault.PlanFault.{PlanFault}
use Rattle.vw_check.specs.declared.fault.PlanFault.TheVariants.{WrongCells, ZeroPeriod, BadChip, Overfull, MissingWire, ExtraWire, BrokenRoute, BadPin, OutOfOrder, PastPeriod, PinClash, TooEarly, LateLatch, NoMemory}
use Rattle.vw_check.specs.declared.refused.CheckRefused.{CheckRefused}
use Rattle.vw_check.specs.Faults.{plan_fault}

-- the point of a sound plan that a fault breaks
abbrev pub Breaks : PlannedBoard → PlanFault → Type 0
Breaks planned (WrongCells found wanted) = ¬ (IsPlaced planned)
Breaks planned ZeroPeriod = ¬ (1 ≤ planned.plan.period)
Breaks planned (BadChip cell) = ¬ (IsPlaced planned)
Breaks planned (Overfull chip count) = ¬ (IsPlaced planned)
Breaks planned (MissingWire net node) = ¬ (HasWires planned)
Breaks planned (ExtraWire wire) = ¬ (HasWires planned)
Breaks planned (BrokenRoute wire hop) = ¬ (All (IsRouted planned) planned.plan.wires)
Breaks planned (BadPin wire hop) = ¬ (All (IsRouted planned) planned.plan.wires)
Breaks planned (OutOfOrder wire hop) = ¬ (All (IsRising planned) planned.plan.wires)
Breaks planned (PastPeriod wire hop) = ¬ (All (IsRising planned) planned.plan.wires)
Breaks planned (PinClash wire hop other clash) = ¬ (AllPairs (λ hop other. IsTrue (not (share_pin hop other))) (hops_of planned.plan))
Breaks planned (TooEarly wire sent usable) = ¬ (All (IsSentWhenUsable planned) planned.plan.wires)
Breaks planned (LateLatch cell usable) = ¬ (AreLatchesInTime planned)
Breaks planned NoMemory = ⊥

-- whether a fault lies in the plan; want of memory doesn't
abbrev pub is_plan_fault : PlanFault → Bool
is_plan_fault (WrongCells found wanted) = true
is_plan_fault ZeroPeriod = true
is_plan_fault (BadChip cell) = true
is_plan_fault (Overfull chip count) = true
is_plan_fault (MissingWire net node) = true
is_plan_fault (ExtraWire wire) = true
is_plan_fault (BrokenRoute wire hop) = true
is_plan_fault (BadPin wire hop) = true
is_plan_fault (OutOfOrder wire hop) = true
is_plan_fault (PastPeriod wire hop) = true
is_plan_fault (PinClash wire hop other clash) = true
is_plan_fault (TooEarly wire sent usable) = true
is_plan_fault (LateLatch cell usable) = true
is_plan_fault NoMemory = false

-- chips for a design on a board: each cell has one, and no chip has more cells than it has room for
pub record HasPlace (flat : Flat) (board : Board) (chip_of : List ℕ) : Type 0 where
  pub each : length chip_of ≡ length flat.cells
  pub chips : All (IsChip board) chip_of
  pub room : (chip : ℕ) → cells_on chip_of chip ≤ board.cells

-- an accepted plan: it has no fault, and the three are as they were. That it is sound is kept by its type
pub record IsAcceptedPlan (planned : PlannedBoard) (checked : Checked) : Type 0 where
  pub faultless : plan_fault planned ≡ None
  pub ordered : checked.ordered ≡ planned.ordered
  pub board : checked.board ≡ planned.board
  pub plan : checked.plan ≡ planned.plan

-- why a plan isn't accepted: it has this fault, or memory ran out
abbrev pub IsFault : PlannedBoard → PlanFault → Type 0
IsFault planned fault = (fault ≡ NoMemory) ⊎ ((plan_fault planned ≡ Some fault) × Breaks planned fault)

-- a plan that isn't accepted, handed back with its design and its board
pub record IsRefusedPlan (planned : PlannedBoard) (refused : CheckRefused) : Type 0 where
  pub fault : IsFault planned refused.fault
  pub ordered : refused.ordered ≡ planned.ordered
  pub board : refused.board ≡ planned.board
  pub plan : refused.plan ≡ planned.plan
