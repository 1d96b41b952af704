-- Hops that are sent as early as they can be, and periods that are no longer than they have to be. Source: this project.
use Rattle.std.specs.Prelude.{◌≡◌, ◌≤◌, ◌<◌, ◌+◌, ℕ, Bool, List, [], ◌∷◌, IsTrue}
use Rattle.std.specs.List.{All, list_any}
use Rattle.vw_plan.specs.declared.board.Board.{Board}
use Rattle.vw_plan.specs.declared.plan.Plan.{Plan}
use Rattle.vw_plan.specs.declared.wire.Hop.{Hop}
use Rattle.vw_plan.specs.Lead.{arrival, usable}
use Rattle.vw_plan.specs.PlannedBoard.{PlannedBoard, planned_board, home}
use Rattle.vw_plan.specs.Sound.{IsSound, has_pin, hops_of, share_pin}

-- whether a plan uses the pin and the microcycle of a hop
abbrev pub is_in_use : Plan → Hop → Bool
is_in_use plan hop = list_any (share_pin hop) (hops_of plan)

-- in a microcycle, every pin of the link from a node to another is in use
abbrev pub IsFull : Board → Plan → ℕ → ℕ → ℕ → Type 0
IsFull board plan from to at = (pin : ℕ) → let hop : Hop = record { from = from; to = to; pin = pin; at = at } in
    IsTrue (has_pin board.links hop) → IsTrue (is_in_use plan hop)

-- a hop is earliest: from the microcycle in which it is ready up to the one before its own, every pin of its link is in use
abbrev pub IsEarliest : Board → Plan → ℕ → Hop → Type 0
IsEarliest board plan ready hop = (at : ℕ) → ready ≤ at → at < hop.at → IsFull board plan hop.from hop.to at

-- so are the hops of a wire, of which the first is ready in a microcycle, and each later one when the one before has arrived
abbrev pub AreEarliest : Board → Plan → ℕ → List Hop → Type 0
AreEarliest board plan ready [] = Unit {0}
AreEarliest board plan ready (hop ∷ hops) = IsEarliest board plan ready hop × AreEarliest board plan (arrival board.links hop + 1) hops

-- each hop of a plan is earliest; the first hop of a wire is ready when its net is usable at its own node
abbrev pub HasEarliestHops : PlannedBoard → Type 0
HasEarliestHops planned = All (λ wire. AreEarliest planned.board planned.plan (usable planned (home planned wire.net) wire.net) wire.hops) planned.plan.wires

-- ---- periods

-- the same plan with a smaller period isn't sound
abbrev pub HasLeastPeriod : PlannedBoard → Type 0
HasLeastPeriod planned = (other : Plan) → other.chip_of ≡ planned.plan.chip_of → other.wires ≡ planned.plan.wires → other.period < planned.plan.period
    → ¬ (IsSound (planned_board planned.ordered planned.board other))
