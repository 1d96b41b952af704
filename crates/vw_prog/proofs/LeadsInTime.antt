-- No lead is after the period of a sound plan.
use Rattle.std.proofs.Common.{◌<◌, ◌≤◌, ◌+◌, ℕ, zero, suc, true, false, List, [], ◌∷◌, length, eqb, Some, if◌then◌else◌, All, arith}
use Rattle.std.specs.List.{find}
use Rattle.std.specs.Option.{option_map_or}
use Rattle.std.proofs.lemmas.List.Elements.{All-head, All-tail}
use Rattle.vw_plan.specs.declared.link.Link.{Link}
use Rattle.vw_plan.specs.declared.wire.Hop.{Hop}
use Rattle.vw_plan.specs.declared.wire.Wire.{Wire}
use Rattle.vw_plan.specs.Lead.{after_last, arrival, brings, brought_at, lead, level_lead}
use Rattle.vw_plan.specs.Nets.{driving_cell, greatest_read}
use Rattle.vw_plan.specs.PlannedBoard.{PlannedBoard, home}
use Rattle.vw_plan.specs.Sound.{IsRising, IsSound}
use Rattle.vw_plan.proofs.GreatestReads.{greatest_read-small}

last_in_time : (links : List Link) (period : ℕ) (hops : List Hop) → All (λ hop. arrival links hop < period) hops → after_last links hops ≤ period
last_in_time links period [] all = omega arith
last_in_time links period (hop ∷ []) all = omega (arith, All-head (λ (one : Hop). arrival links one < period) hop [] all)
last_in_time links period (hop ∷ next ∷ hops) all = last_in_time links period (next ∷ hops) (All-tail (λ (one : Hop). arrival links one < period) hop (next ∷ hops) all)

first_in_time : (planned : PlannedBoard) (net node : ℕ) (wires : List Wire) → All (IsRising planned) wires
    → option_map_or (λ (wire : Wire). after_last planned.board.links wire.hops) (find (brings net node) wires) 0 ≤ planned.plan.period
first_in_time planned net node [] all = omega arith
first_in_time planned net node (wire ∷ wires) all =
    elim (brings net node wire) as (λ here. option_map_or (λ (one : Wire). after_last planned.board.links one.hops) (if here then Some wire else find (brings net node) wires) 0 ≤ planned.plan.period) [
      | true ↦ last_in_time planned.board.links planned.plan.period wire.hops (All-head (IsRising planned) wire wires all).within
      | false ↦ first_in_time planned net node wires (All-tail (IsRising planned) wire wires all)
    ]

level_in_time : (planned : PlannedBoard) (node : ℕ) → IsSound planned → (level net : ℕ) → level_lead level planned node net ≤ planned.plan.period
level_in_time planned node sound zero net = omega arith
level_in_time planned node sound (suc level) net =
    elim (eqb (home planned net) node) as (λ own. (if own then greatest_read (level_lead level planned node) (driving_cell planned.ordered.flat net) else brought_at planned node net) ≤ planned.plan.period) [
      | true ↦ greatest_read-small (level_lead level planned node) planned.plan.period (level_in_time planned node sound level) (driving_cell planned.ordered.flat net)
      | false ↦ first_in_time planned net node planned.plan.wires sound.rising_microcycles
    ]

pub lead_in_time : (planned : PlannedBoard) (node net : ℕ) → IsSound planned → lead planned node net ≤ planned.plan.period
unfolding lead
lead_in_time planned node net sound = level_in_time planned node sound (length planned.ordered.flat.cells + 1) net
