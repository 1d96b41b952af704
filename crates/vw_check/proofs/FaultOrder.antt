-- The faults of a plan in their order: the first that is there is the plan's.
use Rattle.std.proofs.Common.{◌≡◌, true, false, Option, Some, None, is_some, ap, refl, sym, ◌∙◌, true≢false}
use Rattle.std.specs.Option.{option_or}
use Rattle.vw_net.proofs.FirstOptions.{or_nothing}
use Rattle.vw_plan.specs.PlannedBoard.{PlannedBoard}
use Rattle.vw_check.specs.declared.fault.PlanFault.{PlanFault}
use Rattle.vw_check.specs.Faults.{cell_fault, wire_fault, hop_fault, microcycle_fault, plan_fault}

pub some_or : (found rest : Option PlanFault) → true ≡ is_some found → option_or found rest ≡ found
some_or None rest there = absurd (true≢false there)
some_or (Some fault) rest there = refl

pub no_fault : (found : Option PlanFault) → false ≡ is_some found → found ≡ None
no_fault None none = refl
no_fault (Some fault) none = absurd (true≢false (sym none))

module _ (planned : PlannedBoard) where
  abbrev pub cells : Option PlanFault
  cells = cell_fault planned.ordered.flat planned.board planned.plan

  abbrev pub wires : Option PlanFault
  wires = wire_fault planned.ordered.flat planned.plan

  abbrev after_wires : Option PlanFault
  after_wires = option_or (hop_fault planned) (option_or (microcycle_fault planned) None)

  is_or : plan_fault planned ≡ option_or cells (option_or wires after_wires)
  unfolding plan_fault
  is_or = refl

  pub by_cells : true ≡ is_some cells → cells ≡ plan_fault planned
  by_cells there = sym (is_or ∙ some_or cells (option_or wires after_wires) there)

  past_cells : cells ≡ None → plan_fault planned ≡ option_or wires after_wires
  past_cells none = is_or ∙ ap (λ (found : Option PlanFault). option_or found (option_or wires after_wires)) none

  pub by_wires : cells ≡ None → true ≡ is_some wires → wires ≡ plan_fault planned
  by_wires none there = sym (past_cells none ∙ some_or wires after_wires there)

  past_wires : cells ≡ None → wires ≡ None → plan_fault planned ≡ after_wires
  past_wires none no_wire = past_cells none ∙ ap (λ (found : Option PlanFault). option_or found after_wires) no_wire

  pub by_hops : cells ≡ None → wires ≡ None → true ≡ is_some (hop_fault planned) → hop_fault planned ≡ plan_fault planned
  by_hops none no_wire there = sym (past_wires none no_wire ∙ some_or (hop_fault planned) (option_or (microcycle_fault planned) None) there)

  pub by_microcycles : cells ≡ None → wires ≡ None → hop_fault planned ≡ None → microcycle_fault planned ≡ plan_fault planned
  by_microcycles none no_wire no_hop = sym (past_wires none no_wire ∙ ap (λ (found : Option PlanFault). option_or found (option_or (microcycle_fault planned) None)) no_hop ∙ or_nothing (microcycle_fault planned))
