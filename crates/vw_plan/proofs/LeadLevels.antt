-- Leads at levels: how many drivers have to be followed until a lead stays.
use Rattle.std.proofs.Common.{◌≡◌, ◌≤◌, ◌+◌, ℕ, zero, suc, List, length, if◌then◌else◌, eqb, ap, sym, ◌∙◌, All, arith}
use Rattle.std.proofs.Math.Path.{fun_ext}
use Rattle.vw_net.specs.declared.cell.Cell.{Cell}
use Rattle.vw_net.proofs.Orders.{length-order}
use Rattle.vw_plan.specs.Nets.{driving_cell, greatest_read}
use Rattle.vw_plan.specs.PlannedBoard.{PlannedBoard, home}
use Rattle.vw_plan.specs.Lead.{level_lead, lead, brought_at}
use Rattle.vw_net.specs.Order.{gate_inputs}
use Rattle.vw_plan.proofs.AlongOrder.{every_net}
use Rattle.vw_plan.proofs.GreatestReads.{greatest_read-agree}
use Rattle.vw_plan.proofs.SettledLevels.{IsSettledFrom, settled_later}

-- the law of leads: at its own node a net has the lead of its driver, and elsewhere one past its arrival
abbrev pub LeadsFollowDrivers : PlannedBoard → Type 0
LeadsFollowDrivers planned = (node net : ℕ) → lead planned node net ≡ (if eqb (home planned net) node then greatest_read (lead planned node) (driving_cell planned.ordered.flat net) else brought_at planned node net)

module _ (planned : PlannedBoard) (node : ℕ) where
  abbrev cells : List Cell
  cells = planned.ordered.flat.cells

  -- from a level on, a net has one lead
  abbrev HasOneLead : ℕ → ℕ → Type 0
  HasOneLead from net = IsSettledFrom (λ level. level_lead level planned node net) from

  -- a net is settled one level up if the nets that its gate reads are settled
  reads_settled : (from net : ℕ) → All (HasOneLead from) (gate_inputs (driving_cell planned.ordered.flat net)) → HasOneLead (suc from) net
  reads_settled from net settled = record { same = same_above } where
    same_above : (one other : ℕ) → suc from ≤ one → suc from ≤ other → level_lead one planned node net ≡ level_lead other planned node net
    same_above zero other one_late other_late = absurd (omega arith)
    same_above (suc one) zero one_late other_late = absurd (omega arith)
    same_above (suc one) (suc other) one_late other_late =
        let driven = greatest_read-agree (level_lead one planned node) (level_lead other planned node) (driving_cell planned.ordered.flat net) (λ place default within. (settled place default within).same one other (omega arith) (omega arith)) in
        ap (λ (own : ℕ). if eqb (home planned net) node then own else brought_at planned node net) driven

  -- following more drivers in a row than there are cells changes no lead
  pub level_lead-past_cells : (level net : ℕ) → length cells + 1 ≤ level → level_lead level planned node net ≡ lead planned node net
  unfolding lead
  level_lead-past_cells level net past =
      let ordered = planned.ordered in
      let few_gates : length ordered.order ≤ length cells = length-order ordered.flat.inputs cells ordered.order ordered.is_order in
      (every_net ordered HasOneLead (λ from to net. settled_later (λ level. level_lead level planned node net) from to) reads_settled net).same level (length cells + 1) (omega arith) (omega arith)

  -- the lead of a net is that of what drives it at its own node, and elsewhere one past its arrival
  pub lead-by_driver : (net : ℕ)
      → lead planned node net ≡ (if eqb (home planned net) node then greatest_read (lead planned node) (driving_cell planned.ordered.flat net) else brought_at planned node net)
  lead-by_driver net =
      let level = length cells + 1 in
      let above = level_lead-past_cells (suc level) net (omega arith) in
      sym above ∙ ap (λ (lead_at : ℕ → ℕ). if eqb (home planned net) node then greatest_read lead_at (driving_cell planned.ordered.flat net) else brought_at planned node net) (fun_ext (λ other. level_lead-past_cells level other (omega arith)))
