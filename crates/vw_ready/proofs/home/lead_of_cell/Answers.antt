use Rattle.std.proofs.Common.{◌∙◌, ℕ, List, ap₂, slice_index, slice_get}
use Rattle.vw_plan.specs.Nets.{greatest_read}
use Rattle.vw_ready.specs.Leads as by_table
use Rattle.vw_ready.specs.LeadTables.{planned_in}
use Rattle.vw_ready.proofs.WiresBrought.{brought_by}
use Rattle.vw_ready.proofs.home.lead_of_cell.Goals as goal

-- arrivals are those of the plan
pub returns-clause-value : goal.returns-clause-value
returns-clause-value c =
    let wired = c.args.wired.now in
    let planned = planned_in wired in
    let flat = planned.ordered.flat in
    let brought = brought_by planned wired.wires.now.places c.args.arrivals.now wired.has_wires c.requires.arrivals.are in
    c.lead_of_cell.ensures.value
    ∙ ap₂ (λ (chips : List ℕ) (arrived : ℕ → ℕ → ℕ). greatest_read (by_table.lead_by flat chips arrived c.args.leads.now (slice_index chips c.args.number)) (slice_get flat.cells c.args.number)) c.chip_of.ensures brought
