use Rattle.std.proofs.Common.{◌∙◌, refl}
use Rattle.vw_plan.proofs.LeadLevels.{lead-by_driver}
use Rattle.vw_ready.specs.Leads.{arrival_by}
use Rattle.vw_ready.proofs.HomeLeads.{microcycles_right}
use Rattle.vw_ready.proofs.WiresBrought.{brought_by}
use Rattle.vw_chain.specs.Timing.{planned_of}
use Rattle.vw_chain.proofs.timed.Timed.usable.Goals as goal

-- what is known of microcycles is right
pub returns : goal.returns
returns c =
    let timed = c.args.self.now in
    let wired = timed.wired.now in
    let planned = planned_of timed in
    c.usable.ensures
    ∙ microcycles_right planned (lead-by_driver planned) timed.leads.now timed.leads.now c.chip_of.result.now c.settle.result (arrival_by wired.wires.now.places timed.arrivals.now) timed.leads_are refl c.chip_of.ensures c.settle.ensures
    (brought_by planned wired.wires.now.places timed.arrivals.now wired.has_wires timed.arrivals_are.are) c.args.node c.args.net c.requires
