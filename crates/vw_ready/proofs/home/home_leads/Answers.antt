use Rattle.std.proofs.Common.{◌≡◌, ◌<◌, ◌≤◌, ◌+◌, ◌∙◌, ℕ, [], length, take, get_or, ap, ap₂, arith}
use Rattle.vw_net.specs.declared.flat.Flat.{Flat}
use Rattle.vw_ready.specs.LeadTables.{planned_in}
use Rattle.vw_ready.proofs.HomeLeads.{AreHomeLeads, all_leads, more_kept, same_lead, start_kept}
use Rattle.vw_net.proofs.ReadyNets.{order_within}
use Rattle.vw_ready.proofs.home.home_leads.Goals as goal

-- before any gate all leads are 0
pub loop-number-init : goal.loop-number-init
loop-number-init c =
    let planned = planned_in c.args.wired.now in
    let kept : AreHomeLeads planned (c.leads_follow_drivers.ensures planned) [] c.in_ok-leads.leads.items = start_kept planned (c.leads_follow_drivers.ensures planned) c.in_ok-leads.leads.items (c.inputs-inputs.result + length c.cells.result.now) (c.in_ok-leads.ensures.items_if_clones_equal (λ y same. same)) (ap₂ (λ (first second : ℕ). first + second) (c.inputs-inputs.ensures ∙ ap (λ (flat : Flat). flat.inputs) c.flat-flat.ensures) (ap length (c.cells.ensures ∙ ap (λ (flat : Flat). flat.cells) c.flat-flat.ensures))) in
    record { long = kept.long; low = kept.low; right = kept.right }

-- the number of a gate is below the number of cells
pub lead_of_cell-lead-requires-clause-number : goal.lead_of_cell-lead-requires-clause-number
lead_of_cell-lead-requires-clause-number c =
    let planned = planned_in c.args.wired.now in
    let place = c.loop-number.number-index in
    let within : place < length planned.ordered.order = omega (arith, ap length c.order-number-items.ensures) in
    let number : get_or c.order-number-items.result.now place 0 ≡ get_or planned.ordered.order place 0 = cc in
    omega (arith, order_within planned.ordered.is_order place within)

-- and the list has a place for its net
pub index_mut-requires : goal.index_mut-requires
index_mut-requires c =
    let planned = planned_in c.args.wired.now in
    let place = c.loop-number.number-index in
    let within : place < length planned.ordered.order = omega (arith, ap length c.order-number-items.ensures) in
    let number : get_or c.order-number-items.result.now place 0 ≡ get_or planned.ordered.order place 0 = cc in
    let inputs : c.inputs-inputs.result ≡ planned.ordered.flat.inputs = cc in
    omega (arith, order_within planned.ordered.is_order place within, c.loop-number.invariant.long)

-- the gate's net has its lead, since those that it reads have theirs
pub loop-number-preserved : goal.loop-number-preserved
loop-number-preserved c =
    let planned = planned_in c.args.wired.now in
    let place = c.loop-number.number-index in
    let leads = c.loop-number.leads.items in
    let within : place < length planned.ordered.order = omega (arith, ap length c.order-number-items.ensures) in
    let number : get_or c.order-number-items.result.now place 0 ≡ get_or planned.ordered.order place 0 = cc in
    let inputs : c.inputs-inputs.result ≡ planned.ordered.flat.inputs = cc in
    let net = ap₂ (λ (first second : ℕ). first + second) inputs number in
    let value = c.lead_of_cell-lead.ensures.value ∙ same_lead planned c.as_slice.result.now leads _ _ c.as_slice.ensures.value number in
    let before : AreHomeLeads planned (c.leads_follow_drivers.ensures planned) (take place planned.ordered.order) leads = record { long = c.loop-number.invariant.long; low = c.loop-number.invariant.low; right = c.loop-number.invariant.right } in
    let after = more_kept planned (c.leads_follow_drivers.ensures planned) place leads _ _ within net value c.lead_of_cell-lead.ensures.few before in
    record { long = after.long; low = after.low; right = after.right }

-- when the whole order is done, every net is ready
pub returns : goal.returns
returns c =
    let planned = planned_in c.args.wired.now in
    let whole : length planned.ordered.order ≤ c.loop-number.number-index = omega (arith, ap length c.order-number-items.ensures) in
    all_leads planned (c.leads_follow_drivers.ensures planned) c.loop-number.number-index c.loop-number.leads.items whole (record { long = c.loop-number.invariant.long; low = c.loop-number.invariant.low; right = c.loop-number.invariant.right })
