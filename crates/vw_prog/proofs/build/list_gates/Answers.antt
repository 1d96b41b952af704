use Rattle.std.proofs.Common.{◌≡◌, ◌<◌, ◌+◌, ◌^◌, ◌++◌, ◌∙◌, ℕ, suc, List, ◌∷◌, [], length, drop, get_or, ap, ap₂, sym, arith}
use Rattle.std.proofs.lemmas.List.{append_assoc, drop_more}
use Rattle.vw_net.proofs.ReadyNets.{order_within}
use Rattle.vw_net.proofs.Orders.{length-order}
use Rattle.vw_plan.specs.PlannedBoard.{PlannedBoard, home}
use Rattle.vw_net.specs.declared.flat.Flat.{Flat}
use Rattle.vw_plan.specs.Lead.{lead}
use Rattle.vw_ready.specs.LeadTables.{AreLeads, planned_in}
use Rattle.vw_prog.specs.declared.entry.Entry.{Entry}
use Rattle.vw_prog.specs.Steps.{gate_entry_of}
use Rattle.vw_prog.specs.Timetable.{gate_entries}
use Rattle.vw_prog.proofs.build.list_gates.Goals as goal

-- what is known of the gate at a place of the order
module _ (planned : PlannedBoard) (place : ℕ) (items : List ℕ) (inputs : ℕ) (are : items ≡ planned.ordered.order) (inputs_are : inputs ≡ planned.ordered.flat.inputs) (within : place < length items) where
  number_within : get_or items place 0 < length planned.ordered.flat.cells
  number_within =
      let inside : place < length planned.ordered.order = omega (arith, ap length are) in
      omega (arith, order_within planned.ordered.is_order place inside, ap (λ (list : List ℕ). get_or list place 0) are)

  place_low : place < 2 ^ 32
  place_low = omega (arith, ap length are, length-order planned.ordered.flat.inputs planned.ordered.flat.cells planned.ordered.order planned.ordered.is_order, planned.ordered.flat.few_cells)

  pushed : (leads : List ℕ) (made more : List Entry) (whole : List Entry) → AreLeads planned leads
      → more ≡ made ++ gate_entry_of planned (get_or leads (inputs + get_or items place 0) 0) place (get_or items place 0) ∷ []
      → made ++ gate_entries planned place (drop place planned.ordered.order) ≡ whole
      → more ++ gate_entries planned (place + 1) (drop (place + 1) planned.ordered.order) ≡ whole
  pushed leads made more whole are_leads is so_far =
      let order = planned.ordered.order in
      let number = get_or items place 0 in
      let net = planned.ordered.flat.inputs + number in
      let inside : place < length order = omega (arith, ap length are) in
      let rest = gate_entries planned (place + 1) (drop (place + 1) order) in
      let same : get_or order place 0 ≡ number = ap (λ (list : List ℕ). get_or list place 0) (sym are) in
      let its_lead : get_or leads (inputs + number) 0 ≡ lead planned (home planned net) net = ap (λ (count : ℕ). get_or leads (count + number) 0) inputs_are ∙ are_leads.leads_at net (omega (arith, number_within, are_leads.nets)) in
      let later : gate_entries planned (place + 1) (drop (place + 1) order) ≡ gate_entries planned (suc place) (drop (place + 1) order) = let next : place + 1 ≡ suc place = omega arith in ap (λ (at : ℕ). gate_entries planned at (drop (place + 1) order)) next in
      ap (λ (list : List Entry). list ++ rest) is
      ∙ append_assoc made (gate_entry_of planned (get_or leads (inputs + number) 0) place number ∷ []) rest
      ∙ ap₂ (λ (time : ℕ) (list : List Entry). made ++ gate_entry_of planned time place number ∷ list) its_lead later
      ∙ ap (λ (list : List ℕ). made ++ gate_entries planned place list) (sym (drop_more order place 0 inside ∙ ap (λ (one : ℕ). one ∷ drop (place + 1) order) same))
      ∙ so_far

pub gate_entry-requires-clause-number : goal.gate_entry-requires-clause-number
gate_entry-requires-clause-number c = number_within (planned_in c.args.wired.now) c.loop-place.place c.order-number-items.result.now c.inputs-inputs.result c.order-number-items.ensures (c.inputs-inputs.ensures ∙ ap (λ (flat : Flat). flat.inputs) c.flat.ensures) c.loop-place-test.true

pub gate_entry-requires-clause-place : goal.gate_entry-requires-clause-place
gate_entry-requires-clause-place c = place_low (planned_in c.args.wired.now) c.loop-place.place c.order-number-items.result.now c.inputs-inputs.result c.order-number-items.ensures (c.inputs-inputs.ensures ∙ ap (λ (flat : Flat). flat.inputs) c.flat.ensures) c.loop-place-test.true

pub bounds-leads-inputs : goal.bounds-leads-inputs
bounds-leads-inputs c = omega (arith, number_within (planned_in c.args.wired.now) c.loop-place.place c.order-number-items.result.now c.inputs-inputs.result c.order-number-items.ensures (c.inputs-inputs.ensures ∙ ap (λ (flat : Flat). flat.inputs) c.flat.ensures) c.loop-place-test.true, c.requires.leads.nets, c.inputs-inputs.ensures ∙ ap (λ (flat : Flat). flat.inputs) c.flat.ensures)

pub loop-place-preserved : goal.loop-place-preserved
loop-place-preserved c = pushed (planned_in c.args.wired.now) c.loop-place.place c.order-number-items.result.now c.inputs-inputs.result c.order-number-items.ensures (c.inputs-inputs.ensures ∙ ap (λ (flat : Flat). flat.inputs) c.flat.ensures) c.loop-place-test.true
    c.args.leads.now c.loop-place.entries.items c.push.new.self.items _ c.requires.leads (c.in_ok-push.ensures.items ∙ ap (λ (entry : Entry). c.loop-place.entries.items ++ entry ∷ []) c.gate_entry.ensures) c.loop-place.invariant
