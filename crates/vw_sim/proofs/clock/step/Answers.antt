use Rattle.std.proofs.Common.{◌≡◌, ◌<◌, ℕ, length, true, false, Bool, List, [], map, slice_index_or, subst, ap, ◌∙◌, arith}
use Rattle.std.proofs.lemmas.List.{get_or_append_left, length-append, length-drop}
use Rattle.vw_net.specs.declared.flat.Flat.{Flat}
use Rattle.vw_net.specs.Cells.{latch_inputs}
use Rattle.vw_net.specs.Order.{is_ready}
use Rattle.vw_net.specs.Value.{net_value}
use Rattle.vw_net.proofs.LatchValues.{next_state-from_values}
use Rattle.vw_sim.proofs.Values.{net_value-before_gates}
use Rattle.vw_sim.proofs.clock.step.Goals as goal

-- the inputs and the latches give their nets their values, and from there the gates give the others theirs
pub returns-clause-values : goal.returns-clause-values
returns-clause-values c =
    let ordered = c.args.ordered.now in
    let row = c.args.inputs.now in
    let state = c.args.state.now in
    let put = λ (net : ℕ) (within : net < length row). ap (λ (values : List Bool). slice_index_or values net false) c.put_inputs.ensures ∙ get_or_append_left row _ false net within in
    let start = net_value-before_gates c.flat-flat.result.now row state c.put_inputs.new.values c.put_latches.new.values (cc) put c.put_latches.ensures.latches c.put_latches.ensures.rest in
    let ready = subst (λ (flat : Flat). (net : ℕ) → is_ready flat.inputs flat.cells [] net ≡ true → slice_index_or c.put_latches.new.values net false ≡ net_value flat row state net) c.flat-flat.ensures start in
    c.put_gates.ensures.values (net_value ordered.flat row state) ready (c.gates_settle.ensures ordered row state)

-- the latches take the values of their nets
pub returns-clause-state : goal.returns-clause-state
returns-clause-state c =
    let ordered = c.args.ordered.now in
    let value = λ (net : ℕ). slice_index_or c.put_gates.new.values net false in
    let nets = simp (length-append, length-drop) at (ap length c.put_inputs.ensures) in
    let taken = next_state-from_values ordered.flat c.args.inputs.now c.args.state.now value (λ net within. returns-clause-values c net (omega (arith, nets))) in
    c.move_latches.ensures ∙ ap (λ (flat : Flat). map value (latch_inputs flat.cells)) c.flat-flat.ensures ∙ taken
