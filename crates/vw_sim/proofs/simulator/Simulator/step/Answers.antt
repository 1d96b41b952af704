use Rattle.std.proofs.Common.{◌≡◌, ◌≤◌, ◌<◌, ◌+◌, ℕ, false, length, map, slice_index_or, ap, sym, subst, ◌∙◌, arith}
use Rattle.std.proofs.lemmas.List.Elements.{All-same, All-weaker}
use Rattle.vw_net.specs.declared.ordered.Ordered.{Ordered}
use Rattle.vw_net.specs.Cells.{latch_count, latch_inputs}
use Rattle.vw_net.specs.Value.{net_value}
use Rattle.vw_sim.specs.Steps.Simulator.{latch_nets}
use Rattle.vw_sim.proofs.LatchNets.{length-latch_nets, latch_nets-within}
use Rattle.vw_net.proofs.Counts.{length-latch_inputs}
use Rattle.vw_sim.proofs.Starts.{starts, filled, both_put}
use Rattle.vw_net.proofs.LatchValues.{next_state-from_values, latch_inputs-within}
use Rattle.vw_sim.proofs.simulator.Simulator.step.Goals as goal

-- there are as many bits as latches
pub put_bits-requires-clause-same : goal.put_bits-requires-clause-same
put_bits-requires-clause-same c =
    let flat = c.self.inside.ordered.now.flat in
    ap length (c.deref.ensures.value ∙ c.self.invariant.latches) ∙ length-latch_nets flat.inputs flat.cells ∙ ap (λ (o : Ordered). latch_count o.flat.cells) c.self.view_is ∙ sym c.requires.latches

-- the nets of the latches are among all nets
pub put_bits-requires-clause-within : goal.put_bits-requires-clause-within
put_bits-requires-clause-within c =
    let flat = c.self.inside.ordered.now.flat in
    let size = filled c.args.inputs.now c.args.values.now c.put_inputs.new.values _ _ c.put_inputs.ensures c.requires.columns c.requires.nets in
    let room : flat.inputs + length flat.cells ≤ length c.put_inputs.new.values = omega (arith, size, ap (λ (o : Ordered). o.flat.inputs) c.self.view_is, ap (λ (o : Ordered). length o.flat.cells) c.self.view_is) in
    All-same (λ net. net < length c.put_inputs.new.values) c.deref.result.now (latch_nets flat.inputs flat.cells) (c.deref.ensures.value ∙ c.self.invariant.latches) (latch_nets-within flat.inputs (length c.put_inputs.new.values) flat.cells room)

pub run_tables-requires-clause-nets : goal.run_tables-requires-clause-nets
run_tables-requires-clause-nets c =
    let size = both_put c.args.inputs.now c.args.state.now c.args.values.now c.put_inputs.new.values c.put_bits.new.values c.deref.result.now _ _ c.put_inputs.ensures c.requires.columns c.requires.nets c.put_bits.ensures in
    size ∙ ap (λ (o : Ordered). o.flat.inputs + length o.flat.cells) (sym c.self.view_is)

-- each latch takes one net
pub take_bits-requires-clause-same : goal.take_bits-requires-clause-same
take_bits-requires-clause-same c =
    let cells = c.self.inside.ordered.now.flat.cells in
    c.requires.latches ∙ ap (λ (o : Ordered). latch_count o.flat.cells) (sym c.self.view_is) ∙ sym (length-latch_inputs cells) ∙ ap length (sym (c.deref-3.ensures.value ∙ c.self.invariant.taken))

-- no call changes the number of nets
pub take_bits-requires-clause-within : goal.take_bits-requires-clause-within
take_bits-requires-clause-within c =
    let flat = c.self.inside.ordered.now.flat in
    let size = both_put c.args.inputs.now c.args.state.now c.args.values.now c.put_inputs.new.values c.put_bits.new.values c.deref.result.now _ _ c.put_inputs.ensures c.requires.columns c.requires.nets c.put_bits.ensures ∙ ap (λ (o : Ordered). o.flat.inputs + length o.flat.cells) (sym c.self.view_is) in
    let taken = latch_inputs-within (flat.inputs + length flat.cells) flat.cells flat.cells_fit in
    let below = λ (net : ℕ). net < flat.inputs + length flat.cells in
    let reads = All-same below c.deref-3.result.now (latch_inputs flat.cells) (c.deref-3.ensures.value ∙ c.self.invariant.taken) taken in
    All-weaker below (λ net. net < length c.run_tables.new.values) (λ net is_below. omega (arith, size, c.run_tables.ensures.nets)) c.deref-3.result.now reads

-- the inputs and the latches give their nets their values, and from there the gates give the others theirs
pub returns-clause-values : goal.returns-clause-values
returns-clause-values c =
    let ordered = c.self.inside.ordered.now in
    let row = c.args.inputs.now in
    let state = c.args.state.now in
    let columns = c.requires.columns ∙ ap (λ (o : Ordered). o.flat.inputs) (sym c.self.view_is) in
    let latches = c.requires.latches ∙ ap (λ (o : Ordered). latch_count o.flat.cells) (sym c.self.view_is) in
    let size = filled row c.args.values.now c.put_inputs.new.values _ _ c.put_inputs.ensures c.requires.columns c.requires.nets ∙ ap (λ (o : Ordered). o.flat.inputs + length o.flat.cells) (sym c.self.view_is) in
    let ready = starts ordered.flat row state c.args.values.now c.put_inputs.new.values c.put_bits.new.values c.deref.result.now columns latches size c.put_inputs.ensures (c.deref.ensures.value ∙ c.self.invariant.latches) c.put_bits.ensures in
    let have = c.run_tables.ensures.values (net_value ordered.flat row state) ready (c.gates_settle.ensures ordered row state) in
    subst (λ (o : Ordered). (net : ℕ) → net < length c.run_tables.new.values → slice_index_or c.run_tables.new.values net false ≡ net_value o.flat row state net) c.self.view_is have

pub returns-clause-nets : goal.returns-clause-nets
returns-clause-nets c =
    let size = both_put c.args.inputs.now c.args.state.now c.args.values.now c.put_inputs.new.values c.put_bits.new.values c.deref.result.now _ _ c.put_inputs.ensures c.requires.columns c.requires.nets c.put_bits.ensures in
    c.run_tables.ensures.nets ∙ size ∙ sym c.requires.nets

-- the latches take the values of their nets
pub returns-clause-state : goal.returns-clause-state
returns-clause-state c =
    let flat = c.args.self.now.flat in
    let value = λ (net : ℕ). slice_index_or c.run_tables.new.values net false in
    let size = returns-clause-nets c in
    let taken = next_state-from_values flat c.args.inputs.now c.args.state.now value (λ net within. returns-clause-values c net (omega (arith, size, c.requires.nets))) in
    let nets : c.deref-3.result.now ≡ latch_inputs flat.cells = c.deref-3.ensures.value ∙ c.self.invariant.taken ∙ ap (λ (o : Ordered). latch_inputs o.flat.cells) c.self.view_is in
    c.take_bits.ensures ∙ ap (map value) nets ∙ taken
