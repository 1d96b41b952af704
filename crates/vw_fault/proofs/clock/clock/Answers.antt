use Rattle.std.proofs.Common.{◌≡◌, ◌<◌, ◌+◌, ◌∙◌, ℕ, length, true, false, Bool, List, [], map, slice_index_or, ap, subst, sym, arith}
use Rattle.std.proofs.Math.Path.{fun_ext}
use Rattle.std.proofs.lemmas.List.{length-map}
use Rattle.std.proofs.lemmas.Simd.{map-map}
use Rattle.vw_net.specs.declared.flat.Flat.{Flat}
use Rattle.vw_net.specs.Cells.{latch_inputs}
use Rattle.vw_net.specs.FoundValue.{found_value}
use Rattle.vw_net.specs.Order.{is_ready}
use Rattle.vw_net.specs.TruthTable.{bit_of}
use Rattle.vw_net.proofs.Counts.{length-latch_inputs}
use Rattle.vw_fault.specs.Steps.Lanes.{find_in, lane_bits}
use Rattle.vw_fault.proofs.Lanes.{lane_at}
use Rattle.vw_fault.proofs.Values.{found_value-before_gates, next_state-from_found}
use Rattle.vw_fault.proofs.clock.clock.Goals as goal

-- the inputs and the latches give their nets what is found of them, and from there the gates give the others theirs
pub returns-clause-words : goal.returns-clause-words
returns-clause-words c = λ lane low.
    let ordered = c.args.ordered.now in
    let row = c.args.row.now in
    let find = find_in c.args.stuck.now lane in
    let state = lane_bits lane c.args.state.now in
    let flat = c.flat-flat.result.now in
    let columns : length row ≡ flat.inputs = c.requires.columns ∙ ap (λ (f : Flat). f.inputs) (sym c.flat-flat.ensures) in
    let start = found_value-before_gates find flat row state (lane_bits lane c.put_inputs.new.words) (lane_bits lane c.put_latches.new.words) columns (c.put_inputs.ensures.inputs lane low) (c.put_latches.ensures.latches lane low) (c.put_latches.ensures.rest lane low) in
    let ready = subst (λ (f : Flat). (net : ℕ) → is_ready f.inputs f.cells [] net ≡ true → slice_index_or (lane_bits lane c.put_latches.new.words) net false ≡ found_value find f row state net) c.flat-flat.ensures start in
    c.put_gates.ensures.values lane low (found_value find ordered.flat row state) ready (c.found_gates_settle.ensures find ordered row state)

-- there are as many latches as nets that they take
pub returns-clause-latches : goal.returns-clause-latches
returns-clause-latches c =
    let cells = ap (λ (f : Flat). f.cells) c.flat-flat.ensures in
    ap length c.move_latches.ensures ∙ length-map (latch_inputs c.flat-flat.result.now.cells) (λ (net : ℕ). slice_index_or c.put_gates.new.words net 0)
    ∙ ap (λ (cs : List _). length (latch_inputs cs)) cells ∙ length-latch_inputs c.args.ordered.now.flat.cells ∙ sym c.requires.latches

-- the latches take what they find of their nets
pub returns-clause-state : goal.returns-clause-state
returns-clause-state c = λ lane low.
    let ordered = c.args.ordered.now in
    let words = c.put_gates.new.words in
    let find = find_in c.args.stuck.now lane in
    let value = λ (net : ℕ). slice_index_or (lane_bits lane words) net false in
    let have = λ (net : ℕ) (within : net < ordered.flat.inputs + length ordered.flat.cells). returns-clause-words c lane low net (omega (arith, within, c.requires.nets, c.put_gates.ensures.nets, c.put_latches.ensures.nets, c.put_inputs.ensures.nets)) in
    ap (lane_bits lane) (c.move_latches.ensures ∙ ap (λ (f : Flat). map (λ (net : ℕ). slice_index_or words net 0) (latch_inputs f.cells)) c.flat-flat.ensures)
    ∙ map-map (λ (word : ℕ). bit_of word lane) (λ (net : ℕ). slice_index_or words net 0) (latch_inputs ordered.flat.cells)
    ∙ ap (λ (bit : ℕ → Bool). map bit (latch_inputs ordered.flat.cells)) (sym (fun_ext (lane_at lane words)))
    ∙ next_state-from_found find ordered.flat c.args.row.now (lane_bits lane c.args.state.now) value have
