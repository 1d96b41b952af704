use Rattle.std.proofs.Common.{◌≡◌, ◌<◌, ◌+◌, ◌++◌, ◌∙◌, ℕ, Bool, false, List, length, map, slice_index_or, ap, ap₂, sym, arith}
use Rattle.std.proofs.Math.Path.{fun_ext}
use Rattle.std.proofs.lemmas.List.{length-map, length-replicate, with_items_is}
use Rattle.std.proofs.lemmas.List.Elements.{All-get_or}
use Rattle.std.proofs.lemmas.Option.{get_or_from_slice_get, slice_get_within}
use Rattle.vw_net.specs.declared.flat.Flat.{Flat}
use Rattle.vw_net.specs.FoundValue.{as_it_is}
use Rattle.vw_fault.specs.Found.{found_outputs}
use Rattle.vw_fault.specs.Steps.Lanes.{find_in, lane_bits}
use Rattle.vw_fault.proofs.Plain.{plain_outputs}
use Rattle.vw_fault.proofs.Rounds.{plain_further}
use Rattle.vw_fault.proofs.outputs.plain_outputs.Goals as goal

-- before the first clock
pub loop-number-init : goal.loop-number-init
loop-number-init c =
    let flat = c.args.ordered.now.flat in
    let rows = c.args.rows.now in
    record {
      latches = c.in_ok-state.ensures.length;
      nets = ap length c.in_ok-words.ensures ∙ length-replicate _ _;
      size = sym c.in_ok-bits.bits.ok.0 ∙ c.in_ok-bits.ensures.len ∙ ap length (c.outputs.ensures ∙ ap (λ (f : Flat). f.outputs) c.flat-flat.ensures);
      made = ap₂ (λ (made : List (List Bool)) (state : List Bool). made ++ found_outputs as_it_is flat state rows) c.new-clocks.ensures (c.in_ok-state.ensures.bits 0 (omega arith)) ∙ plain_outputs flat c.args.start.now rows;
    }

-- each row has a bit for each input
pub clock-requires-clause-columns : goal.clock-requires-clause-columns
clock-requires-clause-columns c =
    let rows = c.args.rows.now in
    let place = c.loop-number.number in
    let row = c.row.result.now in
    let is = get_or_from_slice_get rows place row row c.row.ensures in
    ap (λ (bits : List Bool). length bits) (sym is) ∙ All-get_or (λ (bits : List Bool). length bits ≡ c.args.ordered.now.flat.inputs) rows place row (slice_get_within rows place row c.row.ensures) c.requires.columns

-- one clock more
pub loop-number-preserved : goal.loop-number-preserved
loop-number-preserved c =
    let flat = c.args.ordered.now.flat in
    let rows = c.args.rows.now in
    let place = c.loop-number.number in
    let row = c.row.result.now in
    let old = c.loop-number.invariant in
    let stuck = c.in_ok-stuck.stuck in
    let value = λ (net : ℕ). slice_index_or (lane_bits 0 c.clock.new.words) net false in
    let same : find_in stuck 0 ≡ as_it_is = fun_ext (λ net. fun_ext (λ bit. c.in_ok-stuck.ensures.plain 0 (omega arith) net bit)) in
    let cells = ap length c.cells.ensures in
    let size = ap (λ (f : Flat). f.inputs + length f.cells) c.flat-flat.ensures in
    let have = λ (net : ℕ) (within : net < flat.inputs + length flat.cells). c.clock.ensures.words 0 (omega arith) net (omega (arith, within, size, cells, c.inputs.ensures, c.clock.ensures.nets, old.nets)) in
    let bits = c.first_bits.ensures ∙ ap (map value) (c.outputs-in-loop-number.ensures ∙ ap (λ (f : Flat). f.outputs) c.flat-flat.ensures) in
    let count : length c.first_bits.new.bits ≡ length flat.outputs = ap length bits ∙ length-map flat.outputs value in
    let written = with_items_is c.loop-number.bits c.first_bits.new.bits (count ∙ sym old.size ∙ sym c.loop-number.bits.ok.0) in
    record {
      latches = c.clock.ensures.latches ∙ old.latches;
      nets = c.clock.ensures.nets ∙ old.nets;
      size = ap length written ∙ count;
      made = plain_further flat (find_in stuck 0) (lane_bits 0 c.loop-number.state) (lane_bits 0 c.clock.new.state) row c.deref.result.now value rows c.loop-number.clocks c.push.new.self _ place
          (slice_get_within rows place row c.row.ensures) (sym (get_or_from_slice_get rows place row row c.row.ensures)) same have (c.deref.ensures.value ∙ written ∙ bits) (c.clock.ensures.state 0 (omega arith)) c.in_ok-push.ensures.pushed old.made;
    }
