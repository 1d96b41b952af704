use Rattle.std.proofs.Common.{◌≡◌, ℕ, Bool, List, false, map, set, ap, ◌∙◌, arith}
use Rattle.std.specs.Prelude.{slice_index_or}
use Rattle.vw_trace.proofs.Clocks.{outputs_at-from_values}
use Rattle.vw_trace.proofs.batch.record_clock.Goals as goal

pub returns-clause-outputs : goal.returns-clause-outputs
returns-clause-outputs c =
    let flat = c.args.simulator.now.flat in
    let before = c.args.batch.now.outputs in
    let place = c.args.place in
    let value : ℕ → Bool = λ net. slice_index_or c.step.new.values net false in
    let values : c.as_slice-2.result.now ≡ c.step.new.values = c.as_slice-2.ensures in
    let nets : c.outputs.result.now ≡ flat.outputs = cc in
    c.pick.ensures
    ∙ ap (λ (bits : List Bool). set before place (map (λ net. slice_index_or bits net false) c.outputs.result.now)) values
    ∙ ap (λ (list : List ℕ). set before place (map value list)) nets
    ∙ ap (λ (bits : List Bool). set before place bits) (outputs_at-from_values flat c.args.row.now c.args.state.now value (λ net within. c.step.ensures.values net (omega (arith, c.step.ensures.nets, c.requires.nets))))
