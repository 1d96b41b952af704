use Rattle.std.proofs.Common.{◌∙◌, ◌<◌, ◌+◌, ◌++◌, [], ◌∷◌, List, Bool, sym, ap, ap₂, arith}
use Rattle.std.proofs.lemmas.List.{map_more, take_more}
use Rattle.std.proofs.lemmas.Option.{get_or_from_slice_get}
use Rattle.vw_trace.specs.Triggers.{but_last}
use Rattle.vw_trace.proofs.trigger.front_of.Goals as goal

pub loop-place-preserved : goal.loop-place-preserved
loop-place-preserved c =
    let place = c.loop-place.place in
    let batch = c.args.batch.now in
    let outputs = c.row.result.now in
    let state = c.row-state.result.now in
    let here : place < c.args.clocks = omega (arith, c.loop-place-test.true) in
    record {
      outputs =
          c.in_ok-push.ensures.pushed
          ∙ ap₂ (λ (list : List (List Bool)) (bits : List Bool). list ++ bits ∷ []) c.loop-place.invariant.outputs
          (c.all_but_last-shown.ensures ∙ ap but_last (sym (get_or_from_slice_get batch.outputs place outputs outputs c.row.ensures)))
          ∙ sym (map_more but_last batch.outputs place outputs (omega (arith, here, c.requires.outputs)));
      states =
          c.in_ok-push-2.ensures.pushed
          ∙ ap₂ (λ (list : List (List Bool)) (bits : List Bool). list ++ bits ∷ []) c.loop-place.invariant.states
          (sym (get_or_from_slice_get batch.states place state state c.row-state.ensures))
          ∙ sym (take_more batch.states place state (omega (arith, here, c.requires.states)));
    }
