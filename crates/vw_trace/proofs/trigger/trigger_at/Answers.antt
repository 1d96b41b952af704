use Rattle.std.proofs.Common.{◌≡◌, ◌<◌, ◌+◌, ◌∙◌, ◌∷◌, Bool, false, List, length, drop, sym, ap, arith}
use Rattle.std.proofs.lemmas.List.{at_drop_more}
use Rattle.std.proofs.lemmas.Option.{get_or_from_slice_get}
use Rattle.vw_trace.specs.Triggers.{clocks_until, fires, last_is_1}
use Rattle.vw_trace.proofs.Triggered.{counted_here, counted_on, fires_here, fires_on}
use Rattle.vw_trace.proofs.trigger.trigger_at.Goals as goal
use Rattle.vw_trace.proofs.trigger.trigger_at.Goals.{After-ends_with_1}

-- the clock at hand, and those behind it
here : (c : After-ends_with_1) → drop c.loop-place.place c.args.outputs.now ≡ c.row.result.now ∷ drop (c.loop-place.place + 1) c.args.outputs.now
here c =
    let place = c.loop-place.place in
    let outputs = c.args.outputs.now in
    let row = c.row.result.now in
    let within : place < length outputs = omega (arith, c.loop-place-test.true, c.len-place-end.ensures) in
    at_drop_more (λ (list : List (List Bool)). list) outputs place row within ∙ ap (λ (r : List Bool). r ∷ drop (place + 1) outputs) (get_or_from_slice_get outputs place row row c.row.ensures)

pub returns-then-ends_with_1-clause-fires : goal.returns-then-ends_with_1-clause-fires
returns-then-ends_with_1-clause-fires c =
    let behind = drop (c.loop-place.place + 1) c.args.outputs.now in
    sym c.loop-place.invariant.fires ∙ ap fires (here (goal.at.returns-then-ends_with_1-clause-fires c).After-ends_with_1)
    ∙ fires_here c.row.result.now behind (sym c.ends_with_1.ensures ∙ c.if-ends_with_1.true)

pub returns-then-ends_with_1-clause-clocks : goal.returns-then-ends_with_1-clause-clocks
returns-then-ends_with_1-clause-clocks c =
    let behind = drop (c.loop-place.place + 1) c.args.outputs.now in
    omega (
      arith,
      c.loop-place.invariant.clocks,
      ap clocks_until (here (goal.at.returns-then-ends_with_1-clause-clocks c).After-ends_with_1),
      counted_here c.row.result.now behind (sym c.ends_with_1.ensures ∙ c.if-ends_with_1.true),
    )

pub loop-place-preserved : goal.loop-place-preserved
loop-place-preserved c =
    let behind = drop (c.loop-place.place + 1) c.args.outputs.now in
    let is = here (goal.at.loop-place-preserved c).After-ends_with_1 in
    let none : last_is_1 c.row.result.now ≡ false = sym c.ends_with_1.ensures ∙ c.if-ends_with_1.false in
    record {
      fires = sym (fires_on c.row.result.now behind none) ∙ sym (ap fires is) ∙ c.loop-place.invariant.fires;
      clocks = omega (arith, c.loop-place.invariant.clocks, ap clocks_until is, counted_on c.row.result.now behind none);
    }
