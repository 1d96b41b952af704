use Rattle.std.proofs.Common.{◌≡◌, ◌<◌, ◌∙◌, ◌++◌, ◌∷◌, [], ℕ, length, ap, ap₂, get_or, set, sym, arith}
use Rattle.vw_prog.specs.declared.shift.ShiftLoop.{ShiftLoop}
use Rattle.vw_prog.specs.Loops.{loop_place}
use Rattle.vw_prog.proofs.ShiftLoops.{place_inside, with_new, with_there}
use Rattle.vw_prog.proofs.shift.keep_net.Goals as goal

pub returns-then-place-len-clause-loops : goal.returns-then-place-len-clause-loops
returns-then-place-len-clause-loops c =
    let loops = c.args.loops.now.items in
    let place : c.loop_place-place.result ≡ loop_place c.args.link c.args.pin loops = c.loop_place-place.ensures ∙ ap (loop_place c.args.link c.args.pin) c.deref.ensures.value in
    let inside : loop_place c.args.link c.args.pin loops < length loops = omega (arith, place, c.if-place-len.true, c.len.ensures, c.args.loops.now.ok) in
    ap₂ (λ (at : ℕ) (one : ShiftLoop). set loops at one) place c.in_ok-push.ensures
    ∙ sym (with_there c.args.link c.args.pin c.args.net loops c.index_mut.result.now inside (c.index_mut.ensures.value ∙ ap (λ (at : ℕ). get_or loops at c.index_mut.result.now) place))

pub returns-clause-loops : goal.returns-clause-loops
returns-clause-loops c =
    let loops = c.args.loops.now.items in
    let place : c.loop_place-place.result ≡ loop_place c.args.link c.args.pin loops = c.loop_place-place.ensures ∙ ap (loop_place c.args.link c.args.pin) c.deref.ensures.value in
    let past = place_inside c.args.link c.args.pin loops (λ inside. omega (arith, inside, c.if-place-len.false, place, c.len.ensures, c.args.loops.now.ok)) in
    c.in_ok-push-2.ensures.items
    ∙ ap (λ (one : ShiftLoop). loops ++ one ∷ []) c.in_ok-of_net.ensures
    ∙ sym (with_new c.args.link c.args.pin c.args.net loops past)
