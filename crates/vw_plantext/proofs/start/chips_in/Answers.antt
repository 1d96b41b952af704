use Rattle.std.proofs.Common.{◌≡◌, ◌<◌, ◌+◌, ◌++◌, ◌∙◌, ◌^◌, ℕ, List, [], ◌∷◌, length, take, get_or, ap, ap₂, sym, add-one, arith}
use Rattle.std.proofs.Math.Seq.{take-suc}
use Rattle.std.proofs.lemmas.List.{take_all}
use Rattle.std.proofs.lemmas.List.Elements.{All-push}
use Rattle.vw_plantext.proofs.start.chips_in.Goals as goal

pub loop-number-preserved : goal.loop-number-preserved
loop-number-preserved c =
    let numbers = c.args.numbers.now in
    let place = c.loop-number.number-index in
    let chips = c.loop-number.chips.items in
    let here = c.in-Ok.ensures.1 in
    let one_more : take (place + 1) numbers ≡ take place numbers ++ get_or numbers place 0 ∷ [] = rw add-one (take-suc numbers place 0 c.loop-number-test.true) in
    let pushed = c.in_ok-push.ensures.items in (
      pushed ∙ ap₂ (λ (front : List ℕ) (chip : ℕ). front ++ chip ∷ []) c.loop-number.invariant.0 here ∙ sym one_more,
      rw pushed (All-push (λ (chip : ℕ). chip < 2 ^ 32) chips c.in-Ok.chip c.loop-number.invariant.1 (omega (arith, here, c.in-Ok.ensures.0))),
    )

pub returns-in_default : goal.returns-in_default
returns-in_default c = λ each fit. c.in_default.ensures (fit c.loop-number.number-index 0 c.loop-number-test.true)

pub returns : goal.returns
returns c =
    let all = c.loop-number.invariant.0 ∙ take_all c.loop-number.number-index c.args.numbers.now (omega arith) in
    record { are = all; each = ap (λ (chips : List ℕ). length chips) all ∙ c.if-numbers-cells.false; fit = c.loop-number.invariant.1 }
