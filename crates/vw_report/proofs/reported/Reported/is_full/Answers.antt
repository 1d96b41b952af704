use Rattle.std.proofs.Common.{◌≡◌, ◌∙◌, ℕ, Bool, false, ap, sym, arith}
use Rattle.vw_plan.specs.declared.wire.Hop.{Hop}
use Rattle.vw_plan.specs.Earliest.{is_in_use}
use Rattle.vw_chain.specs.Timing.{planned_of}
use Rattle.vw_report.specs.Waits.{moved}
use Rattle.vw_report.proofs.FullPins.{all_below, one_below_fails}
use Rattle.vw_report.proofs.reported.Reported.is_full.Goals as goal

pub returns : goal.returns
returns c =
    let planned = planned_of c.args.self.now.timed.now in
    let hop = c.args.hop.now in
    let test : ℕ → Bool = λ pin. is_in_use planned.plan (moved hop pin c.args.at) in
    sym (all_below test _ (λ pin less. c.loop-pin.invariant pin (omega (arith, less, c.loop-pin-test.false, c.width-pin-end.ensures))))

pub returns-then-not-is_used : goal.returns-then-not-is_used
returns-then-not-is_used c =
    let planned = planned_of c.args.self.now.timed.now in
    let hop = c.args.hop.now in
    let test : ℕ → Bool = λ pin. is_in_use planned.plan (moved hop pin c.args.at) in
    let own : Hop = moved hop c.loop-pin.pin c.args.at in
    let read : Hop = record { from = c.from.result; to = c.to.result; pin = c.loop-pin.pin; at = c.args.at } in
    let same : read ≡ own = λ i. record { from = c.from.ensures i; to = c.to.ensures i; pin = c.loop-pin.pin; at = c.args.at } in
    let free : is_in_use planned.plan own ≡ false = sym (c.if-not-is_used.ensures ∙ c.args.self.now.has_slots read ∙ ap (is_in_use planned.plan) same) in
    sym (one_below_fails test _ c.loop-pin.pin (omega (arith, c.loop-pin-test.true, c.width-pin-end.ensures)) free)
