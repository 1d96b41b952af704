use Rattle.std.proofs.Common.{◌≡◌, ◌≤◌, ◌<◌, ◌∙◌, ◌+◌, ◌-◌, ◌⊎◌, ℕ, Bool, true, not, ap, sym, inl, inr, arith}
use Rattle.vw_plan.specs.declared.wire.Hop.{Hop}
use Rattle.vw_plan.specs.Distance.{least}
use Rattle.vw_plan.specs.PlannedBoard.{PlannedBoard}
use Rattle.vw_chain.specs.Timing.{planned_of}
use Rattle.vw_report.specs.Waits.{is_full, pin_wait}
use Rattle.vw_report.proofs.FullPins.{least_is}
use Rattle.vw_report.proofs.reported.Reported.pin_wait.Goals as goal

-- so many microcycles are waited for: all are full, and the next one isn't, or the hop is sent in it
waits_so : (planned : PlannedBoard) (hop : Hop) (ready most waited : ℕ) → most ≡ hop.at - ready → waited ≤ most
    → ((number : ℕ) → number < waited → is_full planned hop (ready + number) ≡ true) → (waited ≡ most) ⊎ (not (is_full planned hop (ready + waited)) ≡ true)
    → waited ≡ pin_wait planned ready hop
waits_so planned hop ready most waited is within full ends =
    let test : ℕ → Bool = λ number. not (is_full planned hop (ready + number)) in
    sym (ap (least test) (sym is) ∙ least_is test most waited within (λ number less. ap not (full number less)) ends)

pub returns-else-is_full : goal.returns-else-is_full
returns-else-is_full c =
    waits_so (planned_of c.args.self.now.timed.now) c.args.hop.now c.args.ready c.saturating_sub-most.result c.loop-waited.waited
    (c.saturating_sub-most.ensures ∙ ap (λ (at : ℕ). at - c.args.ready) c.at.ensures) c.loop-waited.invariant.within c.loop-waited.invariant.full (inr (ap not (sym c.if-is_full.ensures)))

pub returns-after-loop-waited : goal.returns-after-loop-waited
returns-after-loop-waited c =
    waits_so (planned_of c.args.self.now.timed.now) c.args.hop.now c.args.ready c.saturating_sub-most.result c.loop-waited.waited
    (c.saturating_sub-most.ensures ∙ ap (λ (at : ℕ). at - c.args.ready) c.at.ensures) c.loop-waited.invariant.within c.loop-waited.invariant.full (inl (omega (arith, c.loop-waited.invariant.within, c.loop-waited-test.false)))
