use Rattle.std.proofs.Common.{◌∙◌, ◌≡◌, List, Bool, length, get_or, set, true, slice_get, ap, length-set}
use Rattle.vw_net_faults.proofs.ClockFlags.{flagged_here, not_flagged}
use Rattle.vw_net_faults.proofs.clock_flags.flagged.Goals as goal
use Rattle.vw_net_faults.proofs.clock_flags.flagged.Goals.{then-place-count, else-place-count}

pub loop-number-preserved : goal.loop-number-preserved
loop-number-preserved c =
    let numbers = c.args.numbers.now in
    let count = c.args.count in
    let i = c.loop-number.number-index in
    let clock_flags = c.loop-number.clock_flags.items in
    let had = c.loop-number.invariant in
    elim c.if-place-count.branch [
      | then-place-count w ↦
          let is : c.if-place-count.clock_flags.items ≡ set clock_flags (get_or numbers i 0) true = ap (λ v. v.items) w.clock_flags-is in
          record {
            long = ap (λ (list : List Bool). length list) is ∙ length-set clock_flags (get_or numbers i 0) true ∙ had.long;
            flagged = λ k below. ap (λ (list : List Bool). slice_get list k) is ∙ flagged_here numbers i c.loop-number-test.true clock_flags count had.long had.flagged w.if-place-count.true k below;
          }
      | else-place-count w ↦
          let is : c.if-place-count.clock_flags.items ≡ clock_flags = ap (λ v. v.items) w.clock_flags-is in
          record {
            long = ap (λ (list : List Bool). length list) is ∙ had.long;
            flagged = λ k below. ap (λ (list : List Bool). slice_get list k) is ∙ not_flagged numbers i c.loop-number-test.true clock_flags count had.flagged w.if-place-count.false k below;
          }
    ]
