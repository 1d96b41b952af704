use Rattle.std.proofs.Common.{rules, ◌≡◌, ◌∙◌, List, Bool, length, ap}
use Rattle.vw_net.specs.Cells.{latch_count}
use Rattle.vw_net.proofs.Counts.{length-state_after}
use Rattle.vw_batches.proofs.running_board.RunningBoard.go_past.Goals as goal

-- there are as many latches after the last clock as before the first
pub renew-requires-clause-all_latches : goal.renew-requires-clause-all_latches
renew-requires-clause-all_latches c =
    let job = c.args.self.now.job in
    let wide : length c.args.answer.last ≡ latch_count job.checked.ordered.flat.cells =
    ap (λ (bits : List Bool). length bits) c.requires ∙ length-state_after job.checked.ordered.flat job.start job.rows job.all_latches in
    search (rules, wide)
