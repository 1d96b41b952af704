use Rattle.std.proofs.Common.{◌+◌}
use Rattle.vw_chain.specs.Timing.{planned_of}
use Rattle.vw_report.proofs.PartLines.{next_chip}
use Rattle.vw_report.proofs.reported.Reported.push_chips.Goals as goal

pub loop-chip-preserved : goal.loop-chip-preserved
loop-chip-preserved c =
    next_chip (planned_of c.args.self.now.timed.now) c.loop-chip.chip (c.chips-chip-end.result + 1) c.loop-chip.text.items c.push_chip.new.text.items _ c.loop-chip-test.true c.in_ok-push_chip.ensures c.loop-chip.invariant
