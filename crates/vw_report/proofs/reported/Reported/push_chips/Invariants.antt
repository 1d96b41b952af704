-- what is written, and the chips that are left
use Rattle.std.proofs.Common.{◌≡◌, ◌++◌, ◌-◌, map}
use Rattle.std.specs.List.{range_with_len}
use Rattle.vw_text.specs.Physical.{lines_text}
use Rattle.vw_chain.specs.Timing.{planned_of}
use Rattle.vw_report.specs.Report.{chip_line, chip_lines}
use Rattle.vw_report.proofs.reported.Reported.push_chips.Given as goal

abbrev pub invariant-loop-chip : goal.invariant-loop-chip
invariant-loop-chip l =
    let planned = planned_of l.self.timed.now in
    l.text.items ++ lines_text (map (chip_line planned) (range_with_len l.chip (l.chip-end - l.chip))) ≡ l.fn.text.items ++ lines_text (chip_lines planned)
