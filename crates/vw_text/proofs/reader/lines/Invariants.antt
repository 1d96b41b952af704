-- The lines so far, and then those that are left.
use Rattle.std.proofs.Common.{◌≡◌, ◌++◌, length}
use Rattle.vw_text.specs.WordLines.{word_lines}
use Rattle.vw_text.specs.Reading.{lines_left}
use Rattle.vw_text.proofs.reader.lines.Given as goal

abbrev pub invariant-loop-lines : goal.invariant-loop-lines
invariant-loop-lines l = l.lines.items ++ lines_left l.reader ≡ word_lines l.bytes

abbrev pub decreases-loop-lines : goal.decreases-loop-lines
decreases-loop-lines l = length l.reader.rest.now
