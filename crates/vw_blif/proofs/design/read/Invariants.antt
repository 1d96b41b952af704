-- the lines so far had no fault
use Rattle.std.proofs.Common.{length}
use Rattle.vw_text.specs.WordLines.{word_lines}
use Rattle.vw_text.specs.Reading.{lines_left}
use Rattle.vw_blif.proofs.DesignLines.{IsReadSoFar}
use Rattle.vw_blif.proofs.design.read.Given as goal

abbrev pub invariant-loop-reader : goal.invariant-loop-reader
invariant-loop-reader l = IsReadSoFar (word_lines l.text) (lines_left l.lines) l.reader

abbrev pub decreases-loop-reader : goal.decreases-loop-reader
decreases-loop-reader l = length l.lines.rest.now
