-- What the bytes of a line that isn't at its end begin, with the physical lines that are left; nothing is taken from the reader before a line is whole.
use Rattle.std.proofs.Common.{◌≡◌, ◌≤◌, ◌+◌, length, map}
use Rattle.vw_text.specs.Physical.{text_lines}
use Rattle.vw_text.specs.Bare.{bare}
use Rattle.vw_text.specs.Logical.{continued, joined_lines}
use Rattle.vw_text.specs.WordLines.{word_lines_of}
use Rattle.vw_text.specs.Reading.{lines_left}
use Rattle.vw_text.proofs.reader.LineReader.next_line.Given as goal

abbrev pub invariant-loop-rest : goal.invariant-loop-rest
invariant-loop-rest l = record {
  whole : word_lines_of (continued l.number l.front.items (joined_lines l.next (map bare (text_lines l.rest)))) ≡ lines_left l.fn.self;
  counted : l.next + length l.rest ≤ l.fn.self.number + length l.fn.self.rest.now;
  shorter : length l.rest ≤ length l.fn.self.rest.now;
  kept : lines_left l.self ≡ lines_left l.fn.self;
}

abbrev pub decreases-loop-rest : goal.decreases-loop-rest
decreases-loop-rest l = length l.rest
