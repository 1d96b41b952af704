-- A text that is read line by line.
use Rattle.std.specs.Prelude.{◌≡◌, ◌<◌, List, [], ◌∷◌, map, length, Option, Some, None}
use Rattle.vw_text.specs.declared.line.Line.{Line}
use Rattle.vw_text.specs.declared.reader.LineReader.{LineReader}
use Rattle.vw_text.specs.Physical.{text_lines}
use Rattle.vw_text.specs.Bare.{bare}
use Rattle.vw_text.specs.Logical.{joined_lines}
use Rattle.vw_text.specs.WordLines.{word_lines_of}

-- the logical lines with words that are left
abbrev pub lines_left : LineReader → List Line
lines_left r = word_lines_of (joined_lines r.number (map bare (text_lines r.rest.now)))

-- the first of them was read, and less of the text is left; or there was none, and there is none now
abbrev pub ReadsNext : LineReader → Option Line → LineReader → Type 0
ReadsNext old None new = (lines_left old ≡ []) × (lines_left new ≡ [])
ReadsNext old (Some line) new = (lines_left old ≡ line ∷ lines_left new) × (length new.rest.now < length old.rest.now)
