-- what is left decides
use Rattle.std.proofs.Common.{◌≡◌, drop}
use Rattle.std.specs.List.{list_all}
use Rattle.vw_blif.specs.Rows.{is_mark}
use Rattle.vw_blif.proofs.row.are_marks.Given as goal

abbrev pub invariant-loop-byte : goal.invariant-loop-byte
invariant-loop-byte l = list_all is_mark (drop l.byte-index l.word) ≡ list_all is_mark l.word
