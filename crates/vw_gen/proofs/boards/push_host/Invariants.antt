-- what is written, and the chips that are left
use Rattle.std.proofs.Common.{◌≡◌, ◌++◌, drop}
use Rattle.std.specs.List.{flat_map}
use Rattle.vw_text.specs.Physical.{lines_text}
use Rattle.vw_gen.specs.Board.{both_ways}
use Rattle.vw_gen.proofs.boards.push_host.Given as goal

abbrev pub invariant-loop-chip : goal.invariant-loop-chip
invariant-loop-chip l = l.text.items ++ lines_text (flat_map (both_ways 0) (drop l.chip-index l.chips)) ≡ l.fn.text.items ++ lines_text (flat_map (both_ways 0) l.chips)
