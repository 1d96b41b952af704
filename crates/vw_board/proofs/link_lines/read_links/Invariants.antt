-- no line before is at fault, and the links are theirs
use Rattle.vw_board.specs.Steps.Links.{ReadsSoFar}
use Rattle.vw_board.proofs.link_lines.read_links.Given as goal

abbrev pub invariant-loop-line : goal.invariant-loop-line
invariant-loop-line l = ReadsSoFar l.version l.chips l.lines l.line-index l.links.items
