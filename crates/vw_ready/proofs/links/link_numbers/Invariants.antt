-- the numbers of the links from here on
use Rattle.vw_ready.specs.Steps.{HasFrom}
use Rattle.vw_ready.proofs.links.link_numbers.Given as goal

abbrev pub invariant-loop-number : goal.invariant-loop-number
invariant-loop-number l = HasFrom l.board.links l.number l.numbers.items
