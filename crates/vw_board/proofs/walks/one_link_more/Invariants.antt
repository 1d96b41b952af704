-- the same by the links so far
use Rattle.std.proofs.Common.{take}
use Rattle.vw_board.specs.Steps.Tables.{IsOneLinkMore}
use Rattle.vw_board.proofs.walks.one_link_more.Given as goal

abbrev pub invariant-loop-link : goal.invariant-loop-link
invariant-loop-link l = IsOneLinkMore (take l.link-index l.links) l.nodes l.more.items
