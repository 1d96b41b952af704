-- the nodes so far have their notes
use Rattle.vw_board.specs.Steps.Tables.{NotesBefore}
use Rattle.vw_board.proofs.walks.note.Given as goal

abbrev pub invariant-loop-node : goal.invariant-loop-node
invariant-loop-node l = NotesBefore l.fn.least l.nodes l.count l.node l.least
