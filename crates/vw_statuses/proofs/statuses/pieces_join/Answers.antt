use Rattle.vw_statuses.proofs.PieceLaws.{pieces_join, watched_pieces_join}
use Rattle.vw_statuses.proofs.statuses.pieces_join.Goals as goal

pub returns-clause-plain : goal.returns-clause-plain
returns-clause-plain c = pieces_join c.traces_join.ensures.with_probes_from_the_start

pub returns-clause-watched : goal.returns-clause-watched
returns-clause-watched c = watched_pieces_join c.traces_join.ensures.with_probes_from_the_start
