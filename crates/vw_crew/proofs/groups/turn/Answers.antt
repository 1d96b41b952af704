use Rattle.std.proofs.Common.{get_or}
use Rattle.std.proofs.lemmas.Option.{slice_get-get_or}
use Rattle.vw_crew.proofs.AfterRounds.{turned_stay, turned_works}
use Rattle.vw_crew.proofs.groups.turn.Goals as goal

pub turn-requires : goal.turn-requires
turn-requires g c = c.requires.work c.args.number (get_or c.args.groups.now c.args.number c.index-groups-number.result) (slice_get-get_or c.args.groups.now c.args.number c.index-groups-number.result c.requires.number)

pub returns-clause-work : goal.returns-clause-work
returns-clause-work g c = turned_works c.args.groups.now c.args.number c.turn.new.self c.requires.work c.turn.ensures.work

pub returns-clause-stay : goal.returns-clause-stay
returns-clause-stay g c = turned_stay c.args.groups.now c.args.number c.turn.new.self c.index-groups-number.result c.turn.ensures.stays
