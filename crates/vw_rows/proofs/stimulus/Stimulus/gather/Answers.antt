-- The copies that are owed first, and then the rows of lines.
use Rattle.std.proofs.Common.{refl, ◌∙◌}
use Rattle.std.proofs.lemmas.Result.{err_from_is_err_and}
use Rattle.vw_rows.specs.declared.batch.Batch.{Batch}
use Rattle.vw_rows.proofs.NextBatches.{accepted_short, gathered_at_start, gathered_next, never_fails}
use Rattle.vw_rows.proofs.stimulus.Stimulus.gather.Goals as goal

pub gather-requires-clause-short : goal.gather-requires-clause-short
gather-requires-clause-short g c bytes told_is =
    let stands = c.requires.stands bytes told_is in
    accepted_short c.args.self.now.width bytes stands.rows stands.accepted

pub returns-in_err-gather-clause-gathers : goal.returns-in_err-gather-clause-gathers
returns-in_err-gather-clause-gathers g c =
    let p = err_from_is_err_and c.from_residual-in_err-gather.result c.from_residual-in_err-gather.ensures.1 in
    let s = c.args.self.now in
    let new = c.new.ensures in
    let start : Batch = record { scan = c.new.result; at = s.at; read = s.at; rows = c.new-2.result; wanted = c.args.wanted; owed = s.owed } in
    let mid = c.give_copies.new.self in
    let gives = c.in_ok-give_copies.ensures in
    let gathered = gathered_at_start s start mid new.line new.width new.number new.clocks refl refl c.new-2.ensures refl s.wide gives in
    rw (p.1, p.2) (never_fails _ s c.args.wanted mid c.gather.new.self c.in_err-gather.field-0.0 gathered gives.places.read gives.places.wanted c.in_err-gather.ensures.gathers c.requires.few c.requires.stands)

pub returns-clause-gathers : goal.returns-clause-gathers
returns-clause-gathers g c =
    let s = c.args.self.now in
    let new = c.new.ensures in
    let start : Batch = record { scan = c.new.result; at = s.at; read = s.at; rows = c.new-2.result; wanted = c.args.wanted; owed = s.owed } in
    let mid = c.give_copies.new.self in
    let gives = c.in_ok-give_copies.ensures in
    let gathered = gathered_at_start s start mid new.line new.width new.number new.clocks refl refl c.new-2.ensures refl s.wide gives in
    let done = c.in_ok-gather.ensures in
    gathered_next _ s c.args.wanted mid c.gather.new.self gathered gives.places.read done.gathers done.fit (done.full ∙ gives.places.wanted) c.requires.stands
