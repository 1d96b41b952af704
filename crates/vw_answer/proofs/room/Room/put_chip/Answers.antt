use Rattle.std.proofs.Common.{length, sym, ◌∙◌}
use Rattle.vw_answer.proofs.DoneNodes.{bits_wide, done_node, last_more, latches_long, rows_count, rows_more, within_row, within_rows}
use Rattle.vw_answer.proofs.room.Room.put_chip.Goals as goal

pub put_recorded-requires-clause-within : goal.put_recorded-requires-clause-within
put_recorded-requires-clause-within c =
    let job = c.args.job.now in
    let chip = c.args.chip.now in
    within_rows job chip.share.node c.requires.number chip (done_node job chip c.requires.finished) chip.share.node c.args.self.now.latches c.requires.told.latches

pub put_recorded-requires-clause-bits : goal.put_recorded-requires-clause-bits
put_recorded-requires-clause-bits c =
    let job = c.args.job.now in
    let chip = c.args.chip.now in
    bits_wide job chip.share.node c.requires.number chip (done_node job chip c.requires.finished)

pub put_recorded-requires-clause-clocks : goal.put_recorded-requires-clause-clocks
put_recorded-requires-clause-clocks c =
    let job = c.args.job.now in
    let chip = c.args.chip.now in
    rows_count job chip.share.node chip (done_node job chip c.requires.finished) ∙ sym c.requires.told.latches.count

pub put_present-requires-clause-within : goal.put_present-requires-clause-within
put_present-requires-clause-within c =
    let job = c.args.job.now in
    let chip = c.args.chip.now in
    within_row job chip.share.node c.requires.number chip (done_node job chip c.requires.finished) (length job.rows) chip.share.node c.args.self.now.last c.requires.told.last

pub put_present-requires-clause-latches : goal.put_present-requires-clause-latches
put_present-requires-clause-latches c =
    let job = c.args.job.now in
    let chip = c.args.chip.now in
    latches_long job chip.share.node c.requires.number chip (done_node job chip c.requires.finished)

pub returns : goal.returns
returns c =
    let job = c.args.job.now in
    let chip = c.args.chip.now in
    let done = done_node job chip c.requires.finished in
    record {
      latches = rows_more job chip.share.node c.requires.number chip done c.args.self.now.latches c.put_recorded.new.latches c.requires.told.latches c.put_recorded.ensures.count c.put_recorded.ensures.each;
      last = last_more job chip.share.node c.requires.number chip done c.args.self.now.last c.put_present.new.row c.requires.told.last c.put_present.ensures;
    }
