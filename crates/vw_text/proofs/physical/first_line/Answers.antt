-- A text is cut at its first byte 10, or is one line.
use Rattle.vw_text.proofs.FirstLine.{line_cut, line_whole}
use Rattle.vw_text.proofs.physical.first_line.Goals as goal

pub returns-in-Some-clause-lines : goal.returns-in-Some-clause-lines
returns-in-Some-clause-lines c =
    let h = c.in-Some.ensures in
    line_cut c.args.text.now c.in-Some.end h.0.high h.0.before h.1

pub returns-in-None-clause-lines : goal.returns-in-None-clause-lines
returns-in-None-clause-lines c = line_whole c.args.text.now c.requires c.in-None.ensures
