use Rattle.vw_plantext.proofs.CutAt.{line_cut, no_cut}
use Rattle.vw_plantext.proofs.line.next_line.Goals as goal

pub returns-in_err-end-clause-none : goal.returns-in_err-end-clause-none
returns-in_err-end-clause-none c = rw c.from_residual.ensures (no_cut c.args.text.now c.in_err-end.ensures)

pub returns-clause-cut : goal.returns-clause-cut
returns-clause-cut c =
    let found = c.in_ok-end.ensures in
    line_cut c.args.text.now c.in_ok-end.end found.0.high found.0.before found.1
