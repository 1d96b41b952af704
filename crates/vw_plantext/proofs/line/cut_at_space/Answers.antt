use Rattle.vw_plantext.proofs.CutAt.{word_cut, one_word}
use Rattle.vw_plantext.proofs.line.cut_at_space.Goals as goal

pub returns-in-Some : goal.returns-in-Some
returns-in-Some c =
    let found = c.in-Some.ensures in
    word_cut c.args.line.now c.in-Some.end found.0.high found.0.before found.1

pub returns-in-None : goal.returns-in-None
returns-in-None c = one_word c.args.line.now c.in-None.ensures
