use Rattle.vw_words.proofs.CutAtSlash.{before_is, behind_is, all_before, none_behind}
use Rattle.vw_words.proofs.value.cut_at_slash.Goals as goal

pub returns-in-Some-clause-before : goal.returns-in-Some-clause-before
returns-in-Some-clause-before c =
    let found = c.in-Some.ensures in
    before_is c.args.text.now c.in-Some.end found.0.high found.0.before found.1

pub returns-in-Some-clause-behind : goal.returns-in-Some-clause-behind
returns-in-Some-clause-behind c =
    let found = c.in-Some.ensures in
    behind_is c.args.text.now c.in-Some.end found.0.high found.0.before found.1

pub returns-in-None-clause-before : goal.returns-in-None-clause-before
returns-in-None-clause-before c = all_before c.args.text.now c.in-None.ensures

pub returns-in-None-clause-behind : goal.returns-in-None-clause-behind
returns-in-None-clause-behind c = none_behind c.args.text.now c.in-None.ensures
