use Rattle.std.proofs.Common.{sym, ◌∙◌}
use Rattle.vw_blif.proofs.LastWord.{front_words-take, last_word-get}
use Rattle.vw_blif.proofs.copies.front_and_last.Goals as goal

pub returns-clause-front : goal.returns-clause-front
returns-clause-front c = sym (front_words-take c.args.words.now)

pub returns-clause-last : goal.returns-clause-last
returns-clause-last c = c.index-words-last.is ∙ sym (last_word-get c.args.words.now c.index-words-last.result c.requires)
