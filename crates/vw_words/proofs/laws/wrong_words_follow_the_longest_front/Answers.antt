use Rattle.vw_words.proofs.FirstWrong.{first_wrong_is}
use Rattle.vw_words.proofs.laws.wrong_words_follow_the_longest_front.Goals as goal

pub returns : goal.returns
returns c = first_wrong_is
