use Rattle.vw_statuses.proofs.WrongWords.{commands_can_be_given}
use Rattle.vw_statuses.proofs.statuses.wrong_words_have_their_place.Goals as goal

pub returns : goal.returns
returns c = λ words. c.wrong_words_follow_the_longest_front.ensures _ _ words commands_can_be_given
