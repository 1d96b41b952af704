use Rattle.vw_words.proofs.WordsOfForms.{words_have_form}
use Rattle.vw_words.proofs.laws.words_have_form.Goals as goal

pub returns : goal.returns
returns c = words_have_form
