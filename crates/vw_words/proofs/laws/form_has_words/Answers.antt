use Rattle.vw_words.proofs.ToldApart.{give_one_each}
use Rattle.vw_words.proofs.WordsOfForms.{form_has_words}
use Rattle.vw_words.proofs.laws.form_has_words.Goals as goal

pub returns : goal.returns
returns c form words apart has = form_has_words form words (give_one_each form.settings apart) has
