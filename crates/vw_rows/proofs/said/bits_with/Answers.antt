-- A word that is no longer one of bits.
use Rattle.std.proofs.Common.{sym, ◌∙◌}
use Rattle.vw_rows.proofs.SaidWords.{bad_word, bits_stop}
use Rattle.vw_rows.proofs.said.bits_with.Goals as goal

pub returns : goal.returns
returns c done part row said solid nonblank more =
    bad_word done part more c.args.byte said.0 solid nonblank (λ x. bits_stop part c.args.byte x said.1 (sym c.is_bit.ensures ∙ c.if-is_bit.false))
