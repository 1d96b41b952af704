-- The first blank, or the end of the line.
use Rattle.std.proofs.Common.{length, sym, ◌∙◌, arith}
use Rattle.std.proofs.lemmas.List.Sums.{position_or_len_is}
use Rattle.vw_text.specs.Bare.{is_blank}
use Rattle.vw_text.proofs.words.word_end.Goals as goal

pub returns-then-is_blank : goal.returns-then-is_blank
returns-then-is_blank c =
    sym (position_or_len_is is_blank c.args.line.now c.loop-at.at 0 (omega arith) c.loop-at.invariant (λ _. sym c.is_blank.ensures ∙ c.if-is_blank.true))

pub returns : goal.returns
returns c =
    let line = c.args.line.now in
    sym (position_or_len_is is_blank line (length line) 0 (omega arith) (λ k below. c.loop-at.invariant k (omega arith)) (λ past. absurd (omega arith)))
