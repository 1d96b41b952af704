-- A part is cut off the line, and is a word where it has bytes.
use Rattle.std.proofs.Common.{◌≡◌, ◌-◌, ◌++◌, length, take, drop, sym, ap, ◌∙◌, arith}
use Rattle.std.specs.List.{position_or_len}
use Rattle.vw_text.specs.Bare.{is_blank}
use Rattle.vw_text.specs.WordLines.{words_of}
use Rattle.vw_text.proofs.LineWords.{word_taken, blank_passed, rest_left, word_goes_over}
use Rattle.vw_text.proofs.words.words_of.Goals as goal
use Rattle.vw_text.proofs.words.words_of.Goals.{then-end-gt0+in_ok-from_slice+in_ok-push, else-end-gt0}

pub loop-rest-preserved : goal.loop-rest-preserved
loop-rest-preserved c =
    let rest = c.loop-rest.rest.now in
    let end = c.word_end-end.result in
    let is : position_or_len is_blank rest ≡ end = sym c.word_end-end.ensures in
    let left = ap (λ n. words_of (take (length rest - n) (drop n rest))) c.min.ensures ∙ rest_left rest end in
    elim c.if-end-gt0.branch [
      | then-end-gt0+in_ok-from_slice+in_ok-push w ↦
          let word : w.of.result ≡ take end rest = w.of.ensures ∙ w.in_ok-from_slice.ensures.items in
          let items = ap (λ words. words.items) w.words-is ∙ w.in_ok-push.ensures.items in
          word_goes_over c.loop-rest.words.items items word (word_taken rest end is w.if-end-gt0.true) left ∙ c.loop-rest.invariant
      | else-end-gt0 w ↦
          ap (λ words. words.items ++ words_of (take (length rest - c.min.result) (drop c.min.result rest))) w.words-is
          ∙ ap (λ words. c.loop-rest.words.items ++ words) (left ∙ sym (blank_passed rest end is (omega arith))) ∙ c.loop-rest.invariant
    ]
