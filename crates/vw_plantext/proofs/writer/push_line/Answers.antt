use Rattle.std.proofs.Common.{ℕ, ◌∷◌, arith}
use Rattle.std.specs.Fmt.{decimal}
use Rattle.vw_plantext.specs.Grammar.{numbers_text}
use Rattle.vw_text.proofs.WrittenPieces.{whole_written, line_written, one_written}
use Rattle.vw_plantext.proofs.writer.push_line.Goals as goal

pub loop-number-preserved : goal.loop-number-preserved
loop-number-preserved c = one_written (λ (number : ℕ). 32 ∷ decimal number) c.args.numbers.now c.loop-number.number-index c.loop-number.text.items c.push_behind_space.new.text.items _ 0 c.loop-number-test.true c.in_ok-push_behind_space.ensures c.loop-number.invariant

pub returns : goal.returns
returns c =
    let numbers = c.args.numbers.now in
    let written = whole_written (λ (number : ℕ). 32 ∷ decimal number) numbers c.loop-number.number-index c.loop-number.text.items _ (omega arith) c.loop-number.invariant in
    line_written c.args.text.now.items c.args.word.now (numbers_text numbers) c.extend_from_slice.new.self.items c.loop-number.text.items c.push.new.self.items c.in_ok-extend_from_slice.ensures.items written c.in_ok-push.ensures.items
