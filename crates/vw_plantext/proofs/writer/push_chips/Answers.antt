use Rattle.std.proofs.Common.{◌++◌, ◌∙◌, ℕ, ◌∷◌, ap, arith}
use Rattle.std.specs.Fmt.{decimal}
use Rattle.std.specs.Prelude.{codes}
use Rattle.vw_plantext.specs.Grammar.{numbers_text}
use Rattle.vw_text.proofs.WrittenPieces.{whole_written, line_written, one_written}
use Rattle.vw_plantext.proofs.writer.push_chips.Goals as goal

pub loop-chip-preserved : goal.loop-chip-preserved
loop-chip-preserved c =
    let text = c.loop-chip.text.items in
    one_written (λ (number : ℕ). 32 ∷ decimal number) c.args.chip_of.now c.loop-chip.chip-index text c.push_behind_space.new.text.items _ 0 c.loop-chip-test.true (c.in_ok-push_behind_space.ensures ∙ ap (λ (number : ℕ). text ++ 32 ∷ decimal number) c.from.ensures) c.loop-chip.invariant

pub returns : goal.returns
returns c =
    let chips = c.args.chip_of.now in
    let written = whole_written (λ (number : ℕ). 32 ∷ decimal number) chips c.loop-chip.chip-index c.loop-chip.text.items _ (omega arith) c.loop-chip.invariant in
    line_written c.args.text.now.items (codes "chips") (numbers_text chips) c.extend_from_slice.new.self.items c.loop-chip.text.items c.push.new.self.items c.in_ok-extend_from_slice.ensures.items written c.in_ok-push.ensures.items
