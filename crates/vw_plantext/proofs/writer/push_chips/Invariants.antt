-- what is written, and the chips that are left
use Rattle.std.proofs.Common.{◌≡◌, ◌++◌, drop}
use Rattle.vw_plantext.specs.Grammar.{numbers_text}
use Rattle.vw_plantext.proofs.writer.push_chips.Given as goal

abbrev pub invariant-loop-chip : goal.invariant-loop-chip
invariant-loop-chip l = l.text.items ++ numbers_text (drop l.chip-index l.chip_of) ≡ l.initial.text.items ++ numbers_text l.chip_of
