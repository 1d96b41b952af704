-- what is written, and the numbers that are left
use Rattle.std.proofs.Common.{◌≡◌, ◌++◌, drop}
use Rattle.vw_plantext.specs.Grammar.{numbers_text}
use Rattle.vw_plantext.proofs.writer.push_line.Given as goal

abbrev pub invariant-loop-number : goal.invariant-loop-number
invariant-loop-number l = l.text.items ++ numbers_text (drop l.number-index l.numbers) ≡ l.initial.text.items ++ numbers_text l.numbers
