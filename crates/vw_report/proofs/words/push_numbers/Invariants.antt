-- what is written, and the numbers that are left
use Rattle.std.proofs.Common.{◌≡◌, ◌++◌, drop}
use Rattle.vw_listing.specs.Netlist.{number_words}
use Rattle.vw_report.proofs.words.push_numbers.Given as goal

abbrev pub invariant-loop-number : goal.invariant-loop-number
invariant-loop-number l = l.text.items ++ number_words (drop l.number-index l.numbers) ≡ l.initial.text.items ++ number_words l.numbers
