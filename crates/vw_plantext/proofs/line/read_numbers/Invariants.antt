-- the numbers so far, and those of the words that are left
use Rattle.std.proofs.Common.{◌≡◌, ◌++◌, length}
use Rattle.std.specs.Prelude.{option_map}
use Rattle.vw_plantext.specs.Steps.Words.{words_behind, numbers_of, line_numbers}
use Rattle.vw_plantext.proofs.line.read_numbers.Given as goal

abbrev pub invariant-loop-rest : goal.invariant-loop-rest
invariant-loop-rest l = option_map (λ more. l.numbers.items ++ more) (numbers_of (words_behind (option_map (λ rest. rest.now) l.rest))) ≡ line_numbers l.fn.word l.line

-- how many words are left
abbrev pub decreases-loop-rest : goal.decreases-loop-rest
decreases-loop-rest l = length (words_behind (option_map (λ rest. rest.now) l.rest))
