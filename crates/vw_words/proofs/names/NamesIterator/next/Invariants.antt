-- the words so far gave nothing, and those that are left decide
use Rattle.std.proofs.Common.{◌≡◌, length}
use Rattle.vw_words.specs.Values.{names_given}
use Rattle.vw_words.specs.Views.{setting_view}
use Rattle.vw_words.proofs.names.NamesIterator.next.Given as goal

abbrev pub invariant-loop-word : goal.invariant-loop-word
invariant-loop-word l = names_given (setting_view l.self-inside.setting) l.self-inside.words.now ≡ l.fn.self

abbrev pub decreases-loop-word : goal.decreases-loop-word
decreases-loop-word l = length l.self-inside.words.now
