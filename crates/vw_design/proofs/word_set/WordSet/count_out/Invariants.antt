-- those so far
use Rattle.std.proofs.Common.{◌≡◌, ◌≤◌, ◌+◌, drop, filter, length, not}
use Rattle.vw_design.specs.WordSets.{has_word}
use Rattle.vw_design.proofs.word_set.WordSet.count_out.Given as goal

abbrev pub invariant-loop-name : goal.invariant-loop-name
invariant-loop-name l = record {
  few : l.count ≤ l.name-index;
  all : l.count + length (filter (λ name. not (has_word l.self.words name)) (drop l.name-index l.names)) ≡ length (filter (λ name. not (has_word l.self.words name)) l.names);
}
