use Rattle.std.proofs.Common.{◌∙◌}
use Rattle.vw_design.specs.WordSets.{has_word}
use Rattle.vw_design.proofs.WordSets.{name_added}
use Rattle.vw_design.proofs.word_set.WordSet.add_all.Goals as goal

pub loop-name-preserved : goal.loop-name-preserved
loop-name-preserved c = λ other.
    name_added c.args.names.now c.loop-name.name-index c.name-item.result other c.loop-name-test.true c.name-item.is c.as_slice.result.now c.as_slice.ensures
    (has_word c.loop-name.self.words other) (has_word c.insert.new.self.words other) (c.in_ok-insert.ensures.words other)
    ∙ c.loop-name.invariant other
