use Rattle.std.proofs.Common.{◌∙◌}
use Rattle.vw_design.specs.WordSets.{has_word}
use Rattle.vw_design.proofs.WordSets.{formal_added}
use Rattle.vw_design.proofs.word_set.WordSet.add_formals.Goals as goal

pub loop-bind-preserved : goal.loop-bind-preserved
loop-bind-preserved c = λ other.
    formal_added c.args.binds.now c.loop-bind.bind-index c.bind-item.result other c.loop-bind-test.true c.bind-item.is c.as_slice.result.now (c.as_slice.ensures ∙ c.formal.ensures)
    (has_word c.loop-bind.self.words other) (has_word c.insert.new.self.words other) (c.in_ok-insert.ensures.words other)
    ∙ c.loop-bind.invariant other
