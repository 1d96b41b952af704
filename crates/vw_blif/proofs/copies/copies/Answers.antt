use Rattle.std.proofs.Common.{List, [], ◌∷◌, ◌++◌, ap₂, sym, ◌∙◌}
use Rattle.std.proofs.lemmas.List.{take_all}
use Rattle.vw_design.specs.Paths.{Word}
use Rattle.vw_blif.proofs.Repeats.{more_words}
use Rattle.vw_blif.proofs.copies.copies.Goals as goal

pub loop-word-preserved : goal.loop-word-preserved
loop-word-preserved c =
    c.in_ok-push.ensures.items ∙ ap₂ (λ (ws : List Word) (w : Word). ws ++ w ∷ []) c.loop-word.invariant (c.in_ok-copy.ensures ∙ c.as_slice.ensures)
    ∙ sym (more_words c.args.words.now c.loop-word.word-index c.word-item.result c.loop-word-test.true c.word-item.is)

pub returns : goal.returns
returns c = c.loop-word.invariant ∙ take_all c.loop-word.word-index c.args.words.now c.loop-word-test.false
