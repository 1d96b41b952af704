use Rattle.vw_merge.proofs.LeafWords.{leaf_at}
use Rattle.vw_merge.proofs.merging.leaf_with.Goals as goal

-- it is the word of the leaf at this place
pub returns-then-i-word : goal.returns-then-i-word
returns-then-i-word c = λ value. leaf_at value c.args.leaves.now c.loop-i.i c.args.word _ c.loop-i-test.true c.requires c.if-i-word.true
