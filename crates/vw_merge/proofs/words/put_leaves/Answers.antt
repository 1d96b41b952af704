use Rattle.std.proofs.Common.{arith}
use Rattle.vw_merge.proofs.GatheredWords.{leaf_more}
use Rattle.vw_merge.proofs.words.put_leaves.Goals as goal

-- a leaf's word stands at its place
pub loop-i-preserved : goal.loop-i-preserved
loop-i-preserved c = λ flat. leaf_more flat c.args.leaves.now c.loop-i.words.items c.push.new.self.items c.loop-i.i _ _ c.loop-i-test.true c.requires.few (omega (arith, c.loop-i-test.true)) (omega (arith, c.loop-i-test.true)) (c.loop-i.invariant flat) c.in_ok-push.ensures.items
