use Rattle.vw_merge.proofs.Carried.{input_further}
use Rattle.vw_merge.proofs.merging.input_nets.Goals as goal

pub loop-net-preserved : goal.loop-net-preserved
loop-net-preserved c = input_further c.loop-net.to.items c.push.new.self.items c.loop-net.net c.args.inputs c.loop-net-test.true c.in_ok-push.ensures.items c.loop-net.invariant
