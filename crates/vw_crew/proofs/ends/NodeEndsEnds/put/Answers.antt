use Rattle.std.proofs.lemmas.Option.{slice_get_within}
use Rattle.vw_crew.proofs.OwnEnds.{put_called}
use Rattle.vw_crew.proofs.ends.NodeEndsEnds.put.Goals as goal

pub invariant_of-self : goal.invariant_of-self
invariant_of-self g c =
    (put_called g.T.PutEnd.seen g.U.TakeEnd.seen c.self.inside.job.value c.self.inside.node c.self.inside.puts.items c.self.inside.takes.items c.args.link c.args.self.now c.self.view_is c.self.invariant (slice_get_within c.args.self.now.job.checked.board.links c.args.link c.requires.leaves.0 c.requires.leaves.1)
    c.index_mut.result.now c.index_mut.result.now c.index_mut.ensures.value c.in-Some.end c.put.new.self c.put.result c.in-Some.is c.put.ensures).0

pub returns : goal.returns
returns g c =
    (put_called g.T.PutEnd.seen g.U.TakeEnd.seen c.self.inside.job.value c.self.inside.node c.self.inside.puts.items c.self.inside.takes.items c.args.link c.args.self.now c.self.view_is c.self.invariant (slice_get_within c.args.self.now.job.checked.board.links c.args.link c.requires.leaves.0 c.requires.leaves.1)
    c.index_mut.result.now c.index_mut.result.now c.index_mut.ensures.value c.in-Some.end c.put.new.self c.put.result c.in-Some.is c.put.ensures).1
