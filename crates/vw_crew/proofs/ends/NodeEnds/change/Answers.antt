use Rattle.std.proofs.Common.{◌∙◌}
use Rattle.vw_crew.proofs.OwnEnds.{change_done, had}
use Rattle.vw_crew.proofs.ends.NodeEnds.change.Goals as goal

pub invariant_of-self : goal.invariant_of-self
invariant_of-self g c =
    (change_done g.T.PutEnd.seen g.U.TakeEnd.seen c.self.inside.job.value c.self.inside.node c.self.inside.puts.items c.self.inside.takes.items c.args.link c.args.self.now c.self.view_is c.self.invariant c.requires.inside
    c.replace-put_was.new.dest c.args.put c.replace-put_was.ensures.after c.replace-take_was.new.dest c.args.take c.replace-take_was.ensures.after c.requires).0

pub returns-clause-had : goal.returns-clause-had
returns-clause-had g c =
    had g.T.PutEnd.seen g.U.TakeEnd.seen c.self.inside.job.value c.self.inside.node c.self.inside.puts.items c.self.inside.takes.items c.args.link c.args.self.now c.self.view_is c.self.invariant c.requires.inside
    c.index_mut.result.now c.replace-put_was.result (c.replace-put_was.ensures.value ∙ c.index_mut.ensures.value) c.index_mut-2.result.now c.replace-take_was.result (c.replace-take_was.ensures.value ∙ c.index_mut-2.ensures.value)

pub returns-clause-now : goal.returns-clause-now
returns-clause-now g c =
    (change_done g.T.PutEnd.seen g.U.TakeEnd.seen c.self.inside.job.value c.self.inside.node c.self.inside.puts.items c.self.inside.takes.items c.args.link c.args.self.now c.self.view_is c.self.invariant c.requires.inside
    c.replace-put_was.new.dest c.args.put c.replace-put_was.ensures.after c.replace-take_was.new.dest c.args.take c.replace-take_was.ensures.after c.requires).1
