use Rattle.vw_world.specs.Lanes.{SeenLanes}
use Rattle.vw_world.proofs.LaneAnswers.{put_fits, put_is}
use Rattle.vw_world.proofs.lanes.LanesEnds.put.Goals as goal

pub put-requires : goal.put-requires
put-requires c =
    let all : SeenLanes = record { job = c.self.inside.job.now; node = c.self.inside.node; lanes = c.self.inside.lanes.items } in
    put_fits all c.args.self.now c.self.view_is c.self.invariant c.args.link c.index_mut.result.now c.index_mut.ensures.value c.args.word c.requires

pub invariant_of-self : goal.invariant_of-self
invariant_of-self c =
    let all : SeenLanes = record { job = c.self.inside.job.now; node = c.self.inside.node; lanes = c.self.inside.lanes.items } in
    let answers = put_is all c.args.self.now c.self.view_is c.self.invariant c.args.link c.index_mut.result.now c.index_mut.ensures.value in
    (answers c.args.word c.requires c.put.result c.put.new.self c.put.ensures.answer c.put.ensures.put).0

pub returns : goal.returns
returns c =
    let all : SeenLanes = record { job = c.self.inside.job.now; node = c.self.inside.node; lanes = c.self.inside.lanes.items } in
    let answers = put_is all c.args.self.now c.self.view_is c.self.invariant c.args.link c.index_mut.result.now c.index_mut.ensures.value in
    (answers c.args.word c.requires c.put.result c.put.new.self c.put.ensures.answer c.put.ensures.put).1
