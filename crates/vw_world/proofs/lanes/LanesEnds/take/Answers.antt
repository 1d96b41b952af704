use Rattle.vw_world.specs.Lanes.{SeenLanes}
use Rattle.vw_world.proofs.LaneAnswers.{take_fits, take_is}
use Rattle.vw_world.proofs.lanes.LanesEnds.take.Goals as goal

pub take-requires : goal.take-requires
take-requires c =
    let all : SeenLanes = record { job = c.self.inside.job.now; node = c.self.inside.node; lanes = c.self.inside.lanes.items } in
    take_fits all c.args.self.now c.self.view_is c.self.invariant c.args.link c.index_mut.result.now c.index_mut.ensures.value c.requires

pub invariant_of-self : goal.invariant_of-self
invariant_of-self c =
    let all : SeenLanes = record { job = c.self.inside.job.now; node = c.self.inside.node; lanes = c.self.inside.lanes.items } in
    let answers = take_is all c.args.self.now c.self.view_is c.self.invariant c.args.link c.index_mut.result.now c.index_mut.ensures.value in
    (answers c.requires c.take.result c.take.new.self c.take.ensures).0

pub returns : goal.returns
returns c =
    let all : SeenLanes = record { job = c.self.inside.job.now; node = c.self.inside.node; lanes = c.self.inside.lanes.items } in
    let answers = take_is all c.args.self.now c.self.view_is c.self.invariant c.args.link c.index_mut.result.now c.index_mut.ensures.value in
    (answers c.requires c.take.result c.take.new.self c.take.ensures).1
