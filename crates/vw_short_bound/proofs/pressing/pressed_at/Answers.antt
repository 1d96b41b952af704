use Rattle.std.proofs.Common.{◌≡◌, max, slice_index, rules}
use Rattle.vw_bound.specs.Given.{design_in}
use Rattle.vw_short_bound.specs.Steps.Inlets.{IsClassOf}
use Rattle.vw_short_bound.proofs.InletTimes.{class_at, times_at, times_long}
use Rattle.vw_short_bound.proofs.PlanFacts.{greater_presses}
use Rattle.vw_short_bound.proofs.PressedInlets.{pressing}
use Rattle.vw_short_bound.proofs.pressing.pressed_at.Goals as goal

pub loop-class-preserved : goal.loop-class-preserved
loop-class-preserved c =
    let placed = design_in c.args.placed.now in
    let soon = c.args.soon.now in
    let node = c.args.node in
    let nets = c.args.inlets.now.nets in
    let row = c.args.row.now in
    let times = c.in_ok-times.times.items in
    let class = c.class-item.result in
    let is_class : IsClassOf placed node nets class = class_at placed node nets c.args.inlets.now.classes c.classes-class-items.result.now c.loop-class.class-index class c.requires.inlets.each c.classes-class-items.ensures c.loop-class-test.true c.class-item.is in
    let greater : c.max-most.result ≡ max c.loop-class.most c.pressed.result = search rules in
    let forced = rw (c.deref.ensures.value, c.members.ensures, c.pins.ensures) at c.pressed.ensures in
    let presses = pressing placed soon times row class.members nets node class.source class.pins c.pressed.result c.requires.soon c.requires.inlets.needed is_class (times_long placed (slice_index soon) node nets c.nets.result.now times c.in_ok-times.ensures.times c.nets.ensures) (times_at placed (slice_index soon) node nets c.nets.result.now times c.in_ok-times.ensures.times c.nets.ensures) forced in
    greater_presses placed node nets row c.loop-class.most c.pressed.result c.max-most.result greater c.loop-class.invariant presses
