use Rattle.std.proofs.Common.{get_or, rules}
use denote.Param.Send.{sendable}
use Rattle.vw_crew.specs.Groups.{AllAtWork, AllStay}
use Rattle.vw_crew.proofs.Sending.{group_send}
use Rattle.vw_crew.proofs.AfterRounds.{in_part, round_stays, round_works}
use Rattle.vw_crew.proofs.bursts.burst_all.Goals as goal

pub for_each_part-requires-send-X : goal.for_each_part-requires-send-X
for_each_part-requires-send-X g c κs within = search (sendable, group_send) depth 10

pub for_each_part-requires-clause-accepts : goal.for_each_part-requires-clause-accepts
for_each_part-requires-clause-accepts g c κs within = λ part among.
    let its : AllAtWork part.now = λ number group is.
    let there = among number group is in
    c.requires.work there.0 group there.1 in
    (its, search (sendable, rules))

pub returns-clause-work : goal.returns-clause-work
returns-clause-work g c = round_works c.args.groups.now c.for_each_part.new.s c.for_each_part.auto.s (λ number default below.
    let its = c.for_each_part.ensures number below in
    let kept : AllAtWork its.left.now × AllStay its.part.now its.left.now = its.call in
    in_part its.part.now its.left.now kept its.offset its.inside default (get_or c.args.groups.now number default) (get_or c.for_each_part.new.s number default) (its.old default) (its.new default))

pub returns-clause-stay : goal.returns-clause-stay
returns-clause-stay g c = round_stays c.args.groups.now c.for_each_part.new.s c.for_each_part.auto.s (λ number default below.
    let its = c.for_each_part.ensures number below in
    let kept : AllAtWork its.left.now × AllStay its.part.now its.left.now = its.call in
    in_part its.part.now its.left.now kept its.offset its.inside default (get_or c.args.groups.now number default) (get_or c.for_each_part.new.s number default) (its.old default) (its.new default))
