use Rattle.std.proofs.Common.{Bool, Some, cond, ap, ◌∙◌}
use Rattle.vw_plan.specs.Sound.{share_pin}
use Rattle.vw_report.specs.Steps.Busy.{slot_in}
use Rattle.vw_report.proofs.BusySlots.{put_used, share_parts, slot_added}
use Rattle.vw_report.proofs.busy.BusyPins.add.Goals as goal

pub returns : goal.returns
returns c =
    let hop = c.args.hop.now in
    let old = c.args.self.now.slots in
    let new = c.insert.new.self in
    slot_added old new hop
    (λ other. put_used (share_pin hop other) (slot_in old other) (slot_in new other)
    (c.in_ok-insert.ensures.updates.0 ((other.from, other.to), (other.pin, other.at))
    ∙ ap (λ (shared : Bool). cond shared (Some tt) (slot_in old other)) (share_parts c.from.result c.to.result c.pin.result c.at.result hop other c.from.ensures c.to.ensures c.pin.ensures c.at.ensures)))
