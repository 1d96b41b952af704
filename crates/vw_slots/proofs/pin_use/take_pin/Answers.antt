use Rattle.std.proofs.Common.{sym}
use Rattle.vw_slots.proofs.WrittenPinUses.{used_put, next_kept}
use Rattle.vw_slots.proofs.pin_use.take_pin.Goals as goal

pub returns-clause-used : goal.returns-clause-used
returns-clause-used c =
    rw (sym c.pin_use_of-pin_use.ensures.used) (used_put c.args.pin_uses.now c.insert.new.self c.args.link c.args.at _ c.in-Ok.ensures.updates.0)

pub returns-clause-nexts : goal.returns-clause-nexts
returns-clause-nexts c =
    next_kept c.args.pin_uses.now c.insert.new.self c.args.link c.args.at _ c.in-Ok.ensures.updates.0 c.pin_use_of-pin_use.ensures.next
