use Rattle.std.proofs.Common.{◌≡◌, Some, ap, sym, ◌∙◌}
use Rattle.std.specs.Option.{option_copied_mut}
use Rattle.vw_slots.specs.declared.pin_use.PinUse.{PinUse}
use Rattle.vw_slots.specs.Steps.PinUses.{pin_use_at, used_of}
use Rattle.vw_slots.proofs.WrittenPinUses.{used_kept, next_put}
use Rattle.vw_slots.proofs.pin_use.set_next.Goals as goal

-- what was lent is what is kept there
lent_pin_use : (c : goal.After-pin_uses-1) → Some c.unwrap-pin_use.result.now ≡ pin_use_at c.args.pin_uses.now c.args.link c.args.at
lent_pin_use c = ap option_copied_mut (sym c.unwrap-pin_use.ensures) ∙ c.get_mut.ensures.value

pub returns-clause-used : goal.returns-clause-used
returns-clause-used c =
    let new : PinUse = record { used = c.unwrap-pin_use.result.now.used; next = c.args.next } in
    let put = ((c.get_mut.follows.holds new).3 c.requires).0 in
    used_kept c.args.pin_uses.now (c.get_mut.follows.lender new) c.args.link c.args.at new put (ap used_of (lent_pin_use c))

pub returns-clause-nexts : goal.returns-clause-nexts
returns-clause-nexts c =
    let new : PinUse = record { used = c.unwrap-pin_use.result.now.used; next = c.args.next } in
    let put = ((c.get_mut.follows.holds new).3 c.requires).0 in
    next_put c.args.pin_uses.now (c.get_mut.follows.lender new) c.args.link c.args.at new put
