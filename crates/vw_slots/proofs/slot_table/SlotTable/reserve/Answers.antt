use Rattle.std.proofs.Common.{◌≤◌, ◌+◌, length, ap, arith}
use Rattle.std.specs.Prelude.{vec_capacity}
use Rattle.std.specs.HashMap as hash
use Rattle.vw_slots.proofs.Taking.{KeptTable, reordered_table}
use Rattle.vw_slots.proofs.slot_table.SlotTable.reserve.Goals as goal

-- where the list of taken slots has no room, the table is as it was
pub invariant_of-self-in_err-reserve-2 : goal.invariant_of-self-in_err-reserve-2
invariant_of-self-in_err-reserve-2 c =
    let table : KeptTable = record {
      widths = c.self.inside.widths;
      taken = c.self.inside.taken.items;
      capacity = vec_capacity c.self.inside.taken;
      pin_uses = c.self.inside.pin_uses;
      spare = c.self.inside.spare;
      kept = c.self.invariant;
    } in
    let had : c.self.inside.spare ≤ hash.spare c.self.inside.pin_uses = c.self.invariant.places in
    let room : length c.self.inside.taken.items + c.self.inside.spare ≤ vec_capacity c.self.inside.taken = c.self.invariant.room in
    let kept = reordered_table table c.reserve.new.self c.reserve.ensures.entries.2 (vec_capacity c.reserve-2.new.self) c.self.inside.spare in
    rw c.reserve-2.ensures.items (kept (omega (arith, c.reserve.ensures.spare)) (omega (arith, c.reserve-2.ensures.capacity)))

pub invariant_of-self-2 : goal.invariant_of-self-2
invariant_of-self-2 c =
    let table : KeptTable = record {
      widths = c.self.inside.widths;
      taken = c.self.inside.taken.items;
      capacity = vec_capacity c.self.inside.taken;
      pin_uses = c.self.inside.pin_uses;
      spare = c.self.inside.spare;
      kept = c.self.invariant;
    } in
    let room : length c.self.inside.taken.items + c.args.more ≤ vec_capacity c.reserve-2.new.self =
    omega (arith, c.in_ok-reserve-2.ensures.ok, c.reserve-2.ensures.len, ap length c.reserve-2.ensures.items) in
    let kept = reordered_table table c.reserve.new.self c.reserve.ensures.entries.2 (vec_capacity c.reserve-2.new.self) c.args.more in
    rw c.reserve-2.ensures.items (kept c.in_ok-reserve.ensures.ok room)
