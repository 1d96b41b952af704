use Rattle.std.proofs.Common.{◌<◌, ◌≤◌, ◌+◌, length, sym, ap, ◌∙◌, subst, arith}
use Rattle.std.specs.Prelude.{vec_capacity}
use Rattle.vw_slots.specs.Slots.{Slots}
use Rattle.vw_slots.specs.Steps.PinUses.{used_at}
use Rattle.vw_slots.proofs.Taking.{KeptTable, IsFirstOpen, TakesPin, soon, few_used, first_free_is, taken_table}
use Rattle.vw_slots.proofs.slot_table.SlotTable.take_first.Goals as goal
use Rattle.vw_slots.proofs.slot_table.SlotTable.take_first.Goals.{After-first_free-at}

-- what is known once the first free microcycle is found
module _ (c : After-first_free-at) where
  abbrev table : KeptTable
  table = record {
    widths = c.self.inside.widths;
    taken = c.self.inside.taken.items;
    capacity = vec_capacity c.self.inside.taken;
    pin_uses = c.self.inside.pin_uses;
    spare = c.self.inside.spare;
    kept = c.self.invariant;
  }

  first_open : IsFirstOpen table c.args.link c.args.not_before c.first_free-at.result
  first_open = record {
    linked = subst (λ (slots : Slots). c.args.link < length slots.widths) (sym c.self.view_is) c.requires.link;
    in_time = c.first_free-at.ensures.in_time;
    busy = rw c.as_slice.ensures at c.first_free-at.ensures.busy;
    free = rw c.as_slice.ensures at c.first_free-at.ensures.free;
  }

  few : used_at table.pin_uses c.args.link c.first_free-at.result + 1 ≤ 64
  few = few_used table c.args.link c.args.not_before c.first_free-at.result first_open

  in_time : c.first_free-at.result ≤ c.args.not_before + length c.args.self.now.taken
  in_time =
      let counted = soon table c.args.link c.args.not_before c.first_free-at.result first_open in
      subst (λ (slots : Slots). c.first_free-at.result ≤ c.args.not_before + length slots.taken) c.self.view_is counted

pub take_pin-pin-requires-clause-few : goal.take_pin-pin-requires-clause-few
take_pin-pin-requires-clause-few c =
    let at_most = few (goal.at.take_pin-pin-requires-clause-few c).After-first_free-at in
    omega (arith, at_most, c.shorten.ensures.used c.args.link c.first_free-at.result)

pub take_pin-pin-requires-clause-early : goal.take_pin-pin-requires-clause-early
take_pin-pin-requires-clause-early c = omega (arith, in_time (goal.at.take_pin-pin-requires-clause-early c).After-first_free-at)

pub invariant_of-self : goal.invariant_of-self
invariant_of-self c =
    let before = (goal.at.invariant_of-self c).After-first_free-at in
    let middle = c.shorten.new.pin_uses in
    let after = c.take_pin-pin.new.pin_uses in
    let takes : TakesPin (table before) c.args.link c.first_free-at.result c.take_pin-pin.result middle after = record {
      as_many = c.shorten.ensures.used;
      chained = rw c.as_slice-2.ensures at c.shorten.ensures.chained;
      as_spare = c.shorten.ensures.spare;
      pin_is = c.take_pin-pin.ensures.pin;
      used = c.take_pin-pin.ensures.used;
      nexts = c.take_pin-pin.ensures.nexts;
      spare = c.take_pin-pin.ensures.spare;
    } in
    let some : 1 ≤ c.self.inside.spare = subst (λ (slots : Slots). 1 ≤ slots.spare) (sym c.self.view_is) c.requires.room in
    let taken = taken_table (table before) c.args.link c.args.not_before c.first_free-at.result (first_open before) in
    rw c.in-Ok.ensures.items (taken c.take_pin-pin.result middle after takes (vec_capacity c.push.new.self) c.in-Ok.ensures.capacity some)

pub returns-clause-first : goal.returns-clause-first
returns-clause-first c =
    let before = (goal.at.returns-clause-first c).After-first_free-at in
    let widths_are = ap (λ (slots : Slots). slots.widths) (sym c.self.view_is) in
    let taken_are = ap (λ (slots : Slots). slots.taken) (sym c.self.view_is) in
    let is_first = first_free_is (table before) c.args.link c.args.not_before c.first_free-at.result (first_open before) in
    is_first c.args.self.now widths_are taken_are c.take_pin-pin.result
    (c.take_pin-pin.ensures.pin ∙ c.shorten.ensures.used c.args.link c.first_free-at.result)

pub returns-clause-soon : goal.returns-clause-soon
returns-clause-soon c = in_time (goal.at.returns-clause-soon c).After-first_free-at
