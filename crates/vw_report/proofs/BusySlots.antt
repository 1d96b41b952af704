-- Slots in a table, hop by hop.
use Rattle.std.proofs.Common.{◌≡◌, ◌<◌, ◌+◌, ◌||◌, ◌&&◌, ◌++◌, ◌∙◌, ℕ, Bool, true, false, List, [], ◌∷◌, length, drop, get_or, cond, eqb, is_some, Option, None, Some, ap, ap₂, refl, sym, subst, append_assoc, append-nil}
use Rattle.std.specs.List.{flat_map}
use Rattle.std.specs.HashMap as hash
use Rattle.std.proofs.Math.Bool.{or-false}
use Rattle.std.proofs.lemmas.List.{drop_more}
use Rattle.std.proofs.lemmas.List.Folds.{list_any-append}
use Rattle.vw_net.proofs.Orders.{eqb_comm}
use Rattle.vw_plan.specs.declared.wire.Hop.{Hop}
use Rattle.vw_plan.specs.declared.wire.Wire.{Wire}
use Rattle.vw_plan.specs.Sound.{share_pin}
use Rattle.vw_report.specs.Steps.Busy.{AddsSlots, HasSlots, SlotKey, is_used}

pub share_comm : (one other : Hop) → share_pin one other ≡ share_pin other one
share_comm one other = rw (eqb_comm one.from other.from, eqb_comm one.to other.to, eqb_comm one.pin other.pin, eqb_comm one.at other.at) refl

put_there : (shared : Bool) (before : Option (Unit {0})) → is_some (cond shared (Some tt) before) ≡ (is_some before || shared)
put_there true None = refl
put_there true (Some done) = refl
put_there false None = refl
put_there false (Some done) = refl

-- a table into which the slot of a hop is put
pub slot_added : {S : Type 0} (old new : hash.HashMap SlotKey (Unit {0}) S) (hop : Hop)
    → ((other : Hop) → is_used new other ≡ (is_used old other || share_pin hop other)) → AddsSlots (hop ∷ []) old new
slot_added old new hop put hops has other =
    put other
    ∙ ap₂ (λ (before here : Bool). before || here) (has other) (share_comm hop other ∙ sym (or-false (share_pin other hop)))
    ∙ sym (list_any-append (share_pin other) hops (hop ∷ []))

pub share_parts : (from to pin at : ℕ) (hop other : Hop) → from ≡ hop.from → to ≡ hop.to → pin ≡ hop.pin → at ≡ hop.at
    → ((eqb from other.from && eqb to other.to) && (eqb pin other.pin && eqb at other.at)) ≡ share_pin hop other
share_parts from to pin at hop other from_is to_is pin_is at_is = rw (from_is, to_is, pin_is, at_is) refl

-- what an insert says of it
pub put_used : (shared : Bool) (before after : Option (Unit {0})) → after ≡ cond shared (Some tt) before → is_some after ≡ (is_some before || shared)
put_used shared before after is = ap (λ (found : Option (Unit {0})). is_some found) is ∙ put_there shared before

-- so far the slots of some hops are there, and the rest of the hops is left
pub record AreSlotsSoFar {S : Type 0} (table : hash.HashMap SlotKey (Unit {0}) S) (left all : List Hop) : Type 0 where
  pub before : List Hop
  pub has : HasSlots before table
  pub whole : before ++ left ≡ all

module _ {S : Type 0} (all : List Hop) (old new : hash.HashMap SlotKey (Unit {0}) S) where
  pub next_hop : (hops : List Hop) (place : ℕ) (hop : Hop) → place < length hops → hop ≡ get_or hops place hop → AddsSlots (hop ∷ []) old new
      → AreSlotsSoFar old (drop place hops) all → AreSlotsSoFar new (drop (place + 1) hops) all
  next_hop hops place hop within is adds so = record {
    before = so.before ++ hop ∷ [];
    has = adds so.before so.has;
    whole = append_assoc so.before (hop ∷ []) (drop (place + 1) hops)
        ∙ ap (λ (left : List Hop). so.before ++ left) (sym (drop_more hops place hop within ∙ ap (λ (one : Hop). one ∷ drop (place + 1) hops) (sym is))) ∙ so.whole;
  }

  pub next_wire : (wires : List Wire) (place : ℕ) (wire : Wire) → place < length wires → wire ≡ get_or wires place wire → AddsSlots wire.hops old new
      → AreSlotsSoFar old (flat_map (λ (one : Wire). one.hops) (drop place wires)) all → AreSlotsSoFar new (flat_map (λ (one : Wire). one.hops) (drop (place + 1) wires)) all
  next_wire wires place wire within is adds so =
      let hops_in : List Wire → List Hop = λ list. flat_map (λ (one : Wire). one.hops) list in
      record {
        before = so.before ++ wire.hops;
        has = adds so.before so.has;
        whole = append_assoc so.before wire.hops (hops_in (drop (place + 1) wires))
            ∙ ap (λ (left : List Hop). so.before ++ left) (sym (ap hops_in (drop_more wires place wire within ∙ ap (λ (one : Wire). one ∷ drop (place + 1) wires) (sym is)))) ∙ so.whole;
      }

-- in the end those of all
pub slots_end : {S : Type 0} (table : hash.HashMap SlotKey (Unit {0}) S) (all : List Hop) → AreSlotsSoFar table [] all → HasSlots all table
slots_end table all so = subst (λ (hops : List Hop). HasSlots hops table) (sym (append-nil so.before) ∙ so.whole) so.has
