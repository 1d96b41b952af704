-- A table of the slots of hops.
use Rattle.std.specs.Prelude.{◌≡◌, ◌==◌, ℕ, Bool, ◌&&◌, ◌++◌, List, Option, is_some}
use Rattle.std.specs.List.{list_any}
use Rattle.std.specs.HashMap as hash
use Rattle.vw_plan.specs.declared.wire.Hop.{Hop}
use Rattle.vw_plan.specs.Sound.{share_pin}

abbrev pub SlotKey : Type 0
SlotKey = (ℕ × ℕ) × (ℕ × ℕ)

abbrev pub is_slot : Hop → SlotKey → Bool
is_slot hop key = (hop.from == key.0.0 && hop.to == key.0.1) && (hop.pin == key.1.0 && hop.at == key.1.1)

-- what it has at the slot of a hop, and whether it has something
abbrev pub slot_in : {S : Type 0} → hash.HashMap SlotKey (Unit {0}) S → Hop → Option (Unit {0})
slot_in table hop = hash.get_by (is_slot hop) table

abbrev pub is_used : {S : Type 0} → hash.HashMap SlotKey (Unit {0}) S → Hop → Bool
is_used table hop = is_some (slot_in table hop)

-- it has the slots of these hops, and no other
abbrev pub HasSlots : {S : Type 0} → List Hop → hash.HashMap SlotKey (Unit {0}) S → Type 0
HasSlots hops table = (hop : Hop) → is_used table hop ≡ list_any (share_pin hop) hops

-- the slots of some hops have been added
abbrev pub AddsSlots : {S : Type 0} → List Hop → hash.HashMap SlotKey (Unit {0}) S → hash.HashMap SlotKey (Unit {0}) S → Type 0
AddsSlots more before after = (hops : List Hop) → HasSlots hops before → HasSlots (hops ++ more) after
