-- What tables of pairs are made from, and a table of pins.
use Rattle.std.specs.Prelude.{◌≡◌, ◌==◌, ℕ, Bool, ◌&&◌, List, map, Option, option_map}
use Rattle.std.specs.HashMap as hash
use Rattle.vw_plan.specs.declared.need.Need.{Need}
use Rattle.vw_plan.specs.declared.wire.Hop.{Hop}
use Rattle.vw_check.specs.HopFaults.{PlacedHop, first_sharing}

-- ---- what the pairs are

abbrev pub need_pairs : List Need → List (ℕ × ℕ)
need_pairs needs = map (λ need. (need.net, need.to)) needs

-- ---- pins in use

abbrev pub PinKey : Type 0
PinKey = (ℕ × ℕ) × (ℕ × ℕ)

abbrev pub is_pin : Hop → PinKey → Bool
is_pin hop key = (hop.from == key.0.0 && hop.to == key.0.1) && (hop.pin == key.1.0 && hop.at == key.1.1)

abbrev pub user_in : {S : Type 0} → hash.HashMap PinKey (ℕ × ℕ) S → Hop → Option (ℕ × ℕ)
user_in table hop = hash.get_by (is_pin hop) table

-- it has the wire and the number of the first of these hops that has each pin
abbrev pub HasFirstHops : {S : Type 0} → List PlacedHop → hash.HashMap PinKey (ℕ × ℕ) S → Type 0
HasFirstHops placed table = (hop : Hop) → user_in table hop ≡ option_map (λ earlier. (earlier.wire, earlier.number)) (first_sharing placed hop)
