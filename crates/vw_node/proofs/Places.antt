-- Places of bits in truth tables.
use Rattle.std.proofs.Common.{◌<◌, ◌≤◌, ℕ, Bool, List, length, map, drop, arith}
use Rattle.std.proofs.lemmas.List.{length-drop, length-map}
use Rattle.vw_net.specs.TruthTable.{place_of}
use Rattle.vw_net.proofs.TruthTables.{place_of-below}

-- the place of the bits from some slot on
pub rest_below : (value : ℕ → Bool) (slots : List ℕ) (i : ℕ) → length slots ≤ 6 → place_of (map value (drop i slots)) < 64
rest_below value slots i few = place_of-below (map value (drop i slots)) (omega (arith, few, length-map (drop i slots) value, length-drop i slots))
