-- Gates with room for the same number of reads, as they are seen.
use Rattle.std.proofs.Common.{◌≡◌, ◌<◌, ◌≤◌, ◌-◌, ◌∷◌, ℕ, zero, suc, List, [], length, map, get_or, take, drop, ap, refl, sym, subst, ◌∙◌, All, arith}
use Rattle.std.specs.Global.{Vec}
use Rattle.std.specs.List.{slice_range}
use Rattle.std.proofs.lemmas.List.{get_or-map, length-drop, length-map, length-take}
use Rattle.vw_prog.specs.declared.gates.Gates.{Gates}
use Rattle.vw_prog.specs.declared.gates.Gates.TheVariants.{Four, Six, Two}
use Rattle.vw_prog.specs.declared.gates.TableGate.{TableGate}
use Rattle.vw_prog.specs.SeenGates.{seen_gate, seen_gates}
use Rattle.vw_node.specs.Slots.{ReadsWithin}

map_drop : {A B : Type 0} (f : A → B) (count : ℕ) (xs : List A) → drop count (map f xs) ≡ map f (drop count xs)
map_drop f zero xs = refl
map_drop f (suc count) [] = refl
map_drop f (suc count) (x ∷ xs) = map_drop f count xs

map_take : {A B : Type 0} (f : A → B) (count : ℕ) (xs : List A) → take count (map f xs) ≡ map f (take count xs)
map_take f zero xs = refl
map_take f (suc count) [] = refl
map_take f (suc count) (x ∷ xs) = ap (λ (rest : List _). f x ∷ rest) (map_take f count xs)

pub range_seen : (room : ℕ) (gates : List (TableGate room)) (first end : ℕ)
    → slice_range (map (seen_gate room) gates) first end ≡ map (seen_gate room) (slice_range gates first end)
range_seen room gates first end = ap (take (end - first)) (map_drop (seen_gate room) first gates) ∙ map_take (seen_gate room) (end - first) (drop first gates)

pub range_long : (room : ℕ) (gates : List (TableGate room)) (first end : ℕ) → first ≤ end → end ≤ length (map (seen_gate room) gates)
    → length (slice_range gates first end) ≡ end - first
range_long room gates first end order within = omega (arith, order, within, length-map gates (seen_gate room), length-take (end - first) (drop first gates), length-drop first gates)

pub gate_within : (room slots place : ℕ) (gates : List (TableGate room)) (gate : TableGate room)
    → All (ReadsWithin slots) (map (seen_gate room) gates) → place < length gates → gate ≡ get_or gates place gate
    → ReadsWithin slots (seen_gate room gate)
gate_within room slots place gates gate all within is =
    subst (ReadsWithin slots) (get_or-map (seen_gate room) gates place gate (seen_gate room gate) within ∙ ap (seen_gate room) (sym is)) (all place (seen_gate room gate) (omega (arith, within, length-map gates (seen_gate room))))

pub seen_two : (gates : Gates) (list : Vec (TableGate 2)) (items : List (TableGate 2)) → gates ≡ Two list → items ≡ list.items
    → seen_gates gates ≡ map (seen_gate 2) items
seen_two gates list items is are = ap seen_gates is ∙ ap (map (seen_gate 2)) (sym are)

pub seen_four : (gates : Gates) (list : Vec (TableGate 4)) (items : List (TableGate 4)) → gates ≡ Four list → items ≡ list.items
    → seen_gates gates ≡ map (seen_gate 4) items
seen_four gates list items is are = ap seen_gates is ∙ ap (map (seen_gate 4)) (sym are)

pub seen_six : (gates : Gates) (list : Vec (TableGate 6)) (items : List (TableGate 6)) → gates ≡ Six list → items ≡ list.items
    → seen_gates gates ≡ map (seen_gate 6) items
seen_six gates list items is are = ap seen_gates is ∙ ap (map (seen_gate 6)) (sym are)
