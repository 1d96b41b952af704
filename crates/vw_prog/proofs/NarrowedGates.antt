-- Gates with as much room as the widest needs.
use Rattle.std.proofs.Common.{◌≡◌, ◌≤◌, ◌∷◌, ℕ, List, [], map, slice_get, Some, ap, refl, subst, ◌∙◌, All, arith}
use Rattle.std.specs.Global.{Vec}
use Rattle.std.proofs.lemmas.Option.{get_or_from_slice_get, slice_get_within}
use Rattle.vw_prog.specs.declared.gates.Gates.TheVariants.{Four, Six, Two}
use Rattle.vw_prog.specs.declared.gates.PaddedGate.{PaddedGate}
use Rattle.vw_prog.specs.declared.gates.TableGate.{TableGate}
use Rattle.vw_prog.specs.SeenGates.{AreNarrowed, SeenGate, narrow_gate, narrowed, seen_gate}

seen_narrowed : (room : ℕ) (list : List PaddedGate) → map (seen_gate room) (map (narrow_gate room) list) ≡ map (narrowed room) list
seen_narrowed room [] = refl
seen_narrowed room (gate ∷ list) = ap (λ (rest : List SeenGate). narrowed room gate ∷ rest) (seen_narrowed room list)

within_at : (room : ℕ) (list : List PaddedGate) → All (λ gate. gate.inputs ≤ room) list → (place : ℕ) (gate : PaddedGate)
    → slice_get list place ≡ Some gate → gate.inputs ≤ 6 → gate.inputs ≤ room
within_at room list all place gate at few = subst (λ (own : PaddedGate). own.inputs ≤ room) (get_or_from_slice_get list place gate gate at) (all place gate (slice_get_within list place gate at))

pub are_two : (list : List PaddedGate) (gates : Vec (TableGate 2)) → gates.items ≡ map (narrow_gate 2) list
    → All (λ gate. gate.inputs ≤ 2) list → AreNarrowed list (Two gates)
are_two list gates are all = record { room = 2; few = omega arith; are = ap (map (seen_gate 2)) are ∙ seen_narrowed 2 list; enough = within_at 2 list all }

pub are_four : (list : List PaddedGate) (gates : Vec (TableGate 4)) → gates.items ≡ map (narrow_gate 4) list
    → All (λ gate. gate.inputs ≤ 4) list → AreNarrowed list (Four gates)
are_four list gates are all = record { room = 4; few = omega arith; are = ap (map (seen_gate 4)) are ∙ seen_narrowed 4 list; enough = within_at 4 list all }

pub are_six : (list : List PaddedGate) (gates : Vec (TableGate 6)) → gates.items ≡ map (narrow_gate 6) list → AreNarrowed list (Six gates)
are_six list gates are = record { room = 6; few = omega arith; are = ap (map (seen_gate 6)) are ∙ seen_narrowed 6 list; enough = λ place gate at few. few }
