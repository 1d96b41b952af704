-- The gates of a node by their truth tables, whatever room they have. Source: this project.
use Rattle.std.specs.Prelude.{◌≡◌, ◌≤◌, ℕ, List, map, take, slice_get, Some}
use Rattle.vw_prog.specs.declared.gates.Gates.{Gates}
use Rattle.vw_prog.specs.declared.gates.Gates.TheVariants.{Four, Six, Two}
use Rattle.vw_prog.specs.declared.gates.PaddedGate.{PaddedGate}
use Rattle.vw_prog.specs.declared.gates.TableGate.{TableGate}

-- a gate: the slots that it reads, and its truth table
pub record SeenGate : Type 0 where
  pub reads : List ℕ
  pub truth_table : ℕ

abbrev pub seen_gate : (room : ℕ) → TableGate room → SeenGate
seen_gate room gate = record { reads = gate.reads; truth_table = gate.truth_table }

abbrev pub seen_gates : Gates → List SeenGate
seen_gates (Two gates) = map (seen_gate 2) gates.items
seen_gates (Four gates) = map (seen_gate 4) gates.items
seen_gates (Six gates) = map (seen_gate 6) gates.items

-- a gate with room for so many reads
abbrev pub narrow_gate : (room : ℕ) → PaddedGate → TableGate room
narrow_gate room gate = record { reads = take room gate.reads; truth_table = gate.truth_table }

abbrev pub narrowed : ℕ → PaddedGate → SeenGate
narrowed room gate = record { reads = take room gate.reads; truth_table = gate.truth_table }

-- gates with room for the inputs of each that has at most six
pub record AreNarrowed (list : List PaddedGate) (gates : Gates) : Type 0 where
  pub room : ℕ
  pub few : room ≤ 6
  pub are : seen_gates gates ≡ map (narrowed room) list
  pub enough : (place : ℕ) (gate : PaddedGate) → slice_get list place ≡ Some gate → gate.inputs ≤ 6 → gate.inputs ≤ room
