-- Orders in which gates can be worked out.
use Rattle.std.specs.Prelude.{◌≡◌, ◌≢◌, ◌<◌, ◌-◌, ◌==◌, ℕ, Bool, true, false, ◌||◌, List, [], length, take, slice_index, slice_get, Option, Some, None, IsTrue, nat_lt}
use Rattle.std.specs.List.{list_any, list_all}
use Rattle.vw_net.specs.declared.cell.Cell.{Cell}
use Rattle.vw_net.specs.declared.cell.Cell.TheVariants.{Gate, Latch}
use Rattle.vw_net.specs.Cells.{read_nets}

-- what stands at a cell number: a gate, a latch, or nothing
abbrev pub is_gate : Option Cell → Bool
is_gate None = false
is_gate (Some (Gate ins cover)) = true
is_gate (Some (Latch d init)) = false

abbrev pub is_latch : Option Cell → Bool
is_latch None = false
is_latch (Some (Gate ins cover)) = false
is_latch (Some (Latch d init)) = true

-- the nets that it reads
abbrev pub read_nets_at : Option Cell → List ℕ
read_nets_at None = []
read_nets_at (Some cell) = read_nets cell

-- the nets that a gate reads; an input and a latch rest on none within a clock
abbrev pub gate_inputs : Option Cell → List ℕ
gate_inputs None = []
gate_inputs (Some (Gate ins cover)) = ins
gate_inputs (Some (Latch d init)) = []

abbrev pub is_among : List ℕ → ℕ → Bool
is_among numbers number = list_any (λ other. other == number) numbers

-- whether a net has its value once these gates are done: an input's net, a latch's, or that of one of the gates
abbrev pub is_ready : ℕ → List Cell → List ℕ → ℕ → Bool
is_ready inputs cells done net = nat_lt net inputs || (is_latch (slice_get cells (net - inputs)) || is_among done (net - inputs))

-- the order lists each gate once, and no latch; each gate stands after the gates whose nets it reads
pub record IsOrder (inputs : ℕ) (cells : List Cell) (order : List ℕ) : Type 0 where
  pub each : (number : ℕ) → is_gate (slice_get cells number) ≡ is_among order number
  pub once : (i j : ℕ) → i < j → j < length order → slice_index order i ≢ slice_index order j
  pub after : (i : ℕ) → i < length order → IsTrue (list_all (is_ready inputs cells (take i order)) (read_nets_at (slice_get cells (slice_index order i))))
