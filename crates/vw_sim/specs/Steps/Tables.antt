-- Gates whose tables have at most six inputs, each with room for the same number of nets.
use Rattle.std.specs.Prelude.{◌<◌, ℕ, ◌+◌, Bool, List, [], ◌∷◌, ◌++◌, length, drop, map, replicate, nat_le, slice_get, slice_set, Option, Some, None, if◌then◌else◌}
use Rattle.std.specs.List.{All}
use Rattle.vw_net.specs.declared.cell.Cell.{Cell}
use Rattle.vw_net.specs.declared.cell.Cell.TheVariants.{Gate, Latch}
use Rattle.vw_net.specs.Order.{gate_inputs}
use Rattle.vw_net.specs.TruthTable.{bit_of, place_of, truth_table}
use Rattle.vw_sim.specs.declared.kept.TableStep.{TableStep}
use Rattle.vw_sim.specs.Steps.Values.{bits_at}

-- the nets of a gate where there is room for them, and net 0 in each place that is left
abbrev pub kept_reads : ℕ → List ℕ → List ℕ
kept_reads room nets = if nat_le (length nets) room then nets ++ drop (length nets) (replicate room 0) else replicate room 0

-- how the cell that drives a net is kept: its nets, its own net, and its truth table
abbrev pub table_step : (room : ℕ) → ℕ → Option Cell → TableStep room
table_step room net None = record { reads = replicate room 0; net = net; truth_table = 0 }
table_step room net (Some (Gate ins cover)) = record { reads = kept_reads room ins; net = net; truth_table = truth_table cover }
table_step room net (Some (Latch d init)) = record { reads = replicate room 0; net = net; truth_table = 0 }

-- the gates of an order
abbrev pub table_steps : (room : ℕ) → ℕ → List Cell → List ℕ → List (TableStep room)
table_steps room inputs cells order = map (λ number. table_step room (inputs + number) (slice_get cells number)) order

-- whether a gate reads and drives nets among so many
pub record IsWithin (room nets : ℕ) (step : TableStep room) : Type 0 where
  pub reads : All (λ net. net < nets) step.reads
  pub net : step.net < nets

-- the values after these gates were worked out, one after the other
abbrev pub with_steps : (room : ℕ) → List (TableStep room) → List Bool → List Bool
with_steps room [] values = values
with_steps room (step ∷ steps) values = with_steps room steps (slice_set values step.net (bit_of step.truth_table (place_of (bits_at values step.reads))))

-- the places at which an order, from this place on, lists a gate that reads more nets than there is room for
abbrev pub wide_places : ℕ → List Cell → ℕ → List ℕ → List ℕ
wide_places room cells place [] = []
wide_places room cells place (number ∷ order) = if nat_le (length (gate_inputs (slice_get cells number))) room then wide_places room cells (place + 1) order else place ∷ wide_places room cells (place + 1) order
