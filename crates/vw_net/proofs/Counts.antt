-- How many latches, start values, outputs and states there are.
use Rattle.std.proofs.Common.{◌≡◌, ◌≤◌, ◌+◌, ℕ, suc, Bool, List, [], ◌∷◌, ◌++◌, length, take, drop, ap, sym, refl, ◌∙◌, arith}
use Rattle.std.proofs.lemmas.List.{length-map, take-append-drop}
use Rattle.vw_net.specs.declared.cell.Cell.{Cell}
use Rattle.vw_net.specs.declared.cell.Cell.TheVariants.{Gate, Latch}
use Rattle.vw_net.specs.declared.flat.Flat.{Flat}
use Rattle.vw_net.specs.Cells.{latch_count, latch_inputs, start_values}
use Rattle.vw_net.specs.Value.{net_value}
use Rattle.vw_net.specs.History.{outputs_at, next_state, outputs_of, states_of, state_after}

-- the latches among some cells, and then more cells
pub latch_count-append : (cells more : List Cell) → latch_count (cells ++ more) ≡ latch_count cells + latch_count more
latch_count-append [] more = omega arith
latch_count-append (Gate ins cover ∷ cells) more = latch_count-append cells more
latch_count-append (Latch d init ∷ cells) more = omega (arith, latch_count-append cells more)

-- those before a place, and those from it on
pub latch_count-take_drop : (place : ℕ) (cells : List Cell) → latch_count (take place cells) + latch_count (drop place cells) ≡ latch_count cells
latch_count-take_drop place cells = sym (latch_count-append (take place cells) (drop place cells)) ∙ ap latch_count (take-append-drop place cells)

-- there are as many start values, and inputs of latches, as latches
pub length-start_values : (unknown : Bool) (cells : List Cell) → length (start_values unknown cells) ≡ latch_count cells
length-start_values unknown [] = refl
length-start_values unknown (Gate ins cover ∷ cells) = length-start_values unknown cells
length-start_values unknown (Latch d init ∷ cells) = ap suc (length-start_values unknown cells)

pub length-latch_inputs : (cells : List Cell) → length (latch_inputs cells) ≡ latch_count cells
length-latch_inputs [] = refl
length-latch_inputs (Gate ins cover ∷ cells) = length-latch_inputs cells
length-latch_inputs (Latch d init ∷ cells) = ap suc (length-latch_inputs cells)

-- and no more latches than cells
pub latch_count-le : (cells : List Cell) → latch_count cells ≤ length cells
latch_count-le [] = omega arith
latch_count-le (Gate ins cover ∷ cells) = omega (arith, latch_count-le cells)
latch_count-le (Latch d init ∷ cells) = omega (arith, latch_count-le cells)

-- a state has a bit for each latch, and the outputs of a clock one for each output
pub length-next_state : (flat : Flat) (row state : List Bool) → length (next_state flat row state) ≡ latch_count flat.cells
length-next_state flat row state = length-map (latch_inputs flat.cells) (net_value flat row state) ∙ length-latch_inputs flat.cells

pub length-outputs_at : (flat : Flat) (row state : List Bool) → length (outputs_at flat row state) ≡ length flat.outputs
length-outputs_at flat row state = length-map flat.outputs (net_value flat row state)

pub length-state_after : (flat : Flat) (state : List Bool) (rows : List (List Bool)) → length state ≡ latch_count flat.cells → length (state_after flat state rows) ≡ latch_count flat.cells
length-state_after flat state [] size = size
length-state_after flat state (row ∷ rows) size = length-state_after flat (next_state flat row state) rows (length-next_state flat row state)

-- a history has as many clocks as there are rows
pub length-outputs_of : (flat : Flat) (state : List Bool) (rows : List (List Bool)) → length (outputs_of flat state rows) ≡ length rows
length-outputs_of flat state [] = refl
length-outputs_of flat state (row ∷ rows) = ap suc (length-outputs_of flat (next_state flat row state) rows)

pub length-states_of : (flat : Flat) (state : List Bool) (rows : List (List Bool)) → length (states_of flat state rows) ≡ length rows
length-states_of flat state [] = refl
length-states_of flat state (row ∷ rows) = ap suc (length-states_of flat (next_state flat row state) rows)
