-- What a cell reads, and the latches among cells.
use Rattle.std.specs.Prelude.{◌≡◌, ◌<◌, ℕ, zero, suc, Bool, true, false, List, [], ◌∷◌, length}
use Rattle.std.specs.List.{All}
use Rattle.vw_net.specs.declared.cell.Cell.{Cell}
use Rattle.vw_net.specs.declared.cell.Cell.TheVariants.{Gate, Latch}
use Rattle.vw_net.specs.declared.cell.Init.{Init}
use Rattle.vw_net.specs.declared.cell.Init.TheVariants.{Zero, One, Free}

-- the nets that a cell reads, in order
abbrev pub read_nets : Cell → List ℕ
read_nets (Gate ins cover) = ins
read_nets (Latch d init) = d ∷ []

-- how many nets it has to read: one for each input of a gate's table, and one for a latch
abbrev pub arity : Cell → ℕ
arity (Gate ins cover) = cover.inputs
arity (Latch d init) = 1

-- it reads as many nets as it has to, each of them below this number of nets
abbrev pub IsWellFormed : ℕ → Cell → Type 0
IsWellFormed nets cell = (length (read_nets cell) ≡ arity cell) × All (λ net. net < nets) (read_nets cell)

-- the value before the first clock
abbrev pub start_value : Bool → Init → Bool
start_value unknown Zero = false
start_value unknown One = true
start_value unknown Free = unknown

-- that of each latch, in the order of the cells
abbrev pub start_values : Bool → List Cell → List Bool
start_values unknown [] = []
start_values unknown (Gate ins cover ∷ cells) = start_values unknown cells
start_values unknown (Latch d init ∷ cells) = start_value unknown init ∷ start_values unknown cells

-- how many latches there are; among the cells before a latch, its number
abbrev pub latch_count : List Cell → ℕ
latch_count [] = zero
latch_count (Gate ins cover ∷ cells) = latch_count cells
latch_count (Latch d init ∷ cells) = suc (latch_count cells)

-- the net that each latch takes its next value from, in the order of the cells
abbrev pub latch_inputs : List Cell → List ℕ
latch_inputs [] = []
latch_inputs (Gate ins cover ∷ cells) = latch_inputs cells
latch_inputs (Latch d init ∷ cells) = d ∷ latch_inputs cells
