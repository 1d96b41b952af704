-- The names of the nets that latches drive.
use Rattle.std.specs.Prelude.{List, [], ◌∷◌}
use Rattle.vw_net.specs.declared.cell.Cell.{Cell}
use Rattle.vw_net.specs.declared.cell.Cell.TheVariants.{Gate, Latch}
use Rattle.vw_design.specs.Paths.{Word}

-- the names of the latches among cells, where each cell has the name that stands at its place
abbrev pub latch_names : List Cell → List Word → List Word
latch_names [] names = []
latch_names (cell ∷ cells) [] = []
latch_names (Gate ins cover ∷ cells) (name ∷ names) = latch_names cells names
latch_names (Latch d init ∷ cells) (name ∷ names) = name ∷ latch_names cells names
