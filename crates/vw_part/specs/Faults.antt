-- Why cells can't be dealt to chips.
use Rattle.std.specs.Prelude.{◌≡◌, ◌<◌, ◌*◌, length}
use Rattle.vw_net.specs.declared.flat.Flat.{Flat}
use Rattle.vw_plan.specs.declared.board.Board.{Board}
use Rattle.vw_part.specs.declared.fault.PartFault.{PartFault}
use Rattle.vw_part.specs.declared.fault.PartFault.TheVariants.{TooManyCells, NoMemory}

-- there are more cells than all chips together have room for; nothing is said of the memory
abbrev pub IsPartFault : Flat → Board → PartFault → Type 0
IsPartFault flat board (TooManyCells cells room) =
    (cells ≡ length flat.cells) × (room ≡ board.chips * board.cells) × (room < cells)
IsPartFault flat board NoMemory = Unit {0}
