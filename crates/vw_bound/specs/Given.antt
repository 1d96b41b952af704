-- The design, the board and the chips that a bound is worked out for.
use Rattle.vw_bound.specs.declared.placed.Placed.{Placed}
use Rattle.vw_bound.specs.PlacedDesigns.{PlacedDesign, placed_design}

abbrev pub design_in : Placed → PlacedDesign
design_in placed = placed_design placed.ordered.now placed.board.now placed.chip_of.now
