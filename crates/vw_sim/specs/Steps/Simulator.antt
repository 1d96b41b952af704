-- What a simulator keeps of a netlist with an order.
use Rattle.std.specs.Prelude.{ℕ, ◌+◌, ◌≡◌, List, [], ◌∷◌}
use Rattle.vw_net.specs.declared.cell.Cell.{Cell}
use Rattle.vw_net.specs.declared.cell.Cell.TheVariants.{Gate, Latch}
use Rattle.vw_net.specs.declared.ordered.Ordered.{Ordered}
use Rattle.vw_net.specs.Cells.{latch_inputs}
use Rattle.vw_sim.specs.declared.tables.Tables.{Tables}
use Rattle.vw_sim.specs.declared.tables.Tables.TheVariants.{Two, Four, Six}
use Rattle.vw_sim.specs.Steps.Tables.{table_steps, wide_places}

-- the nets of the latches among cells whose first one drives this net
abbrev pub latch_nets : ℕ → List Cell → List ℕ
latch_nets first [] = []
latch_nets first (Gate ins cover ∷ cells) = latch_nets (first + 1) cells
latch_nets first (Latch d init ∷ cells) = first ∷ latch_nets (first + 1) cells

-- how many nets the gates have room for
abbrev pub room_of : Tables → ℕ
room_of (Two steps) = 2
room_of (Four steps) = 4
room_of (Six steps) = 6

-- whether these are the gates of an ordered netlist
abbrev pub AreTables : Ordered → Tables → Type 0
AreTables ordered (Two steps) = steps.items ≡ table_steps 2 ordered.flat.inputs ordered.flat.cells ordered.order
AreTables ordered (Four steps) = steps.items ≡ table_steps 4 ordered.flat.inputs ordered.flat.cells ordered.order
AreTables ordered (Six steps) = steps.items ≡ table_steps 6 ordered.flat.inputs ordered.flat.cells ordered.order

-- the gates, the places of those that there is no room for, the nets of the latches, and the nets that the latches take
pub record AreSimulatorTables (ordered : Ordered) (tables : Tables) (wide drive take : List ℕ) : Type 0 where
  pub tables_are : AreTables ordered tables
  pub wide_are : wide ≡ wide_places (room_of tables) ordered.flat.cells 0 ordered.order
  pub latches : drive ≡ latch_nets ordered.flat.inputs ordered.flat.cells
  pub taken : take ≡ latch_inputs ordered.flat.cells
