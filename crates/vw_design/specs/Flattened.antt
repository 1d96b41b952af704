-- What it is for a flat netlist to be that of a design, some of whose nets are watched: each net that is read or watched
-- has the number of its driver.
use Rattle.std.specs.Prelude.{◌≡◌, ℕ, ◌+◌, List, length, map, Option, Some, None, option_map}
use Rattle.std.specs.List.{AllZip}
use Rattle.vw_net.specs.declared.cell.Cell.{Cell}
use Rattle.vw_net.specs.declared.cell.Cell.TheVariants.{Gate, Latch}
use Rattle.vw_net.specs.declared.cover.Cover.{Cover}
use Rattle.vw_net.specs.declared.flat.Flat.{Flat}
use Rattle.vw_design.specs.declared.item.Item.{Item}
use Rattle.vw_design.specs.declared.item.Item.TheVariants.{Names, Latch as LatchItem, Sub}
use Rattle.vw_design.specs.declared.design.Design.{Design}
use Rattle.vw_design.specs.Paths.{Word, Path, Net}
use Rattle.vw_design.specs.Drivers.{Source, at_port, at_cell, driver}
use Rattle.vw_design.specs.Preorder.{cells}
use Rattle.vw_design.specs.Clocks.{columns}
use Rattle.vw_design.specs.Probes.{shown_nets}
use Rattle.vw_design.specs.PathValue.{place_of_name, place_of_site}

-- the number of a driver: of a column, its place among the columns; of a cell, as many more as there are columns; a
-- clock port and a missing driver have none
abbrev pub number_of_source : Design → Option Source → Option ℕ
number_of_source design None = None
number_of_source design (Some (at_port name)) = place_of_name (columns design) name
number_of_source design (Some (at_cell path number)) =
    option_map (λ place. length (columns design) + place) (place_of_site (cells design) path number)

-- the number of a net
abbrev pub number_of : Design → Path → Word → Option ℕ
number_of design path name = number_of_source design (driver design path name)

-- a table is another one: as many inputs, the same value where a row matches, and the same rows
pub record IsTableOf (cover table : Cover) : Type 0 where
  pub inputs : table.inputs ≡ cover.inputs
  pub on : table.on ≡ cover.on
  pub rows : table.rows ≡ cover.rows

-- a cell of a netlist is that of an item: its nets have the numbers of the item's names, and its table or its initial
-- value is the item's
abbrev pub IsCellOf : Design → Path → Item → Cell → Type 0
IsCellOf design path (Names line ins out cover) (Gate nets table) = (map (number_of design path) ins ≡ map (λ net. Some net) nets) × IsTableOf cover table
IsCellOf design path (Names line ins out cover) (Latch net start) = ⊥
IsCellOf design path (LatchItem line d q edge control init) (Gate nets table) = ⊥
IsCellOf design path (LatchItem line d q edge control init) (Latch net start) = (number_of design path d ≡ Some net) × (start ≡ init)
IsCellOf design path (Sub line model binds) (Gate nets table) = ⊥
IsCellOf design path (Sub line model binds) (Latch net start) = ⊥

-- the inputs are the columns, the cells are those of the design in preorder, and the outputs have the numbers of the
-- root's outputs and then of the watched nets
pub record IsFlatOf (design : Design) (watched : List Net) (flat : Flat) : Type 0 where
  pub inputs : flat.inputs ≡ length (columns design)
  pub cells : AllZip (λ site cell. IsCellOf design site.path site.item cell) (cells design) flat.cells
  pub outputs : map (λ net. number_of design net.path net.name) (shown_nets design watched) ≡ map (λ net. Some net) flat.outputs
