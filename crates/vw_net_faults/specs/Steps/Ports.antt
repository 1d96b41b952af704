-- Ports of the root by the numbers of their claims.
use Rattle.std.specs.Prelude.{ℕ, ◌==◌, Bool, false, List, [], ◌++◌, filter_map, Option, Some, None}
use Rattle.vw_design.specs.declared.item.Item.{Item}
use Rattle.vw_design.specs.declared.design.Design.{Design}
use Rattle.vw_design.specs.Clocks.{port_of, inputs_of, clocks_of}
use Rattle.vw_design.specs.Drivers.{driver}
use Rattle.vw_design.specs.Paths.{Word, Path, model_at}
use Rattle.vw_design.specs.NetReads.{controls_of}
use Rattle.vw_drivers.specs.declared.source.Source.{Source}
use Rattle.vw_drivers.specs.declared.source.Source.TheVariants.{Port, Cell}

-- the port that a driver is, by its number
abbrev pub port_number : Option Source → Option ℕ
port_number None = None
port_number (Some (Port number)) = Some number
port_number (Some (Cell number)) = None

-- the ports of the root that drive the control of an item
abbrev pub item_ports : Design → Path → Item → List Word
item_ports design path item = filter_map (λ name. port_of (driver design path name)) (controls_of item)

-- whether a number that was found is this one
abbrev pub is_found_number : Option ℕ → ℕ → Bool
is_found_number None number = false
is_found_number (Some found) number = found == number

-- the ports of the root
abbrev pub root_ports : Design → List Word
root_ports design = inputs_of (model_at design []) ++ clocks_of (model_at design [])
