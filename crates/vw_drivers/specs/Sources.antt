-- What drives a net, by numbers. Source: this project.
use Rattle.std.specs.Prelude.{List, Option, Some, None, option_map}
use Rattle.vw_design.specs.declared.design.Design.{Design}
use Rattle.vw_design.specs.Drivers.{Source as PathSource, at_port, at_cell}
use Rattle.vw_design.specs.Preorder.{cells}
use Rattle.vw_design.specs.PathValue.{place_of_site}
use Rattle.vw_drivers.specs.Firsts.{First, number_named}
use Rattle.vw_drivers.specs.declared.source.Source.{Source}
use Rattle.vw_drivers.specs.declared.source.Source.TheVariants.{Port, Cell}

-- the numbers of a driver, given the claimed names of the root: of a port that of its claim there, of a cell its place
-- among the cells
abbrev pub source_of : Design → List First → Option PathSource → Option Source
source_of design root None = None
source_of design root (Some (at_port name)) = option_map (λ number. Port number) (number_named root name)
source_of design root (Some (at_cell path item)) = option_map (λ number. Cell number) (place_of_site (cells design) path item)
