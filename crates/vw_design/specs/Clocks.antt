-- Clock ports and columns. One clock for the whole design, which no text of stimuli drives, is this project's profile
-- of BLIF.
use Rattle.std.specs.Prelude.{not, List, [], ◌++◌, Option, Some, None, filter, filter_map}
use Rattle.vw_design.specs.declared.model.Model.{Model}
use Rattle.vw_design.specs.declared.design.Design.{Design}
use Rattle.vw_design.specs.Distinct.{has_name}
use Rattle.vw_design.specs.Paths.{Word, model_at}
use Rattle.vw_design.specs.Drivers.{Source, at_port, at_cell, driver}
use Rattle.vw_design.specs.NetReads.{controls}

-- the root port that a driver is
abbrev pub port_of : Option Source → Option Word
port_of None = None
port_of (Some (at_port name)) = Some name
port_of (Some (at_cell path item)) = None

-- the root ports that drive the controls, in preorder
abbrev pub control_ports : Design → List Word
control_ports design = filter_map (λ net. port_of (driver design net.path net.name)) (controls design)

-- the inputs of a model; none where there is no model
abbrev pub inputs_of : Option Model → List Word
inputs_of None = []
inputs_of (Some model) = model.inputs

-- the clocks of a model; none where there is no model
abbrev pub clocks_of : Option Model → List Word
clocks_of None = []
clocks_of (Some model) = model.clocks

-- the `.clock` names of the root, used or not, and the ports to which controls lead
unfoldable pub clock_ports : Design → List Word
clock_ports design = clocks_of (model_at design []) ++ control_ports design

-- the columns of a stimulus: the inputs of the root that are no clock ports, in order
unfoldable pub columns : Design → List Word
columns design = filter (λ name. not (has_name (clock_ports design) name)) (inputs_of (model_at design []))
