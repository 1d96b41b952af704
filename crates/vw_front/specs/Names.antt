-- The names of the nets of a design, as messages and texts print them.
use Rattle.std.specs.Prelude.{List, ◌++◌, map}
use Rattle.vw_design.specs.declared.design.Design.{Design}
use Rattle.vw_design.specs.Paths.{Word, printed}
use Rattle.vw_design.specs.NetReads.{root_outputs}
use Rattle.vw_design.specs.Clocks.{columns}
use Rattle.vw_design.specs.Preorder.{cells, latches}
use Rattle.vw_flat.specs.Printed.{printed_site}

-- those of all nets of its netlist, by their numbers: the columns, and behind them the nets that the cells drive
abbrev pub net_names : Design → List Word
net_names design = columns design ++ map printed_site (cells design)

-- those of the outputs of the root
abbrev pub output_names : Design → List Word
output_names design = map printed (root_outputs design)

-- those of the signals of a wave: the outputs of the root, then the probes, then the nets that the latches drive
abbrev pub signal_names : List Word → Design → List Word
signal_names probes design = output_names design ++ (probes ++ map printed_site (latches design))
