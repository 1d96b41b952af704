-- Nets as they are printed.
use Rattle.std.specs.Prelude.{Option, option_map}
use Rattle.vw_design.specs.Paths.{Word, Net, printed}
use Rattle.vw_design.specs.NetFaults.{Unlike, Edged}
use Rattle.vw_net_faults.specs.declared.nets.Pair.{Pair}

-- a net as it is printed
abbrev pub printed_net : Option Net → Option Word
printed_net net = option_map printed net

-- two ports of the root, and two latches by the nets that they drive
abbrev pub ports_pair : Option (Unlike Word) → Option Pair
ports_pair ports = option_map (λ two. record { first = two.first; other = two.other }) ports

abbrev pub latches_pair : Option (Unlike Edged) → Option Pair
latches_pair latches = option_map (λ two. record { first = printed two.first.net; other = printed two.other.net }) latches
