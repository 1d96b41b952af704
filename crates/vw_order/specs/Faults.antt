-- Why a netlist has no order.
use Rattle.vw_net.specs.declared.flat.Flat.{Flat}
use Rattle.vw_order.specs.declared.gate_order.OrderFault.{OrderFault}
use Rattle.vw_order.specs.declared.gate_order.OrderFault.TheVariants.{Loop, NoMemory}
use Rattle.vw_order.specs.Loops.{IsListedLoop}

-- gates read each other in a loop. Want of memory says nothing of the netlist
abbrev pub IsOrderFault : Flat → OrderFault → Type 0
IsOrderFault flat (Loop numbers) = IsListedLoop flat numbers
IsOrderFault flat NoMemory = Unit {0}
