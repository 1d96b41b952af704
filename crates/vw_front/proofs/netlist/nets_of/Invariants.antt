use Rattle.std.proofs.Common.{◌≡◌, Some, option_map, take, slice_get}
use Rattle.std.specs.List.{AllZip}
use Rattle.vw_design.specs.Preorder.{cells}
use Rattle.vw_flat.specs.Printed.{printed_site}
use Rattle.vw_front.proofs.netlist.nets_of.Given as goal

-- so many nets are named
abbrev pub invariant-loop-number : goal.invariant-loop-number
invariant-loop-number l =
    AllZip (λ number name. option_map printed_site (slice_get (cells l.elaborated) number) ≡ Some name) (take l.number-index l.numbers) l.names.items
