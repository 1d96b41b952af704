use Rattle.std.proofs.Common.{◌≡◌, ◌<◌, ℕ, List, Some, option_map, slice_get, refl, sym, subst}
use Rattle.std.specs.List.{All, AllZip}
use Rattle.vw_design.specs.Limits.{cell_count}
use Rattle.vw_design.specs.Paths.{Word}
use Rattle.vw_design.specs.Preorder.{cells}
use Rattle.vw_flat.specs.Printed.{printed_site}
use Rattle.vw_order.specs.Faults.{IsOrderFault}
use Rattle.vw_order.specs.Loops.{IsListedLoop}
use Rattle.vw_front.proofs.NetlistLoops.{within_cells, loop_named}
use Rattle.vw_front.proofs.netlist.loop_fault.Goals as goal

-- the numbers are those of gates
pub nets_of-requires : goal.nets_of-requires
nets_of-requires c =
    let design = c.args.elaborated.now in
    let loop : IsListedLoop c.args.flat.now c.in-Loop.numbers = subst (IsOrderFault c.args.flat.now) c.in-Loop.is c.requires.fault in
    subst (All (λ (number : ℕ). number < cell_count design)) (sym c.as_slice.ensures) (within_cells design c.requires.flat.0 c.args.flat.now c.requires.flat.1 c.in-Loop.numbers loop)

-- the loop of the netlist is one of the design
pub returns-in-Ok : goal.returns-in-Ok
returns-in-Ok c =
    let design = c.args.elaborated.now in
    let loop : IsListedLoop c.args.flat.now c.in-Loop.numbers = subst (IsOrderFault c.args.flat.now) c.in-Loop.is c.requires.fault in
    let Named = λ (numbers : List ℕ) (names : List Word). AllZip (λ (number : ℕ) (name : Word). option_map printed_site (slice_get (cells design) number) ≡ Some name) numbers names in
    let names : Named c.in-Loop.numbers c.in-Ok.names.items = subst (λ (numbers : List ℕ). Named numbers c.in-Ok.names.items) c.as_slice.ensures c.in-Ok.ensures in
    let of = loop_named design c.requires.flat.0 c.args.flat.now c.requires.flat.1 c.in-Loop.numbers loop c.of.result (subst (Named c.in-Loop.numbers) (sym c.of.ensures) names) in
    (c.of.result, refl, of)
