-- A design that runs has a netlist with an order of its gates, and gates in a circle lead to a loop as it is listed.
use Rattle.std.proofs.Common.{◌≤◌, ℕ, List, [], length, map, ◌⊎◌, inl, inr, ⊎_elim, refl, arith}
use Rattle.vw_net.specs.declared.flat.Flat.{Flat}
use Rattle.vw_net.specs.declared.ordered.Ordered.{Ordered}
use Rattle.vw_net.specs.Order.{IsOrder}
use Rattle.vw_design.specs.declared.design.Design.{Design}
use Rattle.vw_design.specs.Paths.{Word, Net}
use Rattle.vw_design.specs.Accepted.{IsAccepted}
use Rattle.vw_design.specs.Flattened.{IsFlatOf}
use Rattle.vw_design.specs.Loops.{Gate, gate_at, IsLoop}
use Rattle.vw_design.proofs.Ordered.{loop_free}
use Rattle.vw_order.specs.Steps.Gates.{gates}
use Rattle.vw_order.proofs.Inputs.{within}
use Rattle.vw_order.proofs.OrderOrCircle.{order_or_circle}
use Rattle.vw_order.proofs.OrderedGates.{is_order}
use Rattle.vw_order.proofs.Loops.{is_loop}
use Rattle.vw_flat.proofs.FlatNetlists.{flat_of}
use Rattle.vw_front.specs.Designs.{Runs, IsNetlistOf, IsLoopOf}
use Rattle.vw_front.specs.declared.named.NamedNetlist.{NamedNetlist}
use Rattle.vw_front.specs.Names.{net_names, output_names}
use Rattle.vw_front.specs.NamedNetlists.{IsNamedNetlistOf}
use Rattle.vw_front.proofs.NameLists.{all_named}
use Rattle.vw_front.proofs.NetlistLoops.{loop_of}

-- the gates of a netlist have an order, or the design has a loop
order_or_loop : (design : Design) (watched : List Net) (flat : Flat) → IsFlatOf design watched flat → ((order : List ℕ) × IsOrder flat.inputs flat.cells order) ⊎ ((names : List Word) × IsLoopOf design names)
order_or_loop design watched flat is = ⊎_elim
    (λ found. inl (found.0, is_order flat found.0 found.1))
    (λ circle. inr (loop_of design watched flat is circle.0 (is_loop flat circle.0 circle.1 circle.2)))
    (order_or_circle (gates flat) (within flat))

-- where the design has no loop there is an order
pub netlist_of : (probes : List Word) (text : List ℕ) → Runs probes text → length probes ≤ 65 → (ordered : Ordered) × IsNetlistOf probes text ordered
netlist_of probes text (watched, is) few =
    let flat = flat_of watched.design is.design_of.accepted probes watched.nets is.found few in
    ⊎_elim
    (λ order. (record { flat = flat.0; order = order.0; is_order = order.1 }, record { watched = watched; is = is; flat = flat.1 }))
    (λ loop. absurd (is.design_of.loop_free (map gate_at loop.1.gates) loop.1.loop))
    (order_or_loop watched.design watched.nets flat.0 flat.1)

-- and the netlist can be given the names of its nets
pub named_netlist_of : (probes : List Word) (text : List ℕ) → Runs probes text → length probes ≤ 65 → (named : NamedNetlist) × IsNamedNetlistOf probes text named
named_netlist_of probes text runs few =
    let made = netlist_of probes text runs few in
    let ordered = made.0 in
    let is = made.1 in
    let design = is.watched.design in (
      record { ordered = ordered; nets = net_names design; outputs = output_names design; all_named = all_named design is.watched.nets ordered.flat is.flat },
      record { watched = is.watched; is = is.is; flat = is.flat; nets = refl; outputs = refl },
    )

-- where gates read each other in a circle there is no order
pub listed_loop : (design : Design) → IsAccepted design → (circle : List Gate) → IsLoop design circle → (names : List Word) × IsLoopOf design names
listed_loop design accepted circle loop =
    let flat = flat_of design accepted [] [] tt (omega arith) in
    ⊎_elim (λ order. absurd (loop_free design accepted [] flat.0 flat.1 order.0 order.1 circle loop)) (λ listed. listed) (order_or_loop design [] flat.0 flat.1)
