-- Why a design is refused: its fault, by what a message tells of it. Of circles any one may be told.
use Rattle.std.specs.Prelude.{◌≡◌, Bool, true, false}
use Rattle.vw_design.specs.declared.design.Design.{Design}
use Rattle.vw_design.specs.Paths.{Word, Net, printed}
use Rattle.vw_design.specs.NetFaults.{Unlike, Edged}
use Rattle.vw_design.specs.Limits.{limit_of}
use Rattle.vw_design.specs.Accepted.{Fault, model_unknown, recursive, formal_unknown, input_unbound, output_both_ways, over_limit, net_undriven, driven_twice, clock_gated, clocks_differ, edges_differ, clock_read, IsFaultOf}
use Rattle.vw_instances.specs.Quantities.{counted_of}
use Rattle.vw_elab.specs.declared.fault.DesignFault.{DesignFault}
use Rattle.vw_elab.specs.declared.fault.DesignFault.TheVariants.{UnknownModel, RecursiveModel, UnknownFormal, UnboundInput, BothWays, TooBig, Undriven, TwoDrivers, GatedClock, SeveralClocks, SeveralEdges, ClockAsData, NoMemory}

-- the fault of a design with such a net, as it is printed
abbrev pub HasNet : Design → (Net → Fault) → Word → Type 0
HasNet design fault text = (net : Net) × IsFaultOf design (fault net) × (text ≡ printed net)

-- the fault of a design with two such latches, by the nets that they drive
abbrev pub HasUnlikeLatches : Design → Word → Word → Type 0
HasUnlikeLatches design first other =
    (latches : Unlike Edged) × IsFaultOf design (edges_differ latches) × (first ≡ printed latches.first.net) × (other ≡ printed latches.other.net)

-- what is told is the fault of the design; want of memory tells nothing of it
abbrev pub IsRefusal : Design → DesignFault → Type 0
IsRefusal design (UnknownModel line) = IsFaultOf design (model_unknown line)
IsRefusal design (RecursiveModel names) = IsFaultOf design (recursive names)
IsRefusal design (UnknownFormal line formal) = IsFaultOf design (formal_unknown (record { line = line; name = formal }))
IsRefusal design (UnboundInput line formal) = IsFaultOf design (input_unbound (record { line = line; name = formal }))
IsRefusal design (BothWays model name) = IsFaultOf design (output_both_ways (record { model = model; name = name }))
IsRefusal design (TooBig quantity limit) = IsFaultOf design (over_limit (counted_of quantity)) × (limit ≡ limit_of (counted_of quantity))
IsRefusal design (Undriven net) = HasNet design (λ n. net_undriven n) net
IsRefusal design (TwoDrivers net) = HasNet design (λ n. driven_twice n) net
IsRefusal design (GatedClock net) = HasNet design (λ n. clock_gated n) net
IsRefusal design (SeveralClocks first other) = IsFaultOf design (clocks_differ (record { first = first; other = other }))
IsRefusal design (SeveralEdges first other) = HasUnlikeLatches design first other
IsRefusal design (ClockAsData net) = HasNet design (λ n. clock_read n) net
IsRefusal design NoMemory = Unit {0}

-- whether a fault lies in the design; want of memory doesn't
abbrev pub is_design_fault : DesignFault → Bool
is_design_fault (UnknownModel line) = true
is_design_fault (RecursiveModel names) = true
is_design_fault (UnknownFormal line formal) = true
is_design_fault (UnboundInput line formal) = true
is_design_fault (BothWays model name) = true
is_design_fault (TooBig quantity limit) = true
is_design_fault (Undriven net) = true
is_design_fault (TwoDrivers net) = true
is_design_fault (GatedClock net) = true
is_design_fault (SeveralClocks first other) = true
is_design_fault (SeveralEdges first other) = true
is_design_fault (ClockAsData net) = true
is_design_fault NoMemory = false
