-- Designs that are accepted, and the first fault of one that isn't. The faults are tried in the order of their numbers,
-- each over the whole design before the next.
use Rattle.std.specs.Prelude.{◌≡◌, ℕ, List, Option, Some, None, option_map}
use Rattle.std.specs.Option.{option_or}
use Rattle.vw_design.specs.declared.design.Design.{Design}
use Rattle.vw_design.specs.Paths.{Word, Net}
use Rattle.vw_design.specs.ModelFaults.{NameAt, NameOf, unknown_model, IsModelCircle, unknown_formal, unbound_input, port_both_ways}
use Rattle.vw_design.specs.Limits.{IsSmall, Counted, too_big}
use Rattle.vw_design.specs.NetFaults.{Unlike, Edged, undriven, two_drivers, gated_clock, several_clocks, several_edges, clock_as_data}

-- none of the faults of models is there, so that the design has its instances and its drivers
pub record HasNoModelFault (design : Design) : Type 0 where
  pub models_known : unknown_model design ≡ None
  pub no_circle : (names : List Word) → IsModelCircle design names → ⊥
  pub formals_known : unknown_formal design ≡ None
  pub inputs_bound : unbound_input design ≡ None
  pub one_way : port_both_ways design ≡ None
  pub small : IsSmall design

-- none of the faults is there
pub record IsAccepted (design : Design) : Type 0 where
  pub models : HasNoModelFault design
  pub driven : undriven design ≡ None
  pub one_driver : two_drivers design ≡ None
  pub clocks_free : gated_clock design ≡ None
  pub one_clock : several_clocks design ≡ None
  pub one_edge : several_edges design ≡ None
  pub no_clock_read : clock_as_data design ≡ None

-- a fault, with its place
pub data Fault : Type 0 where
  model_unknown : (line : ℕ) → Fault
  recursive : (names : List Word) → Fault
  formal_unknown : (formal : NameAt) → Fault
  input_unbound : (formal : NameAt) → Fault
  output_both_ways : (output : NameOf) → Fault
  over_limit : (counted : Counted) → Fault
  net_undriven : (net : Net) → Fault
  driven_twice : (net : Net) → Fault
  clock_gated : (net : Net) → Fault
  clocks_differ : (ports : Unlike Word) → Fault
  edges_differ : (latches : Unlike Edged) → Fault
  clock_read : (net : Net) → Fault

-- the first of the faults behind the circle
abbrev pub fault_of_models : Design → Option Fault
fault_of_models design =
    option_or (option_map (λ formal. formal_unknown formal) (unknown_formal design))
    (option_or (option_map (λ formal. input_unbound formal) (unbound_input design))
    (option_or (option_map (λ output. output_both_ways output) (port_both_ways design)) (option_map (λ counted. over_limit counted) (too_big design))))

abbrev pub fault_of_nets : Design → Option Fault
fault_of_nets design =
    option_or (option_map (λ net. net_undriven net) (undriven design))
    (option_or (option_map (λ net. driven_twice net) (two_drivers design))
    (option_or (option_map (λ net. clock_gated net) (gated_clock design))
    (option_or (option_map (λ ports. clocks_differ ports) (several_clocks design))
    (option_or (option_map (λ list. edges_differ list) (several_edges design)) (option_map (λ net. clock_read net) (clock_as_data design))))))

abbrev pub further_fault : Design → Option Fault
further_fault design = option_or (fault_of_models design) (fault_of_nets design)

-- a fault behind the circle is the design's where no model is unknown, no circle is there, and it is the first
pub record IsFurtherFault (design : Design) (fault : Fault) : Type 0 where
  pub models_known : unknown_model design ≡ None
  pub no_circle : (names : List Word) → IsModelCircle design names → ⊥
  pub first : further_fault design ≡ Some fault

-- what it is for a fault to be the design's
abbrev pub IsFaultOf : Design → Fault → Type 0
IsFaultOf design (model_unknown line) = unknown_model design ≡ Some line
IsFaultOf design (recursive names) = (unknown_model design ≡ None) × IsModelCircle design names
IsFaultOf design (formal_unknown formal) = IsFurtherFault design (formal_unknown formal)
IsFaultOf design (input_unbound formal) = IsFurtherFault design (input_unbound formal)
IsFaultOf design (output_both_ways output) = IsFurtherFault design (output_both_ways output)
IsFaultOf design (over_limit counted) = IsFurtherFault design (over_limit counted)
IsFaultOf design (net_undriven net) = IsFurtherFault design (net_undriven net)
IsFaultOf design (driven_twice net) = IsFurtherFault design (driven_twice net)
IsFaultOf design (clock_gated net) = IsFurtherFault design (clock_gated net)
IsFaultOf design (clocks_differ ports) = IsFurtherFault design (clocks_differ ports)
IsFaultOf design (edges_differ list) = IsFurtherFault design (edges_differ list)
IsFaultOf design (clock_read net) = IsFurtherFault design (clock_read net)
