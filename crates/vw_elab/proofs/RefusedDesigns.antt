-- What refuses a design, and that an accepted one isn't refused.
use Rattle.std.proofs.Common.{◌≡◌, Result, true, true≢false, sym}
use Rattle.std.specs.Result.{IsErr, IsErrAnd}
use Rattle.std.proofs.lemmas.Result.{err_from_is_err_and}
use Rattle.vw_design.specs.declared.design.Design.{Design}
use Rattle.vw_design.specs.Accepted.{IsAccepted, Fault, model_unknown, recursive, formal_unknown, input_unbound, output_both_ways, over_limit, net_undriven, driven_twice, clock_gated, clocks_differ, edges_differ, clock_read, IsFaultOf}
use Rattle.vw_design.proofs.FaultLaws.{accepted_fine}
use Rattle.vw_instances.specs.Quantities.{counted_of}
use Rattle.vw_elab.specs.declared.fault.DesignFault.{DesignFault}
use Rattle.vw_elab.specs.declared.fault.DesignFault.TheVariants.{UnknownModel, RecursiveModel, UnknownFormal, UnboundInput, BothWays, TooBig, Undriven, TwoDrivers, GatedClock, SeveralClocks, SeveralEdges, ClockAsData, NoMemory}
use Rattle.vw_elab.specs.Refusals.{IsRefusal, is_design_fault}
use Rattle.vw_elab.specs.Steps.FaultSearch.{IsMadeOrRefused}

-- an error that refuses the design
pub judged_by : {A : Type 0} (design : Design) (Good : A → Type 0) (result : Result A DesignFault) (fault : DesignFault)
    → IsErr result × IsErrAnd result (λ told. told ≡ fault) → IsRefusal design fault → IsMadeOrRefused design Good result
judged_by design Good result fault told is = let p = err_from_is_err_and result told.1 in rw (p.1, p.2) is

-- a refusal is a fault
refusal_is : (design : Design) (fault : DesignFault) → is_design_fault fault ≡ true → IsRefusal design fault → (its : Fault) × IsFaultOf design its
refusal_is design (UnknownModel line) real is = (model_unknown line, is)
refusal_is design (RecursiveModel names) real is = (recursive names, is)
refusal_is design (UnknownFormal line formal) real is = (formal_unknown (record { line = line; name = formal }), is)
refusal_is design (UnboundInput line formal) real is = (input_unbound (record { line = line; name = formal }), is)
refusal_is design (BothWays model name) real is = (output_both_ways (record { model = model; name = name }), is)
refusal_is design (TooBig quantity limit) real is = (over_limit (counted_of quantity), is.0)
refusal_is design (Undriven net) real is = (net_undriven is.0, is.1)
refusal_is design (TwoDrivers net) real is = (driven_twice is.0, is.1)
refusal_is design (GatedClock net) real is = (clock_gated is.0, is.1)
refusal_is design (SeveralClocks first other) real is = (clocks_differ (record { first = first; other = other }), is)
refusal_is design (SeveralEdges first other) real is = (edges_differ is.0, is.1)
refusal_is design (ClockAsData net) real is = (clock_read is.0, is.1)
refusal_is design NoMemory real is = absurd (true≢false (sym real))

pub accepted_unrefused : (design : Design) → IsAccepted design → (fault : DesignFault) → is_design_fault fault ≡ true → IsRefusal design fault → ⊥
accepted_unrefused design accepted fault real is = let its = refusal_is design fault real is in accepted_fine design accepted its.0 its.1
