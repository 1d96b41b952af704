-- The message line of each fault of a design, with the end of the line.
use Rattle.std.specs.Prelude.{ℕ, List, [], ◌∷◌, ◌++◌, codes}
use Rattle.std.specs.Fmt.{decimal}
use Rattle.vw_instances.specs.Quantities.{quantity_word}
use Rattle.vw_elab.specs.MessageLines.{at_line_of_name, of_net, of_pair, spaced}
use Rattle.vw_elab.specs.declared.fault.DesignFault.{DesignFault}
use Rattle.vw_elab.specs.declared.fault.DesignFault.TheVariants.{UnknownModel, RecursiveModel, UnknownFormal, UnboundInput, BothWays, TooBig, Undriven, TwoDrivers, GatedClock, SeveralClocks, SeveralEdges, ClockAsData, NoMemory}

abbrev pub fault_text : DesignFault → List ℕ
fault_text (UnknownModel line) = at_line_of_name 13 line (codes "unknown model") []
fault_text (RecursiveModel names) = codes "design 14: recursive models" ++ spaced names ++ 10 ∷ []
fault_text (UnknownFormal line formal) = at_line_of_name 15 line (codes "unknown formal ") formal
fault_text (UnboundInput line formal) = at_line_of_name 16 line (codes "unbound input ") formal
fault_text (BothWays model name) = codes "design 17: model " ++ model ++ codes ": " ++ name ++ (codes " is input and output" ++ 10 ∷ [])
fault_text (TooBig quantity limit) = codes "design 18: more than " ++ decimal limit ++ 32 ∷ quantity_word quantity ++ 10 ∷ []
fault_text (Undriven net) = of_net 19 (codes "undriven ") net
fault_text (TwoDrivers net) = of_net 20 (codes "two drivers of ") net
fault_text (GatedClock net) = of_net 21 (codes "gated clock ") net
fault_text (SeveralClocks first other) = of_pair 22 (codes "several clocks ") first other
fault_text (SeveralEdges first other) = of_pair 23 (codes "several edges ") first other
fault_text (ClockAsData net) = of_net 24 (codes "clock as data ") net
fault_text NoMemory = codes "out of memory" ++ 10 ∷ []
