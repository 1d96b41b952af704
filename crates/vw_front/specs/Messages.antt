-- The message line of each reason why a text has no netlist, with the byte that ends the line.
use Rattle.std.specs.Prelude.{ℕ, List, [], ◌∷◌, ◌++◌, codes}
use Rattle.vw_blif.specs.Messages.{fault_text as text_fault_text}
use Rattle.vw_elab.specs.Messages.{fault_text as design_fault_text}
use Rattle.vw_elab.specs.MessageLines.{spaced}
use Rattle.vw_flat.specs.Messages.{no_net_line}
use Rattle.vw_front.specs.declared.fault.NetlistFault.{NetlistFault}
use Rattle.vw_front.specs.declared.fault.NetlistFault.TheVariants.{Text, Design, NoNet, Loop, NoMemory}

-- of a loop: each net behind a blank
abbrev pub loop_line : List (List ℕ) → List ℕ
loop_line names = codes "design 25: loop" ++ spaced names ++ 10 ∷ []

abbrev pub fault_text : NetlistFault → List ℕ
fault_text (Text fault) = text_fault_text fault
fault_text (Design fault) = design_fault_text fault
fault_text (NoNet probe) = no_net_line probe
fault_text (Loop names) = loop_line names
fault_text NoMemory = codes "out of memory" ++ 10 ∷ []
