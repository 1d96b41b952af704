-- The message line of each fault of a stimulus, with the end of the line.
use Rattle.std.specs.Prelude.{ℕ, List, [], ◌∷◌, ◌++◌, codes}
use Rattle.std.specs.Fmt.{decimal}
use Rattle.vw_rows.specs.declared.fault.StimFault.{StimFault}
use Rattle.vw_rows.specs.declared.fault.StimFault.TheVariants.{TooLarge, BadLine, WrongWidth, TooManyClocks, ReadFault, NoMemory}

abbrev pub fault_text : StimFault → List ℕ
fault_text TooLarge = codes "stimulus 1: text longer than 1073741824 bytes" ++ 10 ∷ []
fault_text (BadLine line) = codes "stimulus 2: line " ++ decimal line ++ codes ": bad line" ++ 10 ∷ []
fault_text (WrongWidth line found wanted) = codes "stimulus 3: line " ++ decimal line ++ codes ": found " ++ decimal found ++ codes " bits, wanted " ++ decimal wanted ++ 10 ∷ []
fault_text (TooManyClocks count) = codes "stimulus 4: " ++ decimal count ++ codes " clocks" ++ 10 ∷ []
fault_text ReadFault = codes "read fault: stimulus" ++ 10 ∷ []
fault_text NoMemory = codes "out of memory" ++ 10 ∷ []
