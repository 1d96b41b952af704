-- The message line of each fault of a plan text, with the end of the line.
use Rattle.std.specs.Prelude.{ℕ, List, [], ◌∷◌, ◌++◌, codes}
use Rattle.std.specs.Fmt.{decimal}
use Rattle.vw_plantext.specs.declared.fault.PlanTextFault.{PlanTextFault}
use Rattle.vw_plantext.specs.declared.fault.PlanTextFault.TheVariants.{TooLarge, BadLine, NoMemory}

abbrev pub fault_text : PlanTextFault → List ℕ
fault_text TooLarge = codes "plan 1: text longer than 67108864 bytes" ++ 10 ∷ []
fault_text (BadLine line) = codes "plan 2: line " ++ decimal line ++ 10 ∷ []
fault_text NoMemory = codes "out of memory" ++ 10 ∷ []
