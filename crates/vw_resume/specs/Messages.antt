-- The message line of each fault of a state, with the end of the line.
use Rattle.std.specs.Prelude.{ℕ, List, [], ◌∷◌, ◌++◌, codes}
use Rattle.std.specs.Fmt.{decimal}
use Rattle.vw_resume.specs.declared.fault.StateFault.{StateFault}
use Rattle.vw_resume.specs.declared.fault.StateFault.TheVariants.{BadText, WrongLatches, TooManyClocks, TooFewClocks, NoMemory}

abbrev pub fault_text : StateFault → List ℕ
fault_text BadText = codes "state 1: bad text" ++ 10 ∷ []
fault_text (WrongLatches found wanted) =
    codes "state 2: " ++ (decimal found ++ (codes " latches, wanted " ++ (decimal wanted ++ 10 ∷ [])))
fault_text (TooManyClocks clocks) = codes "state 3: " ++ (decimal clocks ++ (codes " clocks" ++ 10 ∷ []))
fault_text (TooFewClocks found wanted) =
    codes "state 3: " ++ (decimal found ++ (codes " clocks, wanted " ++ (decimal wanted ++ 10 ∷ [])))
fault_text NoMemory = codes "out of memory" ++ 10 ∷ []
