-- The message line of each fault of a design that has no plan, with the end of the line.
use Rattle.std.specs.Prelude.{ℕ, List, [], ◌∷◌, ◌++◌, codes}
use Rattle.std.specs.Fmt.{decimal}
use Rattle.vw_run.specs.declared.fault.CompileFault.{CompileFault}
use Rattle.vw_run.specs.declared.fault.CompileFault.TheVariants.{TooManyCells, NoMemory}

abbrev pub fault_text : CompileFault → List ℕ
fault_text (TooManyCells cells room) = codes "fit: " ++ (decimal cells ++ (codes " cells, room for " ++ (decimal room ++ 10 ∷ [])))
fault_text NoMemory = codes "out of memory" ++ 10 ∷ []
