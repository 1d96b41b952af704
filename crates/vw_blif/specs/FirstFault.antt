-- A fault that stands on a line, with none on the lines before it.
use Rattle.std.specs.Prelude.{◌≡◌, List, [], ◌∷◌, ◌++◌, reverse, Some, None}
use Rattle.vw_text.specs.declared.line.Line.{Line}
use Rattle.vw_blif.specs.declared.fault.TextFault.{TextFault}
use Rattle.vw_blif.specs.Faults.{fault_at}
use Rattle.vw_blif.specs.Read.{first_fault}

pub record IsFirstFault (lines : List Line) (fault : TextFault) : Type 0 where
  pub front : List Line
  pub line : Line
  pub rest : List Line
  pub whole : lines ≡ front ++ line ∷ rest
  pub fine : first_fault [] front ≡ None
  pub at : fault_at (reverse front) line ≡ Some fault
