-- Faults of lines.
use Rattle.std.specs.Prelude.{Bool, true, false}
use Rattle.vw_board.specs.declared.fault.BoardFault.{BoardFault}
use Rattle.vw_board.specs.declared.fault.BoardFault.TheVariants.{TooLarge, BadLine, BadNumber, SelfLink, DuplicateLink, PinsExceeded, Unreachable, NoMemory}

-- whether a fault is one that a single line can have
abbrev pub is_line_fault : BoardFault → Bool
is_line_fault TooLarge = false
is_line_fault (BadLine line) = true
is_line_fault (BadNumber line) = true
is_line_fault (SelfLink a) = true
is_line_fault (DuplicateLink a b) = true
is_line_fault (PinsExceeded chip used limit) = false
is_line_fault (Unreachable a b) = false
is_line_fault NoMemory = false
