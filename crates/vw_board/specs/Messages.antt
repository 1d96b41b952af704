-- The message line of each fault of a board text, with the end of the line.
use Rattle.std.specs.Prelude.{ℕ, List, [], ◌∷◌, ◌++◌, codes}
use Rattle.std.specs.Fmt.{decimal}
use Rattle.vw_board.specs.declared.fault.BoardFault.{BoardFault}
use Rattle.vw_board.specs.declared.fault.BoardFault.TheVariants.{TooLarge, BadLine, BadNumber, SelfLink, DuplicateLink, PinsExceeded, Unreachable, NoMemory}

abbrev pub fault_text : BoardFault → List ℕ
fault_text TooLarge = codes "board 1: text longer than 1048576 bytes" ++ 10 ∷ []
fault_text (BadLine line) = codes "board 2: line " ++ decimal line ++ codes ": bad line" ++ 10 ∷ []
fault_text (BadNumber line) = codes "board 3: line " ++ decimal line ++ codes ": bad number" ++ 10 ∷ []
fault_text (SelfLink a) = codes "board 4: self link " ++ decimal a ++ 10 ∷ []
fault_text (DuplicateLink a b) = codes "board 5: duplicate link " ++ decimal a ++ 32 ∷ decimal b ++ 10 ∷ []
fault_text (PinsExceeded chip used limit) = codes "board 6: chip " ++ decimal chip ++ codes " uses " ++ decimal used ++ codes " pins of " ++ decimal limit ++ 10 ∷ []
fault_text (Unreachable a b) = codes "board 7: no walk from " ++ decimal a ++ codes " to " ++ decimal b ++ 10 ∷ []
fault_text NoMemory = codes "out of memory" ++ 10 ∷ []
