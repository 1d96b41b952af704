-- The message line of each fault of a design text, with the end of the line.
use Rattle.std.specs.Prelude.{ℕ, List, [], ◌∷◌, ◌++◌, codes}
use Rattle.vw_blif.specs.MessageLines.{at_line}
use Rattle.vw_blif.specs.declared.fault.TextFault.{TextFault}
use Rattle.vw_blif.specs.declared.fault.TextFault.TheVariants.{TooLarge, NoModel, Unsupported, BadWords, BadRow, MixedRows, TooWide, BadLatchType, BadInit, DuplicateModel, DuplicatePort, BadBind, NoMemory}

abbrev pub fault_text : TextFault → List ℕ
fault_text TooLarge = codes "design 1: text longer than 16777216 bytes" ++ 10 ∷ []
fault_text (NoModel line) = at_line 2 line (codes "no model")
fault_text (Unsupported line word) = at_line 3 line (codes "unsupported " ++ word)
fault_text (BadWords line) = at_line 4 line (codes "wrong number of words")
fault_text (BadRow line) = at_line 5 line (codes "bad row")
fault_text (MixedRows line) = at_line 6 line (codes "rows of both kinds")
fault_text (TooWide line) = at_line 7 line (codes "more than 128 inputs")
fault_text (BadLatchType line) = at_line 8 line (codes "bad latch type")
fault_text (BadInit line) = at_line 9 line (codes "bad initial value")
fault_text (DuplicateModel line) = at_line 10 line (codes "duplicate model")
fault_text (DuplicatePort line) = at_line 11 line (codes "duplicate port")
fault_text (BadBind line) = at_line 12 line (codes "bad binding")
fault_text NoMemory = codes "out of memory" ++ 10 ∷ []
