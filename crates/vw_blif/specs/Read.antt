-- The design of a text, or its fault: the fault of the first line at fault. That a text is too large is decided before
-- all lines, and a text without words has no model.
use Rattle.std.specs.Prelude.{ℕ, Bool, true, false, List, [], ◌∷◌, length, Option, Some, None, Result, Ok, Err, if◌then◌else◌, nat_lt}
use Rattle.std.specs.Option.{option_or}
use Rattle.vw_text.specs.declared.line.Line.{Line}
use Rattle.vw_text.specs.WordLines.{word_lines}
use Rattle.vw_blif.specs.declared.fault.TextFault.{TextFault}
use Rattle.vw_blif.specs.declared.fault.TextFault.TheVariants.{TooLarge, NoModel, Unsupported, BadWords, BadRow, MixedRows, TooWide, BadLatchType, BadInit, DuplicateModel, DuplicatePort, BadBind, NoMemory}
use Rattle.vw_blif.specs.Spelled.{SpelledModel}
use Rattle.vw_blif.specs.Designs.{spelled_models}
use Rattle.vw_blif.specs.Faults.{fault_at}
use Rattle.vw_text.specs.declared.limits.TheConstants.{MOST_DESIGN_BYTES}

-- the fault of the first line at fault, behind these lines
abbrev pub first_fault : List Line → List Line → Option TextFault
first_fault before [] = None
first_fault before (line ∷ lines) = option_or (fault_at before line) (first_fault (line ∷ before) lines)

-- something, unless there is a fault
abbrev pub unless : {A : Type 0} → Option TextFault → A → Result A TextFault
unless None x = Ok x
unless (Some fault) x = Err fault

-- the models that lines spell, or their first fault
abbrev pub design_of_lines : List Line → Result (List SpelledModel) TextFault
design_of_lines [] = Err (NoModel 0)
design_of_lines (line ∷ lines) = unless (first_fault [] (line ∷ lines)) (spelled_models (line ∷ lines))

-- the models that a design text spells, or its first fault
abbrev pub design_of : List ℕ → Result (List SpelledModel) TextFault
design_of text = if nat_lt MOST_DESIGN_BYTES (length text) then Err TooLarge else design_of_lines (word_lines text)

-- whether a fault lies in the text; want of memory doesn't
abbrev pub is_text_fault : TextFault → Bool
is_text_fault TooLarge = true
is_text_fault (NoModel line) = true
is_text_fault (Unsupported line word) = true
is_text_fault (BadWords line) = true
is_text_fault (BadRow line) = true
is_text_fault (MixedRows line) = true
is_text_fault (TooWide line) = true
is_text_fault (BadLatchType line) = true
is_text_fault (BadInit line) = true
is_text_fault (DuplicateModel line) = true
is_text_fault (DuplicatePort line) = true
is_text_fault (BadBind line) = true
is_text_fault NoMemory = false
