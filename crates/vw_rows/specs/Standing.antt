-- A checked stimulus, and how far it was given.
use Rattle.std.specs.Prelude.{◌≡◌, ◌≤◌, ◌<◌, ℕ, ◌+◌, Bool, false, List, ◌++◌, length, replicate, drop, Result, Ok, Err}
use Rattle.vw_outside.specs.Told.{Told, held}
use Rattle.vw_text.specs.Physical.{text_lines}
use Rattle.vw_rows.specs.declared.fault.StimFault.{StimFault}
use Rattle.vw_rows.specs.declared.fault.StimFault.TheVariants.{BadLine}
use Rattle.vw_rows.specs.declared.stimulus.Stimulus.{Stimulus}
use Rattle.vw_rows.specs.Stimulus.{behind, rows_of_lines, stimulus_rows}

-- a stimulus stands in a text: these are the rows of the text, and from those that were given on they are the copies that are still owed and the rows of the lines from its place on
pub record StandsIn (stimulus : Stimulus) (text : List ℕ) : Type 0 where
  pub rows : List (List Bool)
  pub accepted : stimulus_rows stimulus.width text ≡ Ok rows
  pub clocks : length rows ≡ stimulus.clocks
  -- the place is that of the first byte of a line, or the end of the text; these are the lines before it
  pub lines : List (List ℕ)
  pub place : text_lines text ≡ lines ++ text_lines (drop stimulus.at text)
  pub inside : stimulus.at ≤ length text
  pub number : stimulus.line ≡ length lines + 1
  pub left : behind (replicate stimulus.owed stimulus.before) (rows_of_lines stimulus.width stimulus.line (stimulus.done + stimulus.owed) stimulus.before (text_lines (drop stimulus.at text)))
      ≡ Ok (drop stimulus.done rows)
  pub first : stimulus.done ≡ 0 → stimulus.before ≡ replicate stimulus.width false

-- a stimulus stands in the text that is told, where one is
abbrev pub StandsWhereHeld : Stimulus → Told → Type 0
StandsWhereHeld stimulus told = (text : List ℕ) → told ≡ held text → StandsIn stimulus text

-- a text was checked for so many columns: a stimulus stands in it, or it has this fault
abbrev pub Checks : ℕ → List ℕ → Result Stimulus StimFault → Type 0
Checks width text (Ok stimulus) = StandsIn stimulus text
Checks width text (Err fault) = stimulus_rows width text ≡ Err fault

-- the rows that are still to be given, where this is the text from the place of a stimulus on
abbrev pub rows_left : Stimulus → List ℕ → Result (List (List Bool)) StimFault
rows_left stimulus text = behind (replicate stimulus.owed stimulus.before) (rows_of_lines stimulus.width stimulus.line (stimulus.done + stimulus.owed) stimulus.before (text_lines text))

-- bytes in which a fault was found, whose first line has this number: it is their first, or they have fewer rows than are wanted, and the line behind their last is bad
abbrev pub IsFoundIn : ℕ → ℕ → List ℕ → StimFault → Result (List (List Bool)) StimFault → Type 0
IsFoundIn wanted number bytes fault (Err first) = fault ≡ first
IsFoundIn wanted number bytes fault (Ok rows) = (length rows < wanted) × (fault ≡ BadLine (number + length (text_lines bytes)))

-- so many rows don't come next: of some bytes, taken for the text from the place of a stimulus on, this is the fault
abbrev pub HasNoNext : ℕ → Stimulus → StimFault → Type 0
HasNoNext wanted stimulus fault = (bytes : List ℕ) × IsFoundIn wanted stimulus.line bytes fault (rows_left stimulus bytes)

-- a stimulus of this name and of so many columns, of which nothing was given
pub record IsAtStart (name : List ℕ) (width : ℕ) (stimulus : Stimulus) : Type 0 where
  pub its_name : stimulus.name ≡ name
  pub its_width : stimulus.width ≡ width
  pub done : stimulus.done ≡ 0

-- so many rows more were given
pub record GaveMore (count : ℕ) (old new : Stimulus) : Type 0 where
  pub name : new.name ≡ old.name
  pub width : new.width ≡ old.width
  pub clocks : new.clocks ≡ old.clocks
  pub done : new.done ≡ old.done + count
