-- Tables, row by row.
use Rattle.std.specs.Prelude.{◌≡◌, ◌-◌, Bool, true, false, not, List, ◌∷◌, length, Option, Some, None, ◌==◌, nat_lt}
use Rattle.vw_text.specs.declared.line.Line.{Line}
use Rattle.vw_blif.specs.declared.fault.TextFault.{TextFault}
use Rattle.vw_blif.specs.declared.fault.TextFault.TheVariants.{TooLarge, NoModel, Unsupported, BadWords, BadRow, MixedRows, TooWide, BadLatchType, BadInit, DuplicateModel, DuplicatePort, BadBind, NoMemory}
use Rattle.vw_blif.specs.declared.table.GrowingTable.{GrowingTable}
use Rattle.vw_blif.specs.Words.{last_word}
use Rattle.vw_blif.specs.Kinds.{further}
use Rattle.vw_blif.specs.Rows.{is_row_of}
use Rattle.vw_blif.specs.Designs.{table_of}
use Rattle.vw_blif.specs.Before.{or_value}
use Rattle.vw_blif.specs.Faults.{differs_from}
use Rattle.vw_blif.specs.Steps.Blocks.{table_said, table_made}

-- a table begins at a line, which has words enough and not too many
pub record BeginsTable (line : Line) (new : GrowingTable) : Type 0 where
  pub makes : (rows : List Line) → table_made new rows ≡ table_of line rows
  pub stays : table_said new ≡ record { width = length (further line) - 1; value = None }
  pub some : (length (further line) == 0) ≡ false
  pub few : nat_lt 129 (length (further line)) ≡ false

abbrev pub SaysNames : Line → TextFault → Type 0
SaysNames line TooLarge = ⊥
SaysNames line (NoModel at) = ⊥
SaysNames line (Unsupported at word) = ⊥
SaysNames line (BadWords at) = (at ≡ line.number) × ((length (further line) == 0) ≡ true)
SaysNames line (BadRow at) = ⊥
SaysNames line (MixedRows at) = ⊥
SaysNames line (TooWide at) = (at ≡ line.number) × ((length (further line) == 0) ≡ false) × (nat_lt 129 (length (further line)) ≡ true)
SaysNames line (BadLatchType at) = ⊥
SaysNames line (BadInit at) = ⊥
SaysNames line (DuplicateModel at) = ⊥
SaysNames line (DuplicatePort at) = ⊥
SaysNames line (BadBind at) = ⊥
SaysNames line NoMemory = Unit {0}

-- whether rows end in another digit than this value
abbrev pub is_other_value : Option Bool → Bool → Bool
is_other_value None value = false
is_other_value (Some true) value = not value
is_other_value (Some false) value = value

-- a row was added to a table
pub record AddsRow (old : GrowingTable) (line : Line) (new : GrowingTable) : Type 0 where
  pub makes : (rows : List Line) → table_made new rows ≡ table_made old (line ∷ rows)
  pub stays : table_said new ≡ record { width = (table_said old).width; value = Some (or_value (table_said old).value (last_word line.words)) }
  pub fits : is_row_of (table_said old).width line.words ≡ true
  pub same : differs_from (table_said old).value (last_word line.words) ≡ false

abbrev pub SaysRow : GrowingTable → Line → TextFault → Type 0
SaysRow old line TooLarge = ⊥
SaysRow old line (NoModel at) = ⊥
SaysRow old line (Unsupported at word) = ⊥
SaysRow old line (BadWords at) = ⊥
SaysRow old line (BadRow at) = (at ≡ line.number) × (is_row_of (table_said old).width line.words ≡ false)
SaysRow old line (MixedRows at) = (at ≡ line.number) × (is_row_of (table_said old).width line.words ≡ true)
    × (differs_from (table_said old).value (last_word line.words) ≡ true)
SaysRow old line (TooWide at) = ⊥
SaysRow old line (BadLatchType at) = ⊥
SaysRow old line (BadInit at) = ⊥
SaysRow old line (DuplicateModel at) = ⊥
SaysRow old line (DuplicatePort at) = ⊥
SaysRow old line (BadBind at) = ⊥
SaysRow old line NoMemory = Unit {0}
