-- What the lines before a line say of it. The lines before are listed with the nearest first.
use Rattle.std.specs.Prelude.{ℕ, ◌-◌, Bool, true, false, List, [], ◌∷◌, ◌++◌, length, Option, Some, None, option_map, if◌then◌else◌}
use Rattle.vw_text.specs.declared.line.Line.{Line}
use Rattle.vw_blif.specs.declared.kind.Kind.{Kind}
use Rattle.vw_blif.specs.declared.kind.Kind.TheVariants.{Model, Names, End, Row}
use Rattle.vw_blif.specs.Words.{first_word, last_word}
use Rattle.vw_design.specs.Paths.{Word}
use Rattle.vw_blif.specs.Kinds.{kind, further, Port, adds_to}

-- whether a line stands within a model, behind a line of a kind
abbrev pub open_behind : Kind → Bool → Bool
open_behind Model open_ = true
open_behind End open_ = false
open_behind _ open_ = open_

-- whether a line stands within a model, by the lines before it
abbrev pub is_open : List Line → Bool
is_open [] = false
is_open (line ∷ before) = open_behind (kind line) (is_open before)

-- the table to which a row would belong: its number of inputs, and the value of its first row
pub record OpenTable : Type 0 where
  pub width : ℕ
  pub value : Option Word

-- the value of the first row, where the table has one, else this
abbrev pub or_value : Option Word → Word → Word
or_value None value = value
or_value (Some first) value = first

-- the table to which a row would belong behind a line of a kind: a line that isn't a row of it ends it
abbrev pub table_behind : Kind → Line → Option OpenTable → Option OpenTable
table_behind Names line table = Some (record { width = length (further line) - 1; value = None })
table_behind Row line table =
    option_map (λ t. record { width = t.width; value = Some (or_value t.value (last_word line.words)) }) table
table_behind _ line table = None

-- the table to which a row would belong, by the lines before it
abbrev pub open_table : List Line → Option OpenTable
open_table [] = None
open_table (line ∷ before) = table_behind (kind line) line (open_table before)

-- the names of the models so far
abbrev pub names_behind : Kind → Line → List Word → List Word
names_behind Model line names = names ++ first_word (further line) ∷ []
names_behind _ line names = names

-- the names of the models among the lines before a line, in their order
abbrev pub names_of_models : List Line → List Word
names_of_models [] = []
names_of_models (line ∷ before) = names_behind (kind line) line (names_of_models before)

-- the ports of a list so far, in the model that is open
abbrev pub ports_behind : Port → Kind → Line → List Word → List Word
ports_behind port Model line ports = []
ports_behind port kind_ line ports = if adds_to kind_ port then ports ++ further line else ports

-- the ports of a list among the lines before a line, in their order, of the model that is open
abbrev pub ports_before : Port → List Line → List Word
ports_before port [] = []
ports_before port (line ∷ before) = ports_behind port (kind line) line (ports_before port before)
