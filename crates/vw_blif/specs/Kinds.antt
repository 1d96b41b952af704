-- The kind of a line goes by its first word. Source: the Berkeley description of BLIF.
use Rattle.std.specs.Prelude.{Bool, true, false, List, codes, if◌then◌else◌}
use Rattle.std.specs.Str.{bytes_eq}
use Rattle.vw_text.specs.declared.line.Line.{Line}
use Rattle.vw_blif.specs.declared.kind.Kind.{Kind}
use Rattle.vw_blif.specs.declared.kind.Kind.TheVariants.{Model, Inputs, Outputs, Clock, Names, Latch, Subckt, End, Other, Row}
use Rattle.vw_blif.specs.Words.{first_word, further_words, begins_with_point}
use Rattle.vw_design.specs.Paths.{Word}

-- the kind of a first word: one of the eight keywords, another word with a point in front, or a part of a row
abbrev pub kind_of : Word → Kind
kind_of word =
    if bytes_eq word (codes ".model") then Model else if bytes_eq word (codes ".inputs") then Inputs
    else if bytes_eq word (codes ".outputs") then Outputs else if bytes_eq word (codes ".clock") then Clock
    else if bytes_eq word (codes ".names") then Names else if bytes_eq word (codes ".latch") then Latch
    else if bytes_eq word (codes ".subckt") then Subckt else if bytes_eq word (codes ".end") then End
    else if begins_with_point word then Other else Row

-- the kind of a line: that of its first word
abbrev pub kind : Line → Kind
kind line = kind_of (first_word line.words)

-- the words behind the first
abbrev pub further : Line → List Word
further line = further_words line.words

-- whether a line of a kind begins a model
abbrev pub is_model : Kind → Bool
is_model Model = true
is_model _ = false

-- whether a line of a kind ends a model
abbrev pub is_end : Kind → Bool
is_end End = true
is_end _ = false

-- whether a line of a kind is a row of a table
abbrev pub is_row : Kind → Bool
is_row Row = true
is_row _ = false

-- the three lists of ports of a model
pub data Port : Type 0 where
  input : Port
  output : Port
  clocked : Port

-- whether a line of a kind adds to a list of ports
abbrev pub adds_to : Kind → Port → Bool
adds_to Inputs input = true
adds_to Outputs output = true
adds_to Clock clocked = true
adds_to _ port = false
