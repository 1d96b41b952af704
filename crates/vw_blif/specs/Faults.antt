-- The faults of a line, given the lines before it with the nearest first. Each condition is false of a line of another
-- kind. Source: the Berkeley description of BLIF, and this project's choices where it is silent.
use Rattle.std.specs.Prelude.{ℕ, Bool, true, false, ◌&&◌, ◌||◌, not, List, [], ◌∷◌, ◌++◌, length, Option, Some, None, ◌==◌, nat_lt}
use Rattle.std.specs.Str.{bytes_eq}
use Rattle.vw_text.specs.declared.line.Line.{Line}
use Rattle.vw_design.specs.Distinct.{has_name}
use Rattle.vw_blif.specs.declared.fault.TextFault.{TextFault}
use Rattle.vw_blif.specs.declared.fault.TextFault.TheVariants.{NoModel, Unsupported, BadWords, BadRow, MixedRows, TooWide, BadLatchType, BadInit, DuplicateModel, DuplicatePort, BadBind}
use Rattle.vw_blif.specs.declared.kind.Kind.{Kind}
use Rattle.vw_blif.specs.declared.kind.Kind.TheVariants.{Model, Names, Latch, Subckt, Other, Row}
use Rattle.vw_blif.specs.Words.{first_word, last_word}
use Rattle.vw_design.specs.Paths.{Word}
use Rattle.vw_blif.specs.Kinds.{kind, further, Port, input, output, clocked, adds_to}
use Rattle.vw_blif.specs.Rows.{is_row_of}
use Rattle.vw_blif.specs.Latches.{has_bad_type, has_bad_init}
use Rattle.vw_blif.specs.Bindings.{repeats, has_bad_bind}
use Rattle.vw_blif.specs.Before.{OpenTable, is_open, open_table, names_of_models, ports_before}

-- 2: a line other than `.model` outside a model
abbrev pub is_outside : Kind → Bool → Bool
is_outside Model open_ = false
is_outside _ open_ = not open_

-- 3: another word with a point in front
abbrev pub is_other : Kind → Bool
is_other Other = true
is_other _ = false

-- 4: `.model` with other than one further word, `.names` or `.subckt` with none, `.latch` with fewer than two or more
-- than five
abbrev pub has_bad_count : Kind → ℕ → Bool
has_bad_count Model count = not (count == 1)
has_bad_count Names count = count == 0
has_bad_count Latch count = nat_lt count 2 || nat_lt 5 count
has_bad_count Subckt count = count == 0
has_bad_count _ count = false

-- whether a row has the form of the rows of its table, where it has one
abbrev pub fits_table : Option OpenTable → List Word → Bool
fits_table None words = false
fits_table (Some table) words = is_row_of table.width words

-- 5: a row that belongs to no table, or hasn't the form of its rows
abbrev pub is_bad_row : Kind → Option OpenTable → List Word → Bool
is_bad_row Row table words = not (fits_table table words)
is_bad_row _ table words = false

-- whether a digit is another one than that of a first row
abbrev pub differs_from : Option Word → Word → Bool
differs_from None value = false
differs_from (Some first) value = not (bytes_eq first value)

-- whether a row ends in another digit than the first row of its table
abbrev pub differs_in : Option OpenTable → List Word → Bool
differs_in None words = false
differs_in (Some table) words = differs_from table.value (last_word words)

-- 6: a row that ends in another digit than the first row of its table
abbrev pub is_mixed_row : Kind → Option OpenTable → List Word → Bool
is_mixed_row Row table words = differs_in table words
is_mixed_row _ table words = false

-- 7: a `.names` with more than 128 inputs
abbrev pub is_too_wide : Kind → ℕ → Bool
is_too_wide Names count = nat_lt 129 count
is_too_wide _ count = false

-- 8 and 9: the type, or the initial value, of a latch
abbrev pub is_bad_latch : (List Word → Bool) → Kind → List Word → Bool
is_bad_latch bad Latch words = bad words
is_bad_latch bad _ words = false

-- 10: a model with the name of an earlier one
abbrev pub is_duplicate_model : Kind → List Word → List Word → Bool
is_duplicate_model Model names words = has_name names (first_word words)
is_duplicate_model _ names words = false

-- 11: a name that stands twice in a list of ports of one model
abbrev pub repeats_port : Port → Kind → List Line → List Word → Bool
repeats_port port kind_ before words = adds_to kind_ port && repeats (ports_before port before) words

-- 12: a binding without `=`, with an empty side, or with a formal that is bound before
abbrev pub is_bad_bind : Kind → List Word → Bool
is_bad_bind Subckt words = has_bad_bind words
is_bad_bind _ words = false

-- ---- all of them, in the order of their numbers

-- a fault, where it is one
abbrev pub when : Bool → TextFault → List TextFault
when true fault = fault ∷ []
when false fault = []

-- the faults of a line of a kind, given the lines before it
abbrev pub faults_by : Kind → List Line → Line → List TextFault
faults_by kind_ before line =
    when (is_outside kind_ (is_open before)) (NoModel line.number)
    ++ (when (is_other kind_) (Unsupported line.number (first_word line.words))
    ++ (when (has_bad_count kind_ (length (further line))) (BadWords line.number)
    ++ (when (is_bad_row kind_ (open_table before) line.words) (BadRow line.number)
    ++ (when (is_mixed_row kind_ (open_table before) line.words) (MixedRows line.number)
    ++ (when (is_too_wide kind_ (length (further line))) (TooWide line.number)
    ++ (when (is_bad_latch has_bad_type kind_ (further line)) (BadLatchType line.number)
    ++ (when (is_bad_latch has_bad_init kind_ (further line)) (BadInit line.number)
    ++ (when (is_duplicate_model kind_ (names_of_models before) (further line)) (DuplicateModel line.number)
    ++ (when (repeats_port input kind_ before (further line)
    || (repeats_port output kind_ before (further line) || repeats_port clocked kind_ before (further line)))
    (DuplicatePort line.number)
    ++ when (is_bad_bind kind_ (further line)) (BadBind line.number))))))))))

-- the fault of a line is the first of them
abbrev pub first_of : List TextFault → Option TextFault
first_of [] = None
first_of (fault ∷ faults) = Some fault

-- the fault of a line, given the lines before it: the first in the order of their numbers
abbrev pub fault_at : List Line → Line → Option TextFault
fault_at before line = first_of (faults_by (kind line) before line)
