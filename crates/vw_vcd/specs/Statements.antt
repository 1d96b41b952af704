-- What a line of a value change dump states. Source: IEEE 1364, as far as it is used here; words stand in one line.
use Rattle.std.specs.Prelude.{ℕ, Bool, true, false, List, [], ◌∷◌, Option, Some, None, codes, if◌then◌else◌, ◌==◌}
use Rattle.std.specs.List.{slice_split}
use Rattle.std.specs.Str.{bytes_eq}
use Rattle.vw_text.specs.Number.{spelled_number}

-- it declares an identifier, names a time, gives a value to an identifier, begins or ends a block, or says nothing of
-- values
pub data Statement : Type 0 where
  declares_id : List ℕ → Statement
  names_time : ℕ → Statement
  gives_value : Bool → List ℕ → Statement
  begins_block : Statement
  ends_block : Statement
  says_nothing : Statement

-- behind `#`: the time
abbrev pub stated_time : Option ℕ → Statement
stated_time (Some time) = names_time time
stated_time None = says_nothing

-- behind `$var`: the kind and the width, and then the identifier
abbrev pub stated_var : List (List ℕ) → Statement
stated_var [] = says_nothing
stated_var (kind ∷ []) = says_nothing
stated_var (kind ∷ width ∷ []) = says_nothing
stated_var (kind ∷ width ∷ id ∷ words) = declares_id id

-- a line of words
abbrev pub stated_words : List (List ℕ) → Statement
stated_words [] = says_nothing
stated_words (word ∷ words) =
    if bytes_eq word (codes "$dumpvars")
    then begins_block
    else (if bytes_eq word (codes "$end") then ends_block else (if bytes_eq word (codes "$var") then stated_var words else says_nothing))

-- a line that begins with `#`, `0` or `1` is a time or a value, and any other one is words with a space between them
abbrev pub stated : List ℕ → Statement
stated [] = says_nothing
stated (b ∷ bs) =
    if b == 35
    then stated_time (spelled_number bs)
    else (if b == 48 then gives_value false bs else (if b == 49 then gives_value true bs else stated_words (slice_split (λ c. c == 32) (b ∷ bs))))
