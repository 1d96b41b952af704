-- The replay of a value change dump. It keeps no values: it lists what was given and when, and the value of an identifier at
-- a time is looked for in that list. Source: IEEE 1364.
use Rattle.std.specs.Prelude.{◌≡◌, ℕ, Bool, true, false, not, ◌&&◌, List, [], ◌∷◌, ◌++◌, map, Option, Some, None, if◌then◌else◌, nat_le}
use Rattle.std.specs.List.{range_with_len}
use Rattle.std.specs.Option.{option_or}
use Rattle.std.specs.Str.{bytes_eq}
use Rattle.vw_text.specs.Physical.{text_lines}
use Rattle.vw_vcd.specs.Statements.{Statement, declares_id, names_time, gives_value, begins_block, ends_block, says_nothing, stated}

-- a value that was given to an identifier: at which time, and whether within the block of first values
pub record GivenValue : Type 0 where
  pub time : ℕ
  pub first : Bool
  pub id : List ℕ
  pub bit : Bool

-- the identifiers that lines declare, the last time that they name, and the values that they give
pub record Replay : Type 0 where
  pub ids : List (List ℕ)
  pub clocks : ℕ
  pub given : List GivenValue

-- the identifiers that lines declare, in order
abbrev pub declared_ids : List Statement → List (List ℕ)
declared_ids [] = []
declared_ids (declares_id id ∷ more) = id ∷ declared_ids more
declared_ids (names_time time ∷ more) = declared_ids more
declared_ids (gives_value bit id ∷ more) = declared_ids more
declared_ids (begins_block ∷ more) = declared_ids more
declared_ids (ends_block ∷ more) = declared_ids more
declared_ids (says_nothing ∷ more) = declared_ids more

-- the last time, where this one was the last before
abbrev pub last_time : ℕ → List Statement → ℕ
last_time time [] = time
last_time time (declares_id id ∷ more) = last_time time more
last_time time (names_time next ∷ more) = last_time next more
last_time time (gives_value bit id ∷ more) = last_time time more
last_time time (begins_block ∷ more) = last_time time more
last_time time (ends_block ∷ more) = last_time time more
last_time time (says_nothing ∷ more) = last_time time more

-- the values given, from this time on, and within the block of first values or not
abbrev pub given_values : ℕ → Bool → List Statement → List GivenValue
given_values time first [] = []
given_values time first (declares_id id ∷ more) = given_values time first more
given_values time first (names_time next ∷ more) = given_values next first more
given_values time first (gives_value bit id ∷ more) = record { time = time; first = first; id = id; bit = bit } ∷ given_values time first more
given_values time first (begins_block ∷ more) = given_values time true more
given_values time first (ends_block ∷ more) = given_values time false more
given_values time first (says_nothing ∷ more) = given_values time first more

-- the replay of lines that state this
abbrev pub replay_of : List Statement → Replay
replay_of kinds = record { ids = declared_ids kinds; clocks = last_time 0 kinds; given = given_values 0 false kinds }

-- the replay of a text
abbrev pub replay : List ℕ → Replay
replay text = replay_of (map stated (text_lines text))

-- the value that an identifier was given last at a time or before it
abbrev pub last_given : List GivenValue → ℕ → List ℕ → Option Bool
last_given [] time id = None
last_given (given ∷ more) time id =
    option_or (last_given more time id) (if nat_le given.time time && bytes_eq given.id id then Some given.bit else None)

-- the values of all identifiers at each time below the last
abbrev pub values : Replay → List (List (Option Bool))
values r = map (λ time. map (last_given r.given time) r.ids) (range_with_len 0 r.clocks)

-- each value but those of the first block, given behind these, is another one than its identifier had
abbrev pub AreChanges : List GivenValue → List GivenValue → Type 0
AreChanges before [] = Unit {0}
AreChanges before (given ∷ more) =
    (given.first ≡ false → last_given before given.time given.id ≡ Some (not given.bit)) × AreChanges (before ++ given ∷ []) more
