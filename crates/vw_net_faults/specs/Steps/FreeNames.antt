-- Names whose claims have no flag, and their columns.
use Rattle.std.specs.Prelude.{◌≡◌, ℕ, Bool, true, false, List, length, map, filter, is_some, slice_get, slice_index_or, slice_set, Option, Some, None, if◌then◌else◌}
use Rattle.vw_design.specs.Paths.{Word}
use Rattle.vw_design.specs.PathValue.{place_of_name}
use Rattle.vw_drivers.specs.Firsts.{First, number_named}
use Rattle.vw_net_faults.specs.declared.columns.Columns.{Columns}

-- a number without a flag
abbrev pub unflagged : List Bool → Option ℕ → Option ℕ
unflagged clock_flags None = None
unflagged clock_flags (Some number) = if slice_index_or clock_flags number false then None else Some number

-- a claimed name whose claim has no flag
abbrev pub is_free : List First → List Bool → Word → Bool
is_free firsts clock_flags name = is_some (unflagged clock_flags (number_named firsts name))

-- a column is written where none is there
abbrev pub has_none : Option (Option ℕ) → Bool
has_none None = false
has_none (Some None) = true
has_none (Some (Some column)) = false

abbrev pub with_column : List (Option ℕ) → ℕ → ℕ → List (Option ℕ)
with_column ports number column = if has_none (slice_get ports number) then slice_set ports number (Some column) else ports

-- the columns of such names
pub record AreFree (firsts : List First) (clock_flags : List Bool) (names : List Word) (columns : Columns) : Type 0 where
  pub inputs : map (slice_get names) columns.inputs ≡ map (λ name. Some name) (filter (is_free firsts clock_flags) names)
  pub count : length columns.ports ≡ length firsts
  pub ports : (name : Word) (number : ℕ) → number_named firsts name ≡ Some number
      → slice_get columns.ports number ≡ Some (place_of_name (filter (is_free firsts clock_flags) names) name)
