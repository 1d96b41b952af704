-- Columns by their places among the inputs, and drivers by the columns of ports.
use Rattle.std.proofs.Common.{◌≡◌, ◌<◌, ℕ, List, [], length, map, Option, Some, None, is_none, option_map, slice_get, get_or, refl, sym, ◌∙◌, ap, true≢false}
use Rattle.std.proofs.lemmas.List.{length-map}
use Rattle.std.proofs.lemmas.Option.{none-some, same_Some, slice_get-map, slice_get-get_or}
use Rattle.vw_design.specs.declared.design.Design.{Design}
use Rattle.vw_design.specs.Paths.{Word}
use Rattle.vw_design.specs.Drivers.{Source as PathSource, at_port, at_cell}
use Rattle.vw_design.specs.Preorder.{cells}
use Rattle.vw_design.specs.Clocks.{columns}
use Rattle.vw_design.specs.PathValue.{place_of_name, place_of_site}
use Rattle.vw_design.proofs.DriverNumbers.{IsPossibleSource}
use Rattle.vw_drivers.specs.Firsts.{First, number_named}
use Rattle.vw_drivers.specs.declared.source.Source.{Source}
use Rattle.vw_drivers.specs.declared.source.Source.TheVariants as sources
use Rattle.vw_drivers.specs.Sources.{source_of}
use Rattle.vw_net_faults.specs.declared.columns.Columns.{Columns}
use Rattle.vw_net_faults.specs.Columns.{AreColumns}
use Rattle.vw_elab.specs.declared.driver.Driver.TheVariants.{Cell}
use Rattle.vw_elab.specs.Numbers.{of_port, driver_of}
use Rattle.vw_elab.specs.Steps.ByColumns.{driver_by}

-- the input at the place of a column
pub column_at : (inputs names : List Word) (places : List ℕ) → map (slice_get inputs) places ≡ map (λ name. Some name) names → (k : ℕ) → k < length names
    → (place : ℕ) × (slice_get places k ≡ Some place) × (slice_get inputs place ≡ slice_get names k)
column_at inputs names places are k within = by (slice_get places k) refl where
  name : slice_get names k ≡ Some (get_or names k [])
  name = slice_get-get_or names k [] within

  looked : option_map (slice_get inputs) (slice_get places k) ≡ Some (Some (get_or names k []))
  looked = sym (slice_get-map (slice_get inputs) places k) ∙ ap (λ (list : List (Option Word)). slice_get list k) are ∙ slice_get-map (λ (n : Word). Some n) names k ∙ ap (option_map (λ (n : Word). Some n)) name

  by : (found : Option ℕ) → slice_get places k ≡ found → (place : ℕ) × (slice_get places k ≡ Some place) × (slice_get inputs place ≡ slice_get names k)
  by None is = absurd (none-some (Some (get_or names k [])) (sym (ap (option_map (slice_get inputs)) is) ∙ looked))
  by (Some place) is = (place, is, same_Some (slice_get inputs place) (Some (get_or names k [])) (sym (ap (option_map (slice_get inputs)) is) ∙ looked) ∙ sym name)

-- how many columns there are
pub columns_count : (inputs names : List Word) (places : List ℕ) → map (slice_get inputs) places ≡ map (λ name. Some name) names → length places ≡ length names
columns_count inputs names places are =
    sym (length-map places (slice_get inputs)) ∙ ap (λ (list : List (Option Word)). length list) are ∙ length-map names (λ (n : Word). Some n)

-- by the columns of ports a source is the driver that it stands for
pub by_columns : (design : Design) (root : List First) (numbers : Columns) → AreColumns design root numbers
    → (found : Option PathSource) → ((source : PathSource) → found ≡ Some source → IsPossibleSource design source)
    → (source : Option Source) → source ≡ source_of design root found → is_none source ≡ is_none found → driver_by numbers.ports source ≡ driver_of design found
by_columns design root numbers are None is_found source is none = ap (driver_by numbers.ports) is
by_columns design root numbers are (Some (at_cell path item)) is_found source is none = ap (driver_by numbers.ports) is ∙ by (place_of_site (cells design) path item) where
  by : (place : Option ℕ) → driver_by numbers.ports (option_map (λ number. sources.Cell number) place) ≡ option_map (λ number. Cell number) place
  by None = refl
  by (Some place) = refl
by_columns design root numbers are (Some (at_port name)) is_found source is none = by (number_named root name) refl where
  by : (number : Option ℕ) → number_named root name ≡ number → driver_by numbers.ports source ≡ Some (of_port (place_of_name (columns design) name))
  by None same = absurd (true≢false (sym (ap is_none (is ∙ ap (option_map (λ (n : ℕ). sources.Port n)) same)) ∙ none))
  by (Some number) same =
      ap (driver_by numbers.ports) (is ∙ ap (option_map (λ (n : ℕ). sources.Port n)) same)
      ∙ ap (option_map of_port) (are.ports name number same)
