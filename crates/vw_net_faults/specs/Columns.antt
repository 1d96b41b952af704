-- The columns of a stimulus by numbers.
use Rattle.std.specs.Prelude.{◌≡◌, ℕ, List, [], length, map, Some, slice_get}
use Rattle.vw_design.specs.declared.design.Design.{Design}
use Rattle.vw_design.specs.Paths.{Word, model_at}
use Rattle.vw_design.specs.Clocks.{inputs_of, columns}
use Rattle.vw_design.specs.PathValue.{place_of_name}
use Rattle.vw_drivers.specs.Firsts.{First, number_named}
use Rattle.vw_net_faults.specs.declared.columns.Columns.{Columns}

-- the columns, by their places among the inputs of the root; and for each claim of the root, by its number, the column
-- of the name: none where the name is no input, or a clock port
pub record AreColumns (design : Design) (root : List First) (numbers : Columns) : Type 0 where
  pub inputs : map (slice_get (inputs_of (model_at design []))) numbers.inputs ≡ map (λ name. Some name) (columns design)
  pub count : length numbers.ports ≡ length root
  pub ports : (name : Word) (number : ℕ) → number_named root name ≡ Some number
      → slice_get numbers.ports number ≡ Some (place_of_name (columns design) name)
