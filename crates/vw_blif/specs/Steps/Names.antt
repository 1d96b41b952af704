-- The names of the models that were read so far.
use Rattle.std.specs.Prelude.{List, [], ◌∷◌, ◌++◌, map, Option, Some, None, Box}
use Rattle.vw_design.specs.declared.model.Model.{Model}
use Rattle.vw_blif.specs.declared.block.Block.{Block}
use Rattle.vw_design.specs.Paths.{Word}

-- the model that is open, out of its box
abbrev pub opened : {A : Type 0} → Option (Box Block A) → Option Block
opened None = None
opened (Some b) = Some b.value

abbrev pub open_model_name : Option Block → List Word
open_model_name None = []
open_model_name (Some b) = b.name ∷ []

abbrev pub names_so_far : List Model → Option Block → List Word
names_so_far models open_ = map (λ model. model.name) models ++ open_model_name open_
