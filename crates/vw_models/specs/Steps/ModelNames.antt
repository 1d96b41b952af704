-- The names of models by their numbers.
use Rattle.std.specs.Prelude.{ℕ, List, [], map, Option, Some, None, slice_get}
use Rattle.vw_design.specs.declared.model.Model.{Model}
use Rattle.vw_design.specs.declared.design.Design.{Design}
use Rattle.vw_design.specs.Paths.{Word}

-- the name of a model that may be there, and the names of numbered models
abbrev pub name_if_any : Option Model → Word
name_if_any None = []
name_if_any (Some model) = model.name

abbrev pub numbered_names : Design → List ℕ → List Word
numbered_names design numbers = map (λ number. name_if_any (slice_get design.models number)) numbers
