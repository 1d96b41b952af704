-- What is found at an item that names no model of the file.
use Rattle.std.specs.Prelude.{ℕ, is_none, Option, Some, None, if◌then◌else◌}
use Rattle.vw_design.specs.declared.item.Item.{Item}
use Rattle.vw_design.specs.declared.design.Design.{Design}
use Rattle.vw_design.specs.Paths.{model_named}
use Rattle.vw_design.specs.ModelFaults.{by_placing}

-- its line
abbrev pub unknown_of : Design → Item → Option ℕ
unknown_of design = by_placing (λ line model binds. if is_none (model_named design.models model) then Some line else None)
