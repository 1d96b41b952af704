-- A plan all of whose lines but the last were read.
use Rattle.std.specs.Prelude.{◌≡◌, ◌≢◌, ◌+◌, ◌⊎◌, ℕ, List, [], codes}
use Rattle.vw_plan.specs.declared.plan.Plan.{Plan}
use Rattle.vw_plantext.specs.declared.fault.PlanTextFault.{PlanTextFault}
use Rattle.vw_plantext.specs.declared.fault.PlanTextFault.TheVariants.{BadLine}
use Rattle.vw_plantext.specs.Content.{Content, content_of, IsInRange}
use Rattle.vw_plantext.specs.Grammar.{spelling}
use Rattle.vw_plantext.specs.Steps.Bodies.{BodyState}

-- what was read
abbrev pub content_read : BodyState → Content
content_read state = record { chip_of = state.chip_of; wires = state.wires; period = state.period }

-- the last line, with nothing behind it, and the plan that was read
pub record EndsPlan (state : BodyState) (line after : List ℕ) (plan : Plan) : Type 0 where
  pub line_ : line ≡ codes "end"
  pub nothing : after ≡ []
  pub is : content_of plan ≡ content_read state

-- something stands behind the last line, or the line is another
abbrev pub EndsBadly : List ℕ → List ℕ → ℕ → PlanTextFault → Type 0
EndsBadly line after number fault =
    ((fault ≡ BadLine (number + 1)) × (line ≡ codes "end") × (after ≢ [])) ⊎ ((fault ≡ BadLine number) × (line ≢ codes "end"))

-- a text spells a plan
pub record IsSpelled (text : List ℕ) (plan : Plan) : Type 0 where
  pub in_range : IsInRange (content_of plan)
  pub spelled : spelling (content_of plan) ≡ text
