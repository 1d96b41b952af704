-- Plan texts: the plan that a text spells, or its fault. Source: this project.
use Rattle.std.specs.Prelude.{◌≡◌, ◌<◌, ◌≤◌, ℕ, Bool, true, false, List, length, ⊤}
use Rattle.vw_plan.specs.declared.plan.Plan.{Plan}
use Rattle.vw_plantext.specs.declared.fault.PlanTextFault.{PlanTextFault}
use Rattle.vw_plantext.specs.declared.fault.PlanTextFault.TheVariants.{TooLarge, BadLine, NoMemory}
use Rattle.vw_plantext.specs.Content.{content_of, IsInRange}
use Rattle.vw_plantext.specs.Grammar.{spelling}
use Rattle.vw_plantext.specs.CanStand.{IsFirstBadLine}
use Rattle.vw_plantext.specs.declared.limits.TheConstants.{MOST_PLAN_BYTES}

-- a text within the limit is the spelling of a plan
pub record Spells (text : List ℕ) (plan : Plan) : Type 0 where
  pub small : length text ≤ MOST_PLAN_BYTES
  pub in_range : IsInRange (content_of plan)
  pub spelled : spelling (content_of plan) ≡ text

-- a text is refused for this reason; want of memory says nothing of it
abbrev pub Refuses : List ℕ → PlanTextFault → Type 0
Refuses text TooLarge = MOST_PLAN_BYTES < length text
Refuses text (BadLine line) = (length text ≤ MOST_PLAN_BYTES) × IsFirstBadLine text line
Refuses text NoMemory = ⊤

-- whether a fault lies in the text; want of memory doesn't
abbrev pub is_text_fault : PlanTextFault → Bool
is_text_fault TooLarge = true
is_text_fault (BadLine line) = true
is_text_fault NoMemory = false
