-- By which plan a command goes, and which netlist, board and plan it may have before it, by what is told of its files. Source:
-- this project.
use Rattle.std.specs.Prelude.{ℕ, List, Option, Some, None}
use Rattle.vw_net.specs.declared.ordered.Ordered.{Ordered}
use Rattle.vw_design.specs.Paths.{Word}
use Rattle.vw_outside.specs.Told.{Told, IsTextOf}
use Rattle.vw_plan.specs.declared.board.Board.{Board}
use Rattle.vw_plan.specs.declared.plan.Plan.{Plan}
use Rattle.vw_plan.specs.Good.{IsGood}
use Rattle.vw_plan.specs.PlannedBoard.{planned_board}
use Rattle.vw_plan.specs.Sound.{IsSound}
use Rattle.vw_plantext.specs.PlanText.{Spells as SpellsPlan}
use Rattle.vw_plantext.specs.ChipsText.{SpellsChips}
use Rattle.vw_run.specs.GivenChips.{IsPlanFor}
use Rattle.vw_courses.specs.OnBoards.{AreSpelledOn}

-- one that it makes, that of a file, or one that it makes for the chips of a file
pub data PlanBy : Type 0 where
  made_here : PlanBy
  of_file : List ℕ → PlanBy
  for_chips : List ℕ → PlanBy

-- that of a file, or chips, where they are given
abbrev pub by_file : Option (List ℕ) → PlanBy
by_file None = made_here
by_file (Some name) = of_file name

abbrev pub by_chips : Option (List ℕ) → PlanBy
by_chips None = made_here
by_chips (Some name) = for_chips name

-- the plan is good; or it is that of a text that the given name may have, and sound; or it is one for the chips of such a text
abbrev pub IsPlanBy : (List ℕ → Told) → PlanBy → Ordered → Board → Plan → Type 0
IsPlanBy told made_here ordered board plan = IsGood (planned_board ordered board plan)
IsPlanBy told (of_file name) ordered board plan =
    (text : List ℕ) × IsTextOf (told name) text × SpellsPlan text plan × IsSound (planned_board ordered board plan)
IsPlanBy told (for_chips name) ordered board plan =
    (text : List ℕ) × IsTextOf (told name) text × (chips : List ℕ) × SpellsChips text chips × IsPlanFor ordered board chips plan

module _ (probes : List Word) (design board : List ℕ) (by : PlanBy) where
  -- texts that the names may have spell these, with such a plan
  pub record MaySpell (told : List ℕ → Told) (ordered : Ordered) (its_board : Board) (its : Plan) : Type 0 where
    pub d : List ℕ
    pub design_of : IsTextOf (told design) d
    pub b : List ℕ
    pub board_of : IsTextOf (told board) b
    pub on : AreSpelledOn probes d b ordered its_board
    pub plan_is : IsPlanBy told by ordered its_board its
