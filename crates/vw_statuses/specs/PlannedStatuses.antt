-- What each status says of the design, the board and the plan of a command that begins with these, whatever comes behind. It
-- makes a good plan, or is given a plan by its name, which has to be sound, or chips by theirs, for which it makes one.
use Rattle.std.specs.Prelude.{◌≡◌, ◌<◌, ◌⊎◌, ◌*◌, ℕ, List, [], ◌∷◌, length, Some}
use Rattle.vw_net.specs.declared.ordered.Ordered.{Ordered}
use Rattle.vw_design.specs.Paths.{Word}
use Rattle.vw_course.specs.Places.{Files}
use Rattle.vw_course.specs.Statuses.{IsRefusedFor, IsStopped, Holds, IsAbsent, IsUnworked, FileStatuses}
use Rattle.vw_front.specs.Designs.{Runs, IsNoDesign}
use Rattle.vw_plan.specs.declared.board.Board.{Board}
use Rattle.vw_plan.specs.declared.plan.Plan.{Plan}
use Rattle.vw_plan.specs.Good.{IsGood}
use Rattle.vw_plan.specs.PlannedBoard.{planned_board}
use Rattle.vw_plan.specs.Sound.{IsSound}
use Rattle.vw_board.specs.BoardText.{Spells as SpellsBoard}
use Rattle.vw_plantext.specs.PlanText.{Spells as SpellsPlan}
use Rattle.vw_plantext.specs.ChipsText.{SpellsChips}
use Rattle.vw_check.specs.declared.fault.PlanFault.{PlanFault}
use Rattle.vw_check.specs.Answers.{HasPlace}
use Rattle.vw_check.specs.Faults.{plan_fault, chips_fault}
use Rattle.vw_run.specs.GivenChips.{IsPlanFor}
use Rattle.vw_courses.specs.declared.vocabulary.File.TheVariants as files
use Rattle.vw_courses.specs.declared.vocabulary.Reason.{Reason}
use Rattle.vw_courses.specs.Messages.{vocabulary, Call}
use Rattle.vw_courses.specs.Kinds.{IsBadDesign, IsBadBoard, IsBadPlanText, IsBadPlan, IsBadChipsText, IsBadChips, IsBadFit, ChipsHaveRoom}
use Rattle.vw_courses.specs.MayPlan.{PlanBy, made_here, of_file, for_chips}
use Rattle.vw_courses.specs.OnBoards.{IsNoBoard, AreSpelledOn}

-- ---- the plan

-- the texts of the design and the board, and that of a plan or of chips, which doesn't count where none is given
pub record PlanTexts : Type 0 where
  pub design : List ℕ
  pub board : List ℕ
  pub plan : List ℕ

-- the plan is good; or one is given, it is that of this text, and sound; or it is one for the chips of this text
abbrev pub IsPlanOf : PlanBy → List ℕ → Ordered → Board → Plan → Type 0
IsPlanOf made_here p ordered board plan = IsGood (planned_board ordered board plan)
IsPlanOf (of_file name) p ordered board plan = SpellsPlan p plan × IsSound (planned_board ordered board plan)
IsPlanOf (for_chips name) p ordered board plan = (chips : List ℕ) × SpellsChips p chips × IsPlanFor ordered board chips plan

-- a netlist of the design, the board, and such a plan
pub record AreSpelled (probes : List Word) (by : PlanBy) (texts : PlanTexts) (ordered : Ordered) (board : Board) (plan : Plan) : Type 0 where
  pub on : AreSpelledOn probes texts.design texts.board ordered board
  pub plan_is : IsPlanOf by texts.plan ordered board plan

-- such a plan of the design on the board
pub record IsTheirPlan (probes : List Word) (by : PlanBy) (texts : PlanTexts) (plan : Plan) : Type 0 where
  pub ordered : Ordered
  pub board : Board
  pub are : AreSpelled probes by texts ordered board plan

-- of a netlist of the design and the board this holds
pub record On (probes : List Word) (texts : PlanTexts) (Is : Ordered → Board → Type 0) : Type 0 where
  pub ordered : Ordered
  pub board : Board
  pub are : AreSpelledOn probes texts.design texts.board ordered board
  pub is : Is ordered board

-- ---- a plan that is made

-- all chips have room for the cells of the design
abbrev pub HaveRoom : List Word → PlanTexts → Type 0
HaveRoom probes texts = On probes texts ChipsHaveRoom

-- all chips have room for fewer cells
abbrev pub HaveNoRoom : List Word → PlanTexts → Type 0
HaveNoRoom probes texts = On probes texts (λ ordered board. board.chips * board.cells < length ordered.flat.cells)

-- for this reason, which has both numbers
abbrev pub IsNoFit : List Word → PlanTexts → Reason → Type 0
IsNoFit probes texts reason = On probes texts (λ ordered board. IsBadFit ordered board reason)

-- ---- a plan that is given

-- a plan text has a fault
abbrev pub IsNoPlanText : List ℕ → Type 0
IsNoPlanText p = (reason : Reason) × IsBadPlanText p reason

-- the plan has this fault, for the netlist of the design on the board
abbrev pub HasPlanFault : List Word → PlanTexts → PlanFault → Type 0
HasPlanFault probes texts fault =
    On probes texts (λ ordered board. (plan : Plan) × SpellsPlan texts.plan plan × (plan_fault (planned_board ordered board plan) ≡ Some fault))

-- the plan isn't sound for the netlist of the design on the board, for this reason
abbrev pub IsUnsound : List Word → PlanTexts → Reason → Type 0
IsUnsound probes texts reason =
    On probes texts (λ ordered board. (plan : Plan) × SpellsPlan texts.plan plan × IsBadPlan (planned_board ordered board plan) reason)

-- the plan text has a fault, or its plan isn't sound
abbrev pub IsNoPlan : List Word → PlanTexts → Reason → Type 0
IsNoPlan probes texts reason = IsBadPlanText texts.plan reason ⊎ IsUnsound probes texts reason

-- ---- chips that are given

-- each cell has a place
abbrev pub HavePlace : List Word → PlanTexts → Type 0
HavePlace probes texts = On probes texts (λ ordered board. (chips : List ℕ) × SpellsChips texts.plan chips × HasPlace ordered.flat board chips)

-- the chips have this fault: their number isn't that of the cells, or one isn't a chip, or one has too many cells
abbrev pub HasChipsFault : List Word → PlanTexts → PlanFault → Type 0
HasChipsFault probes texts fault =
    On probes texts (λ ordered board. (chips : List ℕ) × SpellsChips texts.plan chips × (chips_fault ordered.flat board chips ≡ Some fault))

-- they have one, for this reason
abbrev pub HaveNoPlace : List Word → PlanTexts → Reason → Type 0
HaveNoPlace probes texts reason =
    On probes texts (λ ordered board. (chips : List ℕ) × SpellsChips texts.plan chips × IsBadChips ordered board chips reason)

-- the text has no line of chips, or the chips have a fault
abbrev pub AreNoChips : List Word → PlanTexts → Reason → Type 0
AreNoChips probes texts reason = IsBadChipsText texts.plan reason ⊎ HaveNoPlace probes texts reason

-- ---- any of them

-- the cells have room; or a plan is given, and it is sound; or chips are, and each cell has a place
abbrev pub HavePlan : List Word → PlanBy → PlanTexts → Type 0
HavePlan probes made_here texts = HaveRoom probes texts
HavePlan probes (of_file name) texts = (plan : Plan) × IsTheirPlan probes (of_file name) texts plan
HavePlan probes (for_chips name) texts = HavePlace probes texts

-- the status of a refusal for the plan
abbrev pub plan_status : PlanBy → ℕ
plan_status made_here = 6
plan_status (of_file name) = 4
plan_status (for_chips name) = 4

-- those of all refusals up to the plan
abbrev pub plan_statuses : PlanBy → List ℕ
plan_statuses by = 1 ∷ 3 ∷ plan_status by ∷ []

-- the text that is given is held
abbrev pub HoldsGiven : Call → PlanBy → List ℕ → Type 0
HoldsGiven call made_here p = Unit {0}
HoldsGiven call (of_file name) p = Holds call name p
HoldsGiven call (for_chips name) p = Holds call name p

-- its file comes before these
abbrev pub with_given : PlanBy → Files vocabulary → Files vocabulary
with_given made_here others = others
with_given (of_file name) others = (files.Plan, name) ∷ others
with_given (for_chips name) others = (files.Plan, name) ∷ others

module _ (probes : List Word) (design board : List ℕ) where
  -- the files up to the board
  abbrev pub its_design : Files vocabulary
  its_design = (files.Design, design) ∷ []

  abbrev pub its_board : Files vocabulary
  its_board = (files.Design, design) ∷ (files.Board, board) ∷ []

  -- the texts are held, and all files
  pub record HoldTexts (by : PlanBy) (call : Call) (texts : PlanTexts) : Type 0 where
    pub design_held : Holds call design texts.design
    pub board_held : Holds call board texts.board
    pub plan_held : HoldsGiven call by texts.plan

  abbrev pub its_files : PlanBy → Files vocabulary
  its_files by = (files.Design, design) ∷ ((files.Board, board) ∷ with_given by [])

  -- 6: exactly where all chips have room for fewer cells
  pub record MadeStatuses (call : Call) : Type 0 where
    pub no_room : (texts : PlanTexts) → HoldTexts made_here call texts → call.status ≡ 6 → IsRefusedFor vocabulary (IsNoFit probes texts) call
    pub no_room_comes : (texts : PlanTexts) → HoldTexts made_here call texts → HaveNoRoom probes texts
        → IsRefusedFor vocabulary (IsNoFit probes texts) call ⊎ IsStopped vocabulary its_board call

  -- 4: exactly where the plan text has a fault, or its plan isn't sound
  pub record GivenStatuses (plan : List ℕ) (call : Call) : Type 0 where
    pub no_plan : (texts : PlanTexts) → HoldTexts (of_file plan) call texts → call.status ≡ 4 → IsRefusedFor vocabulary (IsNoPlan probes texts) call
    pub no_plan_text_comes : (texts : PlanTexts) (its : Board) → HoldTexts (of_file plan) call texts → Runs probes texts.design → SpellsBoard texts.board its → IsNoPlanText texts.plan
        → IsRefusedFor vocabulary (IsBadPlanText texts.plan) call ⊎ IsStopped vocabulary (its_files (of_file plan)) call
    pub unsound_comes : (texts : PlanTexts) (fault : PlanFault) → HoldTexts (of_file plan) call texts → HasPlanFault probes texts fault
        → IsRefusedFor vocabulary (IsUnsound probes texts) call ⊎ IsStopped vocabulary (its_files (of_file plan)) call
    -- a plan that is told to be absent is a read fault, unless memory runs out, or an earlier file is refused before
    pub absent_plan : IsAbsent call plan → IsUnworked (1 ∷ 3 ∷ []) call

  -- 4: exactly where the text of the chips isn't such a line, or the chips have a fault on this board
  pub record ChipsStatuses (chips : List ℕ) (call : Call) : Type 0 where
    pub no_chips : (texts : PlanTexts) → HoldTexts (for_chips chips) call texts → call.status ≡ 4 → IsRefusedFor vocabulary (AreNoChips probes texts) call
    pub no_chips_text_comes : (texts : PlanTexts) (its : Board) (reason : Reason) → HoldTexts (for_chips chips) call texts → Runs probes texts.design → SpellsBoard texts.board its
        → IsBadChipsText texts.plan reason → IsRefusedFor vocabulary (IsBadChipsText texts.plan) call ⊎ IsStopped vocabulary (its_files (for_chips chips)) call
    pub no_place_comes : (texts : PlanTexts) (fault : PlanFault) → HoldTexts (for_chips chips) call texts → HasChipsFault probes texts fault
        → IsRefusedFor vocabulary (HaveNoPlace probes texts) call ⊎ IsStopped vocabulary (its_files (for_chips chips)) call
    -- chips that are told to be absent are a read fault, unless memory runs out, or an earlier file is refused before
    pub absent_chips : IsAbsent call chips → IsUnworked (1 ∷ 3 ∷ []) call

  abbrev pub ByPlan : PlanBy → Call → Type 0
  ByPlan made_here call = MadeStatuses call
  ByPlan (of_file plan) call = GivenStatuses plan call
  ByPlan (for_chips chips) call = ChipsStatuses chips call

  -- the design runs, so the board comes next
  abbrev pub DesignRuns : Call → Type 0
  DesignRuns call = (d : List ℕ) × Holds call design d × Runs probes d

  pub record PlannedStatuses (by : PlanBy) (call : Call) : Type 0 where
    -- 1: exactly where the design text has a fault, or its design has one, or a probe finds no net, or there is a loop
    pub of_design : FileStatuses vocabulary its_design design [] 1 (IsBadDesign probes) (IsNoDesign probes) (λ its. Unit {0}) call
    -- 3: exactly where the board text has a fault
    pub of_board : FileStatuses vocabulary its_board board (1 ∷ []) 3 IsBadBoard IsNoBoard DesignRuns call
    -- 6 of a plan that is made; 4 of one that is given, or of chips, and where these are absent
    pub by_plan : ByPlan by call
