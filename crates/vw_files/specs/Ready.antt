-- What the stages of commands make of their files.
use Rattle.std.specs.Prelude.{◌≡◌, ℕ, List, IsTrue}
use Rattle.vw_net.specs.declared.ordered.Ordered.{Ordered}
use Rattle.vw_design.specs.Paths.{Word}
use Rattle.vw_outside.specs.Told.{Told, IsTextOf}
use Rattle.vw_board.specs.BoardText.{Spells as SpellsBoard}
use Rattle.vw_plan.specs.declared.board.Board.{Board}
use Rattle.vw_check.specs.declared.fault.PlanFault.{PlanFault}
use Rattle.vw_check.specs.Answers.{is_plan_fault}
use Rattle.vw_course.specs.Course.{cut}
use Rattle.vw_course.specs.declared.unfinished.Unfinished.{Unfinished}
use Rattle.vw_course.specs.declared.unfinished.Unfinished.TheVariants.{ReadFault, WriteFault, NoMemory, Refused}
use Rattle.vw_plan.specs.declared.checked.Checked.{Checked}
use Rattle.vw_plan.specs.PlannedBoard.{PlannedBoard}
use Rattle.vw_plan.specs.Sound.{IsSound}
use Rattle.vw_courses.specs.declared.vocabulary.File.{File}
use Rattle.vw_courses.specs.declared.vocabulary.Reason.{Reason}
use Rattle.vw_courses.specs.declared.vocabulary.Reason.TheVariants as reasons
use Rattle.vw_courses.specs.Commands.{Rest}
use Rattle.vw_courses.specs.MayPlan.{PlanBy, made_here, of_file, for_chips, IsPlanBy, MaySpell}
use Rattle.vw_files.specs.declared.board_files.PlanBy.{PlanBy as FilesBy}
use Rattle.vw_files.specs.declared.board_files.PlanBy.TheVariants.{Made, Given, Chips}

-- the design, the board and the plan of the planned, which is sound
pub record IsCheckedPlan (planned : PlannedBoard) (checked : Checked) : Type 0 where
  pub sound : IsSound planned
  pub ordered : checked.ordered ≡ planned.ordered
  pub board : checked.board ≡ planned.board
  pub plan : checked.plan ≡ planned.plan

-- the command refuses for the fault of the plan; for want of memory, and for nothing else, it is stopped
abbrev pub EndsFault : PlanFault → Unfinished File Reason → Type 0
EndsFault fault (ReadFault file) = ⊥
EndsFault fault WriteFault = ⊥
EndsFault fault NoMemory = Unit {0}
EndsFault fault (Refused reason) = (reason ≡ reasons.Plan fault) × IsTrue (is_plan_fault fault)

-- ---- a planned board that is ready to run

-- behind a board, nothing more
abbrev pub cut_there : Rest
cut_there ordered board plan = cut

-- by which plan a command goes, as its course has it
abbrev pub by_of : FilesBy → PlanBy
by_of Made = made_here
by_of (Given plan) = of_file plan.now
by_of (Chips chips) = for_chips chips.now

-- this netlist on this board, with such a plan
pub record IsPlanned (told : List ℕ → Told) (by : PlanBy) (ordered : Ordered) (board : Board) (checked : Checked) : Type 0 where
  pub its_ordered : checked.ordered ≡ ordered
  pub its_board : checked.board ≡ board
  pub plan : IsPlanBy told by ordered board checked.plan

-- this netlist on the board of a text that the name may have
pub record IsOnBoard (told : List ℕ → Told) (board : List ℕ) (by : PlanBy) (ordered : Ordered) (checked : Checked) : Type 0 where
  pub its_ordered : checked.ordered ≡ ordered
  pub b : List ℕ
  pub board_of : IsTextOf (told board) b
  pub board_is : SpellsBoard b checked.board
  pub plan : IsPlanBy told by ordered checked.board checked.plan

-- texts that the names may have spell what was made ready
abbrev pub IsReadyBoard : List Word → (List ℕ → Told) → List ℕ → List ℕ → PlanBy → Checked → Type 0
IsReadyBoard probes told design board by checked =
    MaySpell probes design board by told checked.ordered checked.board checked.plan
