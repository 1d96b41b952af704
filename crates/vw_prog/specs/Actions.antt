-- The actions of a node for one clock: its entries of the timetable, and then a step. Source: this project.
use Rattle.std.specs.Prelude.{◌≡◌, ◌<◌, ◌-◌, ℕ, suc, List, [], ◌∷◌, ◌++◌, length, map, slice_get, slice_index_or, Some, if◌then◌else◌}
use Rattle.vw_plan.specs.PlannedBoard.{PlannedBoard}
use Rattle.vw_prog.specs.declared.action.Action.{Action}
use Rattle.vw_prog.specs.declared.action.Action.TheVariants.{Evaluate, Send, Step, Take}
use Rattle.vw_prog.specs.declared.code.Code.{Code}
use Rattle.vw_prog.specs.declared.entry.Entry.{Entry}
use Rattle.vw_prog.specs.Codes.{IsCode}
use Rattle.vw_prog.specs.Timetable.{entries_at, is_evaluating, is_sending, timetable}

-- the action of an entry, in a netlist with so many inputs
abbrev pub action_of : ℕ → Entry → Action
action_of inputs entry =
    if is_evaluating entry then Evaluate (entry.net - inputs)
    else (if is_sending entry then Send entry.link entry.place entry.net else Take entry.link entry.place entry.net)

abbrev pub actions : PlannedBoard → ℕ → List Action
actions planned node = map (action_of planned.ordered.flat.inputs) (entries_at node (timetable planned)) ++ Step ∷ []

-- the programs of nodes: for each of them a list of actions, and a code
pub record SeenPrograms : Type 0 where
  pub lists : List (List Action)
  pub codes : List Code

-- a program for each node of a board: the host and each chip
pub record ArePrograms (planned : PlannedBoard) (programs : SeenPrograms) : Type 0 where
  pub count : length programs.lists ≡ suc planned.board.chips
  pub each : (node : ℕ) → node < suc planned.board.chips → slice_index_or programs.lists node [] ≡ actions planned node
  pub codes : length programs.codes ≡ suc planned.board.chips
  pub stand : (node : ℕ) (code : Code) → slice_get programs.codes node ≡ Some code → IsCode planned node (actions planned node) code
