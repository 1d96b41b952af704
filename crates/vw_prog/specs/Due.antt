-- Which nets of a node have their values of a clock, after some of its actions. Source: this project.
use Rattle.std.specs.Prelude.{◌≡◌, ◌==◌, ℕ, Bool, not, ◌&&◌, ◌||◌, List, [], ◌∷◌, length, take, slice_get, nat_lt, Some, IsTrue, if◌then◌else◌}
use Rattle.std.specs.List.{All, filter, list_any, range_with_len}
use Rattle.vw_net.specs.Order.{gate_inputs, is_latch}
use Rattle.vw_net.specs.declared.cell.Cell.TheVariants.{Latch}
use Rattle.vw_net.specs.declared.cell.Init.{Init}
use Rattle.vw_plan.specs.Nets.{driving_cell}
use Rattle.vw_plan.specs.PlannedBoard.{PlannedBoard, home}
use Rattle.vw_prog.specs.declared.entry.Entry.{Entry}
use Rattle.vw_prog.specs.Timetable.{entries_at, is_evaluating, is_sending, timetable}

-- whether a net is an input or a latch of a node
abbrev pub is_source : PlannedBoard → ℕ → ℕ → Bool
is_source planned node net =
    (home planned net == node) && (nat_lt net planned.ordered.flat.inputs || is_latch (driving_cell planned.ordered.flat net))

-- whether an entry settles a net's value: it evaluates the net's gate, or takes the net
abbrev pub settles_net : ℕ → Entry → Bool
settles_net net entry = not (is_sending entry) && entry.net == net

-- whether a net of a node has its value of the clock, after these entries
abbrev pub is_due : PlannedBoard → ℕ → List Entry → ℕ → Bool
is_due planned node made net = is_source planned node net || list_any (settles_net net) made

-- the nets that an entry nets_read: those of its gate, or the net that it sends
abbrev pub nets_read : PlannedBoard → Entry → List ℕ
nets_read planned entry = if is_evaluating entry then gate_inputs (driving_cell planned.ordered.flat entry.net) else (if is_sending entry then entry.net ∷ [] else [])

-- the latches of a node, by their nets
abbrev pub own_latches : PlannedBoard → ℕ → List ℕ
own_latches planned node = filter (λ net. is_latch (driving_cell planned.ordered.flat net) && home planned net == node)
    (range_with_len planned.ordered.flat.inputs (length planned.ordered.flat.cells))

-- what a node records at the end of a clock: the host the outputs, a chip its latches
abbrev pub recorded : PlannedBoard → ℕ → List ℕ
recorded planned node = if node == 0 then planned.ordered.flat.outputs else own_latches planned node

-- each entry of a node finds what it nets_read due
abbrev pub FindsReads : PlannedBoard → ℕ → Type 0
FindsReads planned node = (number : ℕ) (entry : Entry) → slice_get (entries_at node (timetable planned)) number ≡ Some entry
    → All (λ net. IsTrue (is_due planned node (take number (entries_at node (timetable planned))) net)) (nets_read planned entry)

-- and its step what it records, and the inputs of its latches
pub record FindsEnds (planned : PlannedBoard) (node : ℕ) : Type 0 where
  pub records : All (λ net. IsTrue (is_due planned node (entries_at node (timetable planned)) net)) (recorded planned node)
  pub inputs : (latch d : ℕ) (init : Init) → driving_cell planned.ordered.flat latch ≡ Some (Latch d init) → home planned latch ≡ node
      → IsTrue (is_due planned node (entries_at node (timetable planned)) d)
