-- What the links of a planned board carry, by the number of workers.
use Rattle.std.proofs.Common.{◌≡◌, ◌≤◌, ℕ, Bool, true, false, List, length, take, Some, None, if◌then◌else◌, refl, sym, ◌∙◌, ap, subst, arith}
use Rattle.std.specs.Prelude.{ltb}
use Rattle.std.proofs.Math.Path.{fun_ext}
use Rattle.std.proofs.lemmas.Bool.{lt-ltb}
use Rattle.vw_net.specs.Cells.{start_values}
use Rattle.vw_net.specs.declared.ordered.Ordered.{Ordered}
use Rattle.vw_outside.specs.Reads.{SeenShelf}
use Rattle.vw_outside.specs.Writes.{SeenSink}
use Rattle.vw_course.specs.declared.outside.Outside.{Outside}
use Rattle.vw_course.specs.Outside.{Carried, fronts}
use Rattle.vw_course.specs.Follows.{Answer}
use Rattle.vw_course.specs.Goes.{GoesOver}
use Rattle.vw_plan.specs.declared.board.Board.{Board}
use Rattle.vw_plan.specs.declared.plan.Plan.{Plan}
use Rattle.vw_plan.specs.PlannedBoard.{PlannedBoard, planned_board}
use Rattle.vw_prog.specs.declared.word.Word.{Word}
use Rattle.vw_batches.specs.Traffic.{words_from}
use Rattle.vw_batches.proofs.LinkWords.{words_of_front}
use Rattle.vw_courses.specs.Messages.{vocabulary}
use Rattle.vw_courses.specs.Commands.{TextOver, Scripts, no_links, netlist_course, scripts_from, board_course}
use Rattle.vw_trace.specs.Triggers.{worked}
use Rattle.vw_top.proofs.StreamedTraces.{HaveParts}
use Rattle.vw_top.proofs.WorkedRows.{worked_front}

-- ---- the words of a planned board

module _ (planned : PlannedBoard) (first : ℕ) (state : List Bool) where
  abbrev words : List (List Bool) → ℕ → List Word
  words rows link = words_from planned link first state rows

  -- over the first rows links carry the first words
  pub parts_from : (until : Bool) (workers : ℕ) → HaveParts (scripts_from until workers planned first state)
  parts_from until workers rows count = (counts, by (ltb workers 2)) where
    all : List (List Bool)
    all = worked until planned.ordered.flat state rows

    counts : ℕ → ℕ
    counts link = length (words (take count all) link)

    front : worked until planned.ordered.flat state (take count rows) ≡ take count all
    front = worked_front until planned.ordered.flat state count rows

    by : (one : Bool) → (if one then None else Some (words (worked until planned.ordered.flat state (take count rows)))) ≡ fronts counts (if one then None else Some (words all))
    by true = refl
    by false = ap (λ (these : List (List Bool)). Some (words these)) front ∙ ap (λ (carried : ℕ → List Word). Some carried) (fun_ext (λ link. words_of_front planned link first state count all))

  -- one worker uses none
  pub alone_from : (until : Bool) (workers : ℕ) → workers ≤ 1 → scripts_from until workers planned first state ≡ no_links
  alone_from until workers few = fun_ext (λ rows. ap (λ (one : Bool). if one then None else Some (words (worked until planned.ordered.flat state rows))) (lt-ltb workers 2 (omega (arith, few))))

-- so a function that follows the course of a netlist without links follows that of a planned board with one worker
module _ {S O : Type 0} (seen_shelf : S → SeenShelf) (seen_out : O → SeenSink) (Moved : Carried vocabulary.Word → Carried vocabulary.Word → Type 0) (stimulus : List ℕ) (unknown : Bool) (ordered : Ordered) (board : Board) (plan : Plan) (text : TextOver Ordered) where
  abbrev planned : PlannedBoard
  planned = planned_board ordered board plan

  abbrev start : List Bool
  start = start_values unknown ordered.flat.cells

  pub goes_alone : (until : Bool) (workers : ℕ) → workers ≤ 1 → {before after : Outside S O} {answer : Answer vocabulary}
      → GoesOver seen_shelf seen_out vocabulary Moved (netlist_course stimulus text no_links ordered) before after answer
      → GoesOver seen_shelf seen_out vocabulary Moved (board_course stimulus text until workers unknown ordered board plan) before after answer
  goes_alone until workers few {before = before} {after = after} {answer = answer} goes =
      subst (λ (scripts : Scripts). GoesOver seen_shelf seen_out vocabulary Moved (netlist_course stimulus text scripts ordered) before after answer) (sym (alone_from planned 0 start until workers few)) goes
