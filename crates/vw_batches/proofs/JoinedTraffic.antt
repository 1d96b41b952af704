-- Laws on the words of some rows and of further ones.
use Rattle.std.proofs.Common.{◌≡◌, ◌+◌, ℕ, suc, Bool, true, false, List, [], ◌∷◌, ◌++◌, length, map, if◌then◌else◌, Some, None, refl, sym, ◌∙◌, ap, ap₂, append_assoc, append-nil, add-zero, add-suc, suc-add}
use Rattle.std.specs.Prelude.{ltb}
use Rattle.std.proofs.Math.Path.{fun_ext}
use Rattle.vw_net.specs.History.{next_state, state_after}
use Rattle.vw_plan.specs.declared.checked.Checked.{Checked}
use Rattle.vw_plan.specs.PlannedBoard.{PlannedBoard, planned_board}
use Rattle.vw_prog.specs.declared.job.Job.{Job}
use Rattle.vw_prog.specs.declared.word.Word.{Word}
use Rattle.vw_prog.specs.Fabric.{Carried}
use Rattle.vw_prog.specs.Scripts.{planned_of}
use Rattle.vw_prog.specs.Timetable.{passes}
use Rattle.vw_trace.specs.Engines.{SeenEngine, engine_after}
use Rattle.vw_batches.specs.Runs.{engine_of}
use Rattle.vw_batches.specs.Traffic.{clock_word, words_from, grown_by, after_rows}

-- the words of some rows, and then of others
pub words_join : (planned : PlannedBoard) (link first : ℕ) (state : List Bool) (rows more : List (List Bool))
    → words_from planned link first state (rows ++ more)
    ≡ words_from planned link first state rows ++ words_from planned link (first + length rows) (state_after planned.ordered.flat state rows) more
words_join planned link first state [] more = ap (λ (n : ℕ). words_from planned link n state more) (sym (add-zero first))
words_join planned link first state (row ∷ rows) more =
    let words = map (clock_word planned.ordered.flat first state row) (passes planned link) in
    let next = next_state planned.ordered.flat row state in
    let last = state_after planned.ordered.flat next rows in
    let so_far = words_from planned link (suc first) next rows in
    ap (λ (rest : List Word). words ++ rest) (words_join planned link (suc first) next rows more)
    ∙ sym (append_assoc words so_far (words_from planned link (suc first + length rows) last more))
    ∙ ap (λ (n : ℕ). (words ++ so_far) ++ words_from planned link n last more) (suc-add first (length rows) ∙ sym (add-suc first (length rows)))

-- what links carry by the clocks of some rows, where links are used or not
abbrev grown : PlannedBoard → ℕ → List Bool → List (List Bool) → Bool → Carried → Carried
grown planned first state rows few links = grown_by (if few then None else Some (λ link. words_from planned link first state rows)) links

module _ (planned : PlannedBoard) (first : ℕ) (state : List Bool) where
  -- over no rows links carry nothing more
  none_grown : (few : Bool) (links : Carried) → links ≡ grown planned first state [] few links
  none_grown true links = refl
  none_grown false None = refl
  none_grown false (Some so_far) = ap (λ (words : ℕ → List Word). Some words) (fun_ext (λ link. sym (append-nil (so_far link))))

  pub after_no_rows : (workers : ℕ) (links : Carried) → links ≡ after_rows workers planned first state [] links
  after_no_rows workers links = none_grown (ltb workers 2) links

  -- over some rows and then more they carry what they carry over all
  more_grown : (rows more : List (List Bool)) (few : Bool) (links : Carried)
      → grown planned (first + length rows) (state_after planned.ordered.flat state rows) more few (grown planned first state rows few links)
      ≡ grown planned first state (rows ++ more) few links
  more_grown rows more true links = refl
  more_grown rows more false None = refl
  more_grown rows more false (Some so_far) = ap (λ (words : ℕ → List Word). Some words) (fun_ext (λ link.
      append_assoc (so_far link) (words_from planned link first state rows)
      (words_from planned link (first + length rows) (state_after planned.ordered.flat state rows) more)
      ∙ ap (λ (words : List Word). so_far link ++ words) (sym (words_join planned link first state rows more))))

-- the same for a board that stands behind the first rows, with as many workers
pub carried_further : (workers others : ℕ) → others ≡ workers → (job other : Job) → other.checked ≡ job.checked → (rows more : List (List Bool)) → engine_of other ≡ engine_after (engine_of job) rows
    → (links between after : Carried) → between ≡ after_rows workers (planned_of job) job.first job.start rows links → after ≡ after_rows others (planned_of other) other.first other.start more between
    → after ≡ after_rows workers (planned_of job) job.first job.start (rows ++ more) links
carried_further workers others same_workers job other same rows more stands links between after one two =
    let planned = planned_of job in
    two
    ∙ ap₂ (λ (n : ℕ) (by : Checked). after_rows n (planned_board by.ordered by.board by.plan) other.first other.start more between) same_workers same
    ∙ ap (λ (e : SeenEngine). after_rows workers planned e.clock e.state more between) stands
    ∙ ap (after_rows workers planned (job.first + length rows) (state_after planned.ordered.flat job.start rows) more) one
    ∙ more_grown planned job.first job.start rows more (ltb workers 2) links
