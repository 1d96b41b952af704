-- The words of some rows, and of further ones.
use Rattle.std.proofs.Common.{◌≡◌, ◌<◌, ◌≤◌, ◌+◌, ℕ, zero, suc, Bool, List, [], ◌∷◌, ◌++◌, length, map, take, drop, get_or, if◌then◌else◌, Option, Some, None, refl, sym, ◌∙◌, ap, ap₂, arith, append-nil}
use Rattle.std.proofs.Math.Path.{fun_ext}
use Rattle.std.proofs.lemmas.Bool.{le-ltb, lt-ltb}
use Rattle.std.proofs.lemmas.List.{take_more, take_all, take_at, take-append-drop, length-take}
use Rattle.vw_net.specs.History.{state_after}
use Rattle.vw_plan.specs.PlannedBoard.{PlannedBoard}
use Rattle.vw_prog.specs.declared.entry.Entry.{Entry}
use Rattle.vw_prog.specs.declared.job.Job.{Job}
use Rattle.vw_prog.specs.declared.word.Word.{Word}
use Rattle.vw_prog.specs.Fabric.{Carried}
use Rattle.vw_prog.specs.Scripts.{planned_of, script, script_before, value_at, word_at}
use Rattle.vw_prog.specs.Timetable.{passes}
use Rattle.vw_batches.specs.Traffic.{clock_word, words_from, scripts_of, grown_by, after_rows}
use Rattle.vw_batches.proofs.JoinedTraffic.{words_join}

-- more than one worker uses all links
pub many_workers : (workers : ℕ) (words : ℕ → List Word) → 2 ≤ workers → scripts_of workers words ≡ Some words
many_workers workers words more = ap (λ (few : Bool). if few then None else Some words) (le-ltb workers 2 more)

-- one worker uses none
one_worker : (workers : ℕ) (words : ℕ → List Word) → workers < 2 → scripts_of workers words ≡ None
one_worker workers words few = ap (λ (few : Bool). if few then None else Some words) (lt-ltb workers 2 few)

module _ (planned : PlannedBoard) (link : ℕ) where
  -- the first rows have the first words
  pub words_of_front : (first : ℕ) (state : List Bool) (count : ℕ) (rows : List (List Bool))
      → words_from planned link first state (take count rows) ≡ take (length (words_from planned link first state (take count rows))) (words_from planned link first state rows)
  words_of_front first state count rows =
      let front = words_from planned link first state (take count rows) in
      let rest = words_from planned link (first + length (take count rows)) (state_after planned.ordered.flat state (take count rows)) (drop count rows) in
      let split : words_from planned link first state rows ≡ front ++ rest =
      ap (words_from planned link first state) (sym (take-append-drop count rows)) ∙ words_join planned link first state (take count rows) (drop count rows) in
      sym (ap (take (length front)) split ∙ take_at front rest (length front) refl)

-- ---- the words of a job

module _ (job : Job) (link : ℕ) where
  -- the row of a clock
  abbrev row_at : ℕ → List Bool
  row_at clock = get_or job.rows clock []

  word_same : (clock : ℕ) (entry : Entry) → word_at job clock entry ≡ clock_word job.checked.ordered.flat (job.first + clock) (state_after job.checked.ordered.flat job.start (take clock job.rows)) (row_at clock) entry
  unfolding value_at
  word_same clock entry = refl

  -- the words of the first clocks
  words_before : (clock : ℕ) → clock ≤ length job.rows → script_before job link clock ≡ words_from (planned_of job) link job.first job.start (take clock job.rows)
  words_before zero fits = refl
  words_before (suc clock) fits =
      let flat = job.checked.ordered.flat in
      let planned = planned_of job in
      let front = take clock job.rows in
      let within : clock < length job.rows = omega (arith, fits) in
      let count : length front ≡ clock = omega (arith, length-take clock job.rows, fits) in
      let so_far = words_from planned link job.first job.start front in
      let one : map (word_at job clock) (passes planned link) ≡ words_from planned link (job.first + length front) (state_after flat job.start front) (row_at clock ∷ []) =
      ap (λ (word : Entry → Word). map word (passes planned link)) (fun_ext (word_same clock))
      ∙ ap (λ (n : ℕ). map (clock_word flat (job.first + n) (state_after flat job.start front) (row_at clock)) (passes planned link)) (sym count)
      ∙ sym (append-nil (map (clock_word flat (job.first + length front) (state_after flat job.start front) (row_at clock)) (passes planned link))) in
      ap₂ (λ (xs ys : List Word). xs ++ ys) (words_before clock (omega (arith, fits))) one
      ∙ sym (words_join planned link job.first job.start front (row_at clock ∷ []))
      ∙ ap (words_from planned link job.first job.start) (sym (take_more job.rows clock [] within))
      ∙ ap (λ (n : ℕ). words_from planned link job.first job.start (take n job.rows)) (let next : clock + 1 ≡ suc clock = omega arith in next)

  -- the script of a job is the words of its rows
  pub script_is_words : script job link ≡ words_from (planned_of job) link job.first job.start job.rows
  unfolding script
  script_is_words = words_before (length job.rows) (omega arith) ∙ ap (words_from (planned_of job) link job.first job.start) (take_all (length job.rows) job.rows (omega arith))

-- links that have carried the script of a job have carried its rows
pub job_carried : (workers : ℕ) → 2 ≤ workers → (job same : Job) → same ≡ job → (before between after : Carried) → between ≡ before → after ≡ grown_by (Some (script same)) between
    → after ≡ after_rows workers (planned_of job) job.first job.start job.rows before
job_carried workers more job same is before between after unchanged grown =
    grown ∙ ap₂ (λ (its : Job) (links : Carried). grown_by (Some (script its)) links) is unchanged
    ∙ ap (λ (words : ℕ → List Word). grown_by (Some words) before) (fun_ext (script_is_words job))
    ∙ ap (λ (scripts : Option (ℕ → List Word)). grown_by scripts before) (sym (many_workers workers (λ link. words_from (planned_of job) link job.first job.start job.rows) more))

-- one worker carries nothing
pub none_carried : (workers : ℕ) → workers < 2 → (planned : PlannedBoard) (first : ℕ) (state : List Bool) (rows : List (List Bool)) (links after : Carried) → after ≡ links → after ≡ after_rows workers planned first state rows links
none_carried workers few planned first state rows links after same =
    same ∙ ap (λ (scripts : Option (ℕ → List Word)). grown_by scripts links) (sym (one_worker workers (λ link. words_from planned link first state rows) few))
