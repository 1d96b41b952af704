-- What each status says of a command that runs something over the rows of a stimulus, and writes a text of this run.
use Rattle.std.proofs.Common.{◌≡◌, ◌⊎◌, ℕ, Bool, List, [], ◌∷◌, Ok, refl, sym, ap, subst, inl, inr, ⊎_elim, lit<, arith}
use Rattle.vw_outside.specs.Told.{Told, untold, absent, held}
use Rattle.vw_course.specs.Course.{Course}
use Rattle.vw_course.specs.Follows.{May, IsDoneBy}
use Rattle.vw_course.specs.Endings.{IsCallOf}
use Rattle.vw_course.specs.Places.{IsOneOf, Files, WorksHere, ReadsAgainHere, RefusesHere, StandsAt, IsToWork, IsToRefuse}
use Rattle.vw_course.specs.Statuses.{MayDo}
use Rattle.vw_course.proofs.StandLaws.{held_work, call_refused}
use Rattle.vw_course.proofs.EveryPlace.{KeepsTo, keeps_judged, keeps_stage, no_break_held}
use Rattle.vw_course.proofs.Openings.{end_table}
use Rattle.vw_course.proofs.StageLaws.{IsBehind, past, past_judged, at_bad, judged_behind, work_past, refused_past, works_behind, again_behind, refusal_behind, refused_for}
use Rattle.vw_course.proofs.BarredLaws.{IsBarred, barred_here}
use Rattle.vw_course.proofs.CarriedOut.{text_part}
use Rattle.vw_rows.specs.Stimulus.{stimulus_rows}
use Rattle.vw_courses.specs.declared.vocabulary.File.{File}
use Rattle.vw_courses.specs.declared.vocabulary.File.TheVariants as kinds
use Rattle.vw_courses.specs.declared.vocabulary.Reason.{Reason}
use Rattle.vw_courses.specs.declared.vocabulary.Reason.TheVariants as reasons
use Rattle.vw_courses.specs.Messages.{reason_status, vocabulary, Call, CallWork}
use Rattle.vw_courses.specs.Kinds.{rows_kind, IsBadStimulus, IsRowsOf}
use Rattle.vw_courses.specs.Commands.{TextOver, Scripts, tracing, IsSomeTrace, RowCheck, no_check, check_by, with_check, checked_rows_course, trace_course}
use Rattle.vw_courses.proofs.RowChecks.{PassCheck}
use Rattle.vw_statuses.specs.TracedStatuses.{Subject, AreSpelled, IsTrace, IsAnyTrace, IsTraceOf, IsBadRows, HoldTexts, HoldBoth, Run, IsRun, TracedStatuses}

-- ---- the check of rows

-- a check refuses with one of these statuses
abbrev pub ChecksAmong : RowCheck → List ℕ → Type 0
ChecksAmong no_check numbers = Unit {0}
ChecksAmong (check_by judged) numbers = IsOneOf numbers 11

module _ (next : List (List Bool) → Course vocabulary) (rows : List (List Bool)) where
  keeps_checked : (files anew : Files vocabulary) (numbers broken : List ℕ) (check : RowCheck) → ChecksAmong check numbers
      → KeepsTo files anew numbers broken (next rows) → KeepsTo files anew numbers broken (with_check check next rows)
  keeps_checked files anew numbers broken no_check one keeps = keeps
  keeps_checked files anew numbers broken (check_by judged) one keeps = keeps_judged files anew numbers broken (judged rows) (λ done. next rows) one (λ done. keeps)

  module _ (told : List ℕ → Told) (P : Course vocabulary → Type 0) where
    -- what holds behind stimuli, holds behind the check
    checked_behind : IsBehind 5 P → (check : RowCheck) → May told P (with_check check next rows) → May told P (next rows)
    checked_behind passes no_check may = may
    checked_behind passes (check_by judged) may = (judged_behind told 5 P passes (judged rows) (λ done. next rows) (λ is. omega (arith, is)) may).2

    -- rows that pass it go on
    past_check : (files : Files vocabulary) (check : RowCheck) → PassCheck check rows → StandsAt told files P (next rows)
        → StandsAt told files P (with_check check next rows)
    past_check files no_check pass stands = stands
    past_check files (check_by judged) pass stands = past_judged told files P (judged rows) (λ done. next rows) (tt, pass) (λ done good. stands)

-- ---- the rows of a stimulus

-- a text has one list of rows of a width
pub same_rows : (width : ℕ) (s : List ℕ) (these rows : List (List Bool)) → IsRowsOf width s these → IsRowsOf width s rows → these ≡ rows
same_rows width s these rows those are =
    let said : Ok these ≡ stimulus_rows width s = sym those in let also : stimulus_rows width s ≡ Ok rows = are in cc

module _ (stimulus : List ℕ) (width : ℕ) (check : RowCheck) (trace : List (List Bool) → List ℕ) (scripts : Scripts) where
  abbrev its_rows : Course vocabulary
  its_rows = checked_rows_course stimulus width check trace scripts

  abbrev work : List (List Bool) → CallWork
  work = tracing trace scripts

  abbrev written : List (List Bool) → Course vocabulary
  written = trace_course stimulus width trace scripts

  -- they are checked before
  abbrev next : List (List Bool) → Course vocabulary
  next = with_check check written

  abbrev here : Files vocabulary
  here = (kinds.Stimulus, stimulus) ∷ []

  pub keeps_rows : (files : Files vocabulary) (numbers : List ℕ) → IsOneOf files (kinds.Stimulus, stimulus) → IsOneOf numbers 5
      → ChecksAmong check numbers → KeepsTo files here numbers (5 ∷ []) its_rows
  keeps_rows files numbers one five among = keeps_stage files here numbers (5 ∷ []) (rows_kind width) stimulus next one five
      (λ rows. keeps_checked written rows files here numbers (5 ∷ []) check among (inl refl, λ reason bad. inl (ap reason_status bad.1)))

  module _ (told : List ℕ → Told) where
    pub barred_rows : (numbers : List ℕ) → told stimulus ≡ absent → IsBarred told numbers its_rows
    barred_rows numbers gone = barred_here told numbers (rows_kind width) stimulus next gone

    -- over every shelf, the work is the trace over some rows
    some_rows : (one : Told) (rows : List (List Bool)) (did : CallWork) → IsDoneBy (IsSomeTrace width trace scripts) one (work rows) did
        → (these : List (List Bool)) × (did ≡ work these)
    some_rows untold rows did some = (some.0, some.2)
    some_rows absent rows did is = (rows, is)
    some_rows (held text) rows did is = (rows, is)

    any_rows : (file : File) (name : List ℕ) (did : CallWork) → May told (ReadsAgainHere told file name did) its_rows
        → (rows : List (List Bool)) × (did ≡ work rows)
    any_rows file name did (inl none) = absurd none
    any_rows file name did (inr (s, of, inl none)) = absurd none
    any_rows file name did (inr (s, of, inr (rows, are, is))) =
        some_rows (told stimulus) rows did (checked_behind written rows told (ReadsAgainHere told file name did) (again_behind told 5 file name did) check is).0

    module _ (s : List ℕ) (held_s : told stimulus ≡ held s) where
      -- over one that holds the text, over its rows
      work_rows : (did : CallWork) → May told (WorksHere told did) its_rows → (rows : List (List Bool)) × IsRowsOf width s rows × (did ≡ work rows)
      work_rows did may =
          let later = work_past told (rows_kind width) stimulus next s held_s did may in
          (later.0, later.1, held_work (told stimulus) s (IsSomeTrace width trace scripts) (work later.0) did held_s (checked_behind written later.0 told (WorksHere told did) (works_behind told 5 did) check later.2))

      bad_by : (reason : Reason) → reason_status reason ≡ 5
          → (IsBadStimulus width s reason ⊎ ((rows : List (List Bool)) × IsRowsOf width s rows × May told (RefusesHere reason) (next rows)))
          → IsBadStimulus width s reason
      bad_by reason same (inl bad) = bad
      bad_by reason same (inr more) = absurd (checked_behind written more.0 told (RefusesHere reason) (refusal_behind told 5 reason same) check more.2)

      bad_rows : (reason : Reason) → reason_status reason ≡ 5 → May told (RefusesHere reason) its_rows → IsBadStimulus width s reason
      bad_rows reason same may = bad_by reason same (refused_past told (rows_kind width) stimulus next s held_s reason may)

      module _ (files : Files vocabulary) (one : IsOneOf files (kinds.Stimulus, stimulus)) where
        -- to where it works, and to where it refuses
        to_trace : (What : CallWork → Type 0) (rows : List (List Bool)) → IsRowsOf width s rows → PassCheck check rows → What (work rows)
            → StandsAt told files (IsToWork told files What) its_rows
        to_trace What rows are pass what = past told files (IsToWork told files What) (rows_kind width) stimulus next s one held_s (rows, are)
            (λ these those. past_check written these told (IsToWork told files What) files check (subst (PassCheck check) (sym (same_rows width s these rows those are)) pass)
            ((one, s, held_s), subst (λ (so : List (List Bool)). What (work so)) (sym (same_rows width s these rows those are)) what))

        to_bad_rows : (Why : Reason → Type 0) (reason : Reason) → IsBadStimulus width s reason
            → ((other : Reason) → IsBadStimulus width s other → Why other) → StandsAt told files (IsToRefuse Why) its_rows
        to_bad_rows Why reason bad why = at_bad told files (rows_kind width) stimulus next s Why one held_s why (reason, bad)

-- ---- a course that comes to them

-- of a command with these files and statuses, which uses links so: behind some thing that its texts spell it comes to the rows of
-- its stimulus, and where it is ready, whatever good things it goes on by; and then the rows pass the check for the thing
pub record ComesToRows (subject : Subject) (check : subject.Thing → RowCheck) (text : TextOver subject.Thing) (stimulus : List ℕ) (course : Course vocabulary) (call : Call) (files : Files vocabulary) (numbers : List ℕ) (IsReady : Call → subject.Texts → List ℕ → Type 0) (Uses : Scripts → Type 0) : Type 1 where
  pub keeps : KeepsTo files ((kinds.Stimulus, stimulus) ∷ []) numbers (5 ∷ []) course
  pub behind : (P : Course vocabulary → Type 0) → IsBehind 5 P → May call.before.shelf.told P course
      → (its : subject.Thing) × ((texts : subject.Texts) → subject.Hold call texts → subject.Spells texts its)
      × (scripts : Scripts) × Uses scripts × May call.before.shelf.told P (checked_rows_course stimulus (subject.width its) (check its) (text its) scripts)
  pub comes : (P : Course vocabulary → Type 0) (texts : subject.Texts) (s : List ℕ) → IsReady call texts s → (its : subject.Thing) → subject.Spells texts its
      → ((scripts : Scripts) → Uses scripts → StandsAt call.before.shelf.told files P (checked_rows_course stimulus (subject.width its) (check its) (text its) scripts))
      → StandsAt call.before.shelf.told files P course
  pub ready_held : (texts : subject.Texts) (s : List ℕ) → IsReady call texts s → call.before.shelf.told stimulus ≡ held s
  pub passes : (texts : subject.Texts) (s : List ℕ) → IsReady call texts s → (its : subject.Thing) (rows : List (List Bool))
      → AreSpelled subject texts s its rows → PassCheck (check its) rows
  pub one : IsOneOf files (kinds.Stimulus, stimulus)

module _ (subject : Subject) (check : subject.Thing → RowCheck) (text : TextOver subject.Thing) (stimulus : List ℕ) (course : Course vocabulary) (call : Call) (files : Files vocabulary) (numbers : List ℕ) (IsReady : Call → subject.Texts → List ℕ → Type 0) (Uses : Scripts → Type 0)
    (its : ComesToRows subject check text stimulus course call files numbers IsReady Uses) where
  abbrev told : List ℕ → Told
  told = call.before.shelf.told

  abbrev Any : CallWork → Type 0
  Any = IsAnyTrace subject text Uses

  -- over every shelf it is the text of something over some rows
  any_by : (file : File) (name : List ℕ) (did : CallWork) → May told (ReadsAgainHere told file name did) course → Any did
  any_by file name did may =
      let later = its.behind (ReadsAgainHere told file name did) (again_behind told 5 file name did) may in
      let written = any_rows stimulus (subject.width later.0) (check later.0) (text later.0) later.2 told file name did later.4 in
      record { its = later.0; rows = written.0; scripts = later.2; uses = later.3; is = written.1 }

  module _ (texts : subject.Texts) (s : List ℕ) where
    abbrev Traced : CallWork → Type 0
    Traced = IsTrace subject text texts s Uses

    abbrev Bad : Reason → Type 0
    Bad = IsBadRows subject texts s

  module _ (texts : subject.Texts) (s : List ℕ) (hold : HoldTexts subject text stimulus call texts s) where
    trace_by : (did : CallWork) → MayDo course call did → Traced texts s did
    trace_by did may =
        let later = its.behind (WorksHere told did) (works_behind told 5 did) may in
        let done = work_rows stimulus (subject.width later.0) (check later.0) (text later.0) later.2 told s hold.stimulus_held did later.4 in
        record {
          its = later.0;
          rows = done.0;
          are = record { spells = later.1 texts hold.its_held; rows_are = done.1 };
          scripts = later.2;
          uses = later.3;
          is = done.2;
        }

    rows_why : (reason : Reason) → reason_status reason ≡ 5 → May told (RefusesHere reason) course → Bad texts s reason
    rows_why reason same may =
        let later = its.behind (RefusesHere reason) (refusal_behind told 5 reason same) may in
        (later.0, later.1 texts hold.its_held, bad_rows stimulus (subject.width later.0) (check later.0) (text later.0) later.2 told s hold.stimulus_held reason same later.4)

  module _ (is : IsCallOf course call) (texts : subject.Texts) (s : List ℕ) (ready : IsReady call texts s) where
    refuses : (thing : subject.Thing) (reason : Reason) → subject.Spells texts thing → IsBadStimulus (subject.width thing) s reason
        → StandsAt told files (IsToRefuse (Bad texts s)) course
    refuses thing reason of bad =
        its.comes (IsToRefuse (Bad texts s)) texts s ready thing of
        (λ scripts uses. to_bad_rows stimulus (subject.width thing) (check thing) (text thing) scripts told s (its.ready_held texts s ready) files its.one (Bad texts s) reason bad (λ other so. (thing, of, so)))

  to_run : (run : Run subject text stimulus) → IsRun subject text stimulus IsReady call run
      → StandsAt told files (IsToWork told files (IsTraceOf subject text run.its run.rows Uses)) course
  to_run run is_run =
      its.comes (IsToWork told files (IsTraceOf subject text run.its run.rows Uses)) run.texts run.s is_run.ready run.its is_run.are.spells
      (λ scripts uses. to_trace stimulus (subject.width run.its) (check run.its) (text run.its) scripts told run.s (its.ready_held run.texts run.s is_run.ready) files its.one (IsTraceOf subject text run.its run.rows Uses) run.rows is_run.are.rows_are
      (its.passes run.texts run.s is_run.ready run.its run.rows is_run.are) (scripts, uses, refl))

  pub traced_table : IsCallOf course call → TracedStatuses subject text stimulus files IsReady Uses call
  traced_table is =
      let anew : Files vocabulary = (kinds.Stimulus, stimulus) ∷ [] in
      let ends = end_table files anew numbers (5 ∷ []) course its.keeps (λ file one. ⊎_elim (λ same. subst (IsOneOf files) (sym same) its.one) (λ none. absurd none) one) call is
      (HoldBoth subject text stimulus) (λ both. Traced both.0 both.1) Any (IsRun subject text stimulus IsReady) (λ run. IsTraceOf subject text run.its run.rows Uses)
      (λ both hold did may. trace_by both.0 both.1 hold did may) any_by to_run in
      record {
        no_rows = λ texts s hold. refused_for course call is 5 (Bad texts s) (rows_why texts s hold)
            (λ reason did same may. no_break_held told files anew numbers (5 ∷ []) course its.keeps ((s, hold.stimulus_held), tt) reason did may) (lit< tt) (inl (lit< tt));
        no_rows_comes = λ texts s thing fault ready of said.
            call_refused vocabulary files call (Bad texts s) course is (refuses is texts s ready thing (reasons.Stimulus fault) of (fault, refl, said));
        ends = ends;
        part = λ run is_run. text_part vocabulary (IsTraceOf subject text run.its run.rows Uses) (text run.its run.rows) (λ did does. ap (λ (w : CallWork). w.text) does.2) call files (ends.accepted run is_run);
      }
