-- The trace that is written while the stimulus is read again, as the end of a course.
use Rattle.std.proofs.Common.{◌≡◌, ℕ, Bool, List, length, take, drop, Option, Result, Ok, Err, refl, sym, ◌∙◌, ap, ap₂, subst}
use Rattle.std.specs.List.{All}
use Rattle.vw_net.specs.declared.ordered.Ordered.{Ordered}
use Rattle.vw_design.specs.Flattened.{IsFlatOf}
use Rattle.vw_front.specs.Designs.{WatchedDesign}
use Rattle.vw_outside.specs.declared.shelf.Shelf as shelves
use Rattle.vw_outside.specs.Told.{Told, untold, absent, held, IsTextOf}
use Rattle.vw_outside.specs.Reads.{SeenShelf}
use Rattle.vw_outside.specs.Writes.{SeenSink}
use Rattle.vw_course.specs.declared.outside.Outside.{Outside}
use Rattle.vw_course.specs.declared.unfinished.Unfinished.{Unfinished}
use Rattle.vw_course.specs.declared.unfinished.Unfinished.TheVariants.{Refused}
use Rattle.vw_course.specs.Outside.{Carried, carried, fronts, CarriedPart}
use Rattle.vw_course.specs.Course.{Course, again}
use Rattle.vw_course.specs.Follows.{Answer, IsDoneBy, EndsWorking}
use Rattle.vw_course.specs.Goes.{seen_outside, IsSame, Goes, GoesOver, MovedFrom}
use Rattle.vw_course.specs.Stages.{EndsStage}
use Rattle.vw_course.proofs.Inductions.{its_text}
use Rattle.vw_course.proofs.GoesLaws.{IsStill, with_text, goes_past, goes_not_past, goes_judged, goes_unjudged, goes_works}
use Rattle.vw_prog.specs.declared.word.Word.{Word}
use Rattle.vw_rows.specs.declared.stimulus.Stimulus.{Stimulus}
use Rattle.vw_rows.specs.declared.rereading.Rereading.{Rereading}
use Rattle.vw_rows.specs.Rereadings.{seen_shelf as seen_rows}
use Rattle.vw_rows.specs.Standing.{StandsIn, StandsWhereHeld, IsAtStart}
use Rattle.vw_rows.specs.Stimulus.{stimulus_rows}
use Rattle.vw_trace.specs.declared.fault.RunFault.{RunFault}
use Rattle.vw_trace.specs.declared.fault.RunFault.TheVariants as runs
use Rattle.vw_trace.specs.Streamed.{IsNotHeld, MayBeRows, EndsStreaming, DoneFor, Streams}
use Rattle.vw_courses.specs.declared.vocabulary.File.{File}
use Rattle.vw_courses.specs.declared.vocabulary.File.TheVariants as files
use Rattle.vw_courses.specs.declared.vocabulary.Reason.{Reason}
use Rattle.vw_courses.specs.Messages.{vocabulary, CallWork}
use Rattle.vw_courses.specs.Kinds.{rows_kind, IsBadStimulus, IsBadAgain}
use Rattle.vw_courses.specs.Commands.{TextOver, Scripts, no_links, tracing, IsSomeTrace, trace_course, RowCheck, no_check, check_by, with_check, checked_rows_course, design_course, netlist_course}
use Rattle.vw_top.specs.Stages.{run_answer}
use Rattle.vw_courses.proofs.TextsOfDesigns.{of_design}
use Rattle.vw_courses.proofs.RowChecks.{PassCheck, FailCheck}

-- ---- from a netlist to its design

-- a function that follows the course of the one follows that of the other
module _ {S O : Type 0} (seen_shelf : S → SeenShelf) (seen_out : O → SeenSink) (stimulus : List ℕ) (text : TextOver WatchedDesign) (flat_text : TextOver Ordered) (scripts : Scripts) where
  pub goes_of_design : {before after : Outside S O} {answer : Answer vocabulary} (watched : WatchedDesign) (ordered : Ordered) → IsFlatOf watched.design watched.nets ordered.flat → ((rows : List (List Bool)) → flat_text ordered rows ≡ text watched rows)
      → Goes seen_shelf seen_out vocabulary (netlist_course stimulus flat_text scripts ordered) before after answer → Goes seen_shelf seen_out vocabulary (design_course stimulus text scripts watched) before after answer
  goes_of_design {before = before} {after = after} {answer = answer} watched ordered is same goes =
      of_design (λ (course : Course vocabulary). Goes seen_shelf seen_out vocabulary course before after answer) stimulus text flat_text scripts watched ordered is same goes

-- ---- what is left of the outside

-- a text that isn't held, and that the name may have, is one of which nothing is told
is_untold : (told : Told) (text : List ℕ) → IsTextOf told text → IsNotHeld told → told ≡ untold
is_untold untold text of none = refl
is_untold absent text of none = absurd of
is_untold (held bytes) text of none = absurd (none bytes refl)

-- what links carry for the first of some rows is a front of what they carry for all
abbrev pub HaveParts : Scripts → Type 0
HaveParts scripts = (rows : List (List Bool)) (count : ℕ) → (counts : ℕ → ℕ) × (scripts (take count rows) ≡ fronts counts (scripts rows))

-- rows that may be those of a text of which this is told: where it is held, they are its rows, and else each has the width
record MayBeAll (told : Told) (width : ℕ) (these : List (List Bool)) : Type 0 where
  same : (text : List ℕ) (all : List (List Bool)) → told ≡ held text → stimulus_rows width text ≡ Ok all → these ≡ all
  wide : IsNotHeld told → All (λ row. length row ≡ width) these

-- so are those that a stimulus at its start still gives
all_given : {told : Told} {name : List ℕ} {width : ℕ} {stimulus : Stimulus} {these : List (List Bool)} → MayBeRows told stimulus these → IsAtStart name width stimulus → MayBeAll told width these
all_given {width = width} {these = these} are starts = record {
  same = λ text all is said. are.same text all is (ap (λ (n : ℕ). stimulus_rows n text) starts.its_width ∙ said) ∙ ap (λ (n : ℕ). drop n all) starts.done;
  wide = λ none. subst (λ (n : ℕ). All (λ row. length row ≡ n) these) starts.its_width (are.wide none);
}

module _ (width : ℕ) (trace : List (List Bool) → List ℕ) (scripts : Scripts) (parts : HaveParts scripts) (name text : List ℕ) (rows : List (List Bool)) (shelf : SeenShelf) (of : IsTextOf (shelf.told name) text) (accepted : stimulus_rows width text ≡ Ok rows)
    (these : List (List Bool)) (are : MayBeAll (shelf.told name) width these) where
  abbrev work : List (List Bool) → CallWork
  work = tracing trace scripts

  abbrev did : CallWork
  did = work these

  done_by : (one : Told) → shelf.told name ≡ one → IsDoneBy (IsSomeTrace width trace scripts) one (work rows) did
  done_by untold told = (these, are.wide (λ other holds. none_held other (sym holds ∙ told)), refl) where
    none_held : (other : List ℕ) → held other ≡ untold → ⊥
    none_held other wrong = cc
  done_by absent told = absurd (subst (λ (t : Told). IsTextOf t text) told of)
  done_by (held bytes) told =
      let same : text ≡ bytes = its_text (shelf.told name) text bytes told of in
      ap work (are.same bytes rows told (subst (λ (t : List ℕ). stimulus_rows width t ≡ Ok rows) same accepted))

  does : IsDoneBy (IsSomeTrace width trace scripts) (shelf.told name) (work rows) did
  does = done_by (shelf.told name) refl

  module _ {Done : List (List Bool) → Type 0} (out : SeenSink) (shelf_after : SeenShelf) (out_after : SeenSink) (links links_after : Carried vocabulary.Word) (so : (some : List (List Bool)) → Done some → links_after ≡ carried (scripts some) links) where
    part_by : (count : ℕ) × Done (take count these) → CarriedPart did.scripts links links_after
    part_by (count, is) =
        let front = parts these count in
        (front.0, so (take count these) is ∙ ap (λ (w : Option (ℕ → List Word)). carried w links) front.1)

    -- the run ends the course
    streamed : (answer : Result (Unit {0}) RunFault) → EndsStreaming name (trace these) shelf out shelf_after out_after answer → DoneFor Done these answer
        → EndsWorking {V = vocabulary} (again files.Stimulus name IsBadAgain (IsSomeTrace width trace scripts)) (work rows) (seen_outside shelf out links) (seen_outside shelf_after out_after links_after) (run_answer answer)
    streamed (Ok done) (same, all) carries = (did, does, λ i. seen_outside (same i) (all i) (so these carries i))
    streamed (Err runs.ReadFault) (counted, part) carries = (did, does, name, (refl, refl), counted, (part, part_by carries))
    streamed (Err runs.WriteFault) (same, failed) carries = (did, does, same, (failed, part_by carries))
    streamed (Err (runs.Stimulus fault)) (none, bad, same, part) carries =
        (did, does, (is_untold (shelf.told name) text of none, (fault, refl, bad)), same, (part, part_by carries))
    streamed (Err runs.NoMemory) (same, part) carries = (did, does, same, (part, part_by carries))

-- ---- a stimulus that was checked

-- a stimulus that was checked stands in the text that is told, where one is
pub stands_held : {before after : SeenShelf} {name : List ℕ} {width : ℕ} {stimulus : Stimulus} → EndsStage files.Stimulus name (λ text one. StandsIn one text) (IsBadStimulus width) before after (Ok stimulus) → IsAtStart name width stimulus
    → StandsWhereHeld stimulus (after.told stimulus.name)
stands_held {before = before} {name = name} {stimulus = stimulus} judged starts other holds =
    let told : before.told name ≡ held other = ap₂ (λ (s : SeenShelf) (n : List ℕ). s.told n) (sym judged.0) (sym starts.its_name) ∙ holds in
    subst (StandsIn stimulus) (its_text (before.told name) judged.1 other told judged.2) judged.3

abbrev Stands : List ℕ → Stimulus → Type 0
Stands text stimulus = StandsIn stimulus text

module _ {S O : Type 0} (seen_shelf : S → SeenShelf) (seen_out : O → SeenSink) (Moved : Carried vocabulary.Word → Carried vocabulary.Word → Type 0) (next : List (List Bool) → Course vocabulary) (rows : List (List Bool)) where
  goes_past_check : (check : RowCheck) (before after : Outside S O) (answer : Answer vocabulary) → PassCheck check rows → GoesOver seen_shelf seen_out vocabulary Moved (next rows) before after answer → GoesOver seen_shelf seen_out vocabulary Moved (with_check check next rows) before after answer
  goes_past_check no_check before after answer pass goes = goes
  goes_past_check (check_by judged) before after answer pass goes = goes_judged seen_shelf seen_out vocabulary Moved (judged rows) (λ done. next rows) tt pass goes

  goes_unfit : IsStill vocabulary Moved → (check : RowCheck) (before : Outside S O) (reason : Reason) → FailCheck check rows reason → GoesOver seen_shelf seen_out vocabulary Moved (with_check check next rows) before before (Err (Refused reason))
  goes_unfit still no_check before reason bad = absurd bad
  goes_unfit still (check_by judged) before reason bad = goes_unjudged seen_shelf seen_out vocabulary Moved (judged rows) (λ done. next rows) still (λ (done : Unit {0}). Unit {0}) before (Refused reason) bad

module _ {S O : Type 0} (seen_shelf : S → SeenShelf) (seen_out : O → SeenSink) (Moved : Carried vocabulary.Word → Carried vocabulary.Word → Type 0) (name : List ℕ) (width : ℕ) (check : RowCheck) (trace : List (List Bool) → List ℕ) (scripts : Scripts) (before mid : Outside S O)
    (same : IsSame seen_shelf seen_out before mid) (out : mid.out.now ≡ before.out.now) where
  abbrev Checked : Result Stimulus (Unfinished File Reason) → Type 0
  Checked result = EndsStage files.Stimulus name Stands (IsBadStimulus width) (seen_shelf before.shelf.now) (seen_shelf mid.shelf.now) result

  -- it is refused, or its check is stopped
  pub goes_unchecked : IsStill vocabulary Moved → (unfinished : Unfinished File Reason) → Checked (Err unfinished) → GoesOver seen_shelf seen_out vocabulary Moved (checked_rows_course name width check trace scripts) before mid (Err unfinished)
  goes_unchecked still unfinished ends =
      goes_not_past seen_shelf seen_out vocabulary Moved (rows_kind width) name Stands (with_check check (trace_course name width trace scripts)) before mid same out still unfinished ends

  -- its rows are known, and they don't pass the check
  pub goes_failing : IsStill vocabulary Moved → (rows : Stimulus) (reason : Reason) → Checked (Ok rows) → IsAtStart name width rows
      → ((all : List (List Bool)) → length all ≡ rows.clocks → FailCheck check all reason)
      → GoesOver seen_shelf seen_out vocabulary Moved (checked_rows_course name width check trace scripts) before mid (Err (Refused reason))
  goes_failing still rows reason ends starts fails =
      goes_past seen_shelf seen_out vocabulary Moved (rows_kind width) name Stands (with_check check (trace_course name width trace scripts)) before mid same out mid (Err (Refused reason)) rows ends
      (λ text made. (
        made.rows,
        ap (λ (n : ℕ). stimulus_rows n text) (sym starts.its_width) ∙ made.accepted,
        goes_unfit seen_shelf seen_out Moved (trace_course name width trace scripts) made.rows still check mid reason (fails made.rows made.clocks),
      ))

  -- a run over it follows the course, where they pass it
  module _ {read : shelves.Ghosts S} (rows rows_after : Rereading S read) where
    pub goes_streaming : HaveParts scripts → {Done : List (List Bool) → Type 0} (after : Outside S O) (answer : Result (Unit {0}) RunFault) → IsSame seen_shelf seen_out mid after → Checked (Ok rows.stimulus.now) → IsAtStart name width rows.stimulus.now
        → ((all : List (List Bool)) → length all ≡ rows.stimulus.now.clocks → PassCheck check all)
        → ((links links_after : Carried vocabulary.Word) → Moved links links_after → (some : List (List Bool)) → Done some → links_after ≡ carried (scripts some) links)
        → seen_rows rows ≡ seen_shelf mid.shelf.now → seen_rows rows_after ≡ seen_shelf after.shelf.now
        → Streams trace Done rows rows_after (seen_out mid.out.now) (seen_out after.out.now) answer
        → GoesOver seen_shelf seen_out vocabulary Moved (checked_rows_course name width check trace scripts) before after (run_answer answer)
    goes_streaming parts after answer still ends starts pass so is_mid is_after streams =
        let shelf = seen_shelf before.shelf.now in
        goes_past seen_shelf seen_out vocabulary Moved (rows_kind width) name (λ text one. IsTextOf (shelf.told name) text × Stands text one) (with_check check (trace_course name width trace scripts)) before mid same out
        after (run_answer answer) rows.stimulus.now (with_text files.Stimulus name Stands (IsBadStimulus width) shelf (seen_shelf mid.shelf.now) rows.stimulus.now ends)
        (λ text made.
        let accepted : stimulus_rows width text ≡ Ok made.1.rows = ap (λ (n : ℕ). stimulus_rows n text) (sym starts.its_width) ∙ made.1.accepted in
        let of : IsTextOf ((seen_shelf mid.shelf.now).told name) text = subst (λ (s : SeenShelf). IsTextOf (s.told name) text) (sym ends.0) made.0 in
        let told : (seen_rows rows).told rows.stimulus.now.name ≡ (seen_shelf mid.shelf.now).told name = ap₂ (λ (s : SeenShelf) (n : List ℕ). s.told n) is_mid starts.its_name in
        let are : MayBeAll ((seen_shelf mid.shelf.now).told name) width streams.rows = all_given (subst (λ (t : Told). MayBeRows t rows.stimulus.now streams.rows) told streams.are) starts in
        let its : EndsStreaming name (trace streams.rows) (seen_shelf mid.shelf.now) (seen_out mid.out.now) (seen_shelf after.shelf.now) (seen_out after.out.now) answer =
        subst (λ (n : List ℕ). EndsStreaming n (trace streams.rows) (seen_shelf mid.shelf.now) (seen_out mid.out.now) (seen_shelf after.shelf.now) (seen_out after.out.now) answer) starts.its_name
        (subst (λ (s : SeenShelf). EndsStreaming rows.stimulus.now.name (trace streams.rows) (seen_shelf mid.shelf.now) (seen_out mid.out.now) s (seen_out after.out.now) answer) is_after
        (subst (λ (s : SeenShelf). EndsStreaming rows.stimulus.now.name (trace streams.rows) s (seen_out mid.out.now) (seen_rows rows_after) (seen_out after.out.now) answer) is_mid streams.ends)) in (
          made.1.rows,
          accepted,
          goes_past_check seen_shelf seen_out Moved (trace_course name width trace scripts) made.1.rows check mid after (run_answer answer) (pass made.1.rows made.1.clocks)
              (goes_works seen_shelf seen_out vocabulary Moved (again files.Stimulus name IsBadAgain (IsSomeTrace width trace scripts)) (tracing trace scripts made.1.rows) mid after (run_answer answer) still
              (λ links links_after moved. streamed width trace scripts parts name text made.1.rows (seen_shelf mid.shelf.now) of accepted streams.rows are (seen_out mid.out.now) (seen_shelf after.shelf.now) (seen_out after.out.now) links links_after
              (so links links_after moved) answer its streams.meanwhile)),
        ))

-- ---- links

-- no links carry no part
pub no_parts : HaveParts no_links
no_parts rows count = ((λ link. 0), refl)

-- a run that uses no links leaves them as they were
pub without_links : (Done : List (List Bool) → Type 0) (links links_after : Carried vocabulary.Word) → links_after ≡ links → (some : List (List Bool)) → Done some → links_after ≡ carried (no_links some) links
without_links Done links links_after same some done = same

-- a run that has carried so much has carried it from and to what the fabric tells
pub over_links : {first last : Carried vocabulary.Word} (scripts : Scripts) (links links_after : Carried vocabulary.Word) → MovedFrom first last links links_after → (some : List (List Bool)) → last ≡ carried (scripts some) first → links_after ≡ carried (scripts some) links
over_links scripts links links_after moved some done = moved.1 ∙ done ∙ ap (carried (scripts some)) (sym moved.0)
