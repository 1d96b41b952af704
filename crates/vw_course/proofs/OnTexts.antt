-- From a call over texts at hand to the call that writes its summary.
use Rattle.std.proofs.Common.{◌≡◌, ℕ, List, [], length, take, Option, Some, None, Result, Ok, Err, ◌⊎◌, ⊎_elim, refl, sym, ◌∙◌, ap, ap₂, subst, inl, inr, arith}
use Rattle.std.proofs.Math.Path.{fun_ext}
use Rattle.std.specs.Prelude.{unwrap_or}
use Rattle.std.proofs.Math.Seq.{take-length}
use Rattle.std.proofs.lemmas.List.{append-nil}
use Rattle.vw_outside.specs.declared.unwritten.Unwritten.{Unwritten}
use Rattle.vw_outside.specs.declared.unwritten.Unwritten.TheVariants as unwritten
use Rattle.vw_outside.specs.Told.{held}
use Rattle.vw_outside.specs.Reads.{SeenShelf, CountsFault}
use Rattle.vw_outside.specs.Writes.{SeenSink, appended, WritesOut}
use Rattle.vw_outside.proofs.PiecesWritten.{appended-nil}
use Rattle.vw_course.specs.declared.unfinished.Unfinished.TheVariants.{ReadFault, WriteFault, NoMemory, Refused}
use Rattle.vw_course.specs.Vocabulary.{Vocabulary}
use Rattle.vw_course.specs.Outside.{SeenOutside, Work, Carried, carried, CarriedPart, DidPart, FailedInPart, with_all}
use Rattle.vw_course.specs.Course.{Again, once, again, Course, works, refuses, reads, makes}
use Rattle.vw_course.specs.Follows.{Answer, DoesWork, BreaksOff, EndsWorking, EndsRefused, EndsReading, Follows}
use Rattle.vw_course.specs.Goes.{seen_outside}
use Rattle.vw_course.specs.Stages.{answer_of}
use Rattle.vw_course.specs.OnTexts.{summed, on_texts, EndsSummed}
use Rattle.vw_course.proofs.Inductions.{not_untold}

-- ---- the words of links

-- no word of each link, and all of them
carried_none : {Word : Type 0} (scripts : Option (ℕ → List Word)) (links : Carried Word) → CarriedPart scripts links links
carried_none None links = ((λ link. 0), refl)
carried_none (Some words) None = ((λ link. 0), refl)
carried_none (Some words) (Some had) = ((λ link. 0), ap Some (fun_ext (λ link. sym (append-nil (had link)))))

carried_all : {Word : Type 0} (scripts : Option (ℕ → List Word)) (links : Carried Word) → CarriedPart scripts links (carried scripts links)
carried_all None links = ((λ link. 0), refl)
carried_all (Some words) links =
    ((λ link. length (words link)), ap (λ (all : ℕ → List _). carried (Some all) links) (fun_ext (λ link. sym (take-length (words link)))))

-- ---- the texts that are at hand

module _ (V : Vocabulary) (texts : List ℕ → List ℕ) where
  -- where each name has its text, all of the work is done, and nothing breaks it off
  did_all : (over : Again V) (work did : Work V.Word) → DoesWork over work (λ name. held (texts name)) did → did ≡ work
  did_all once work did does = does
  did_all (again file name Broken Allowed) work did does = does

  unbroken : (over : Again V) (reason : V.Reason) → BreaksOff over (λ name. held (texts name)) reason → ⊥
  unbroken once reason breaks = breaks
  unbroken (again file name Broken Allowed) reason breaks = not_untold (held (texts name)) (texts name) refl breaks.0

  module _ (summary : List ℕ → List ℕ) where
    -- memory may be wanting before anything is done
    pub no_memory : (course : Course V) (before : SeenOutside V.Word) → Follows (on_texts texts summary course) before before (Err NoMemory)
    no_memory (works over work) before =
        (summed summary work, refl, refl, ((0, omega arith, sym (appended-nil before.out)), carried_none work.scripts before.links))
    no_memory (refuses reason) before = refl
    no_memory (reads file name next) before = no_memory (next (texts name)) before
    no_memory (makes A Good Bad Comes apart sure next) before = inl refl

    -- ---- a call over the texts that has ended

    module _ (faults : List ℕ → ℕ) (out : SeenSink) (links : Carried V.Word) (inner : SeenOutside V.Word) where
      abbrev pub over_texts : SeenOutside V.Word
      over_texts = seen_outside (record { told = λ name. held (texts name); faults = faults }) out links

      module _ (sure : (name : List ℕ) → CountsFault name over_texts.shelf inner.shelf → ⊥)
          (trace : List ℕ) (out_is : out.told ≡ Some []) (trace_is : inner.out.told ≡ Some trace)
          (shelf : SeenShelf) (real real_after : SeenSink) where
        abbrev before : SeenOutside V.Word
        before = seen_outside shelf real links

        abbrev after : SeenOutside V.Word
        after = seen_outside shelf real_after inner.links

        -- what was written over the texts
        written_is : (text : List ℕ) → inner.out ≡ appended out text → trace ≡ text
        written_is text is =
            let told : Some trace ≡ Some text = sym trace_is ∙ ap (λ (sink : SeenSink). sink.told) is ∙ ap (λ (so_far : Option (List ℕ)). (appended (record { told = so_far; faults = out.faults }) text).told) out_is in
            ap (λ (one : Option (List ℕ)). unwrap_or one trace) told

        none_written : real_after ≡ real → (text : List ℕ) → real_after ≡ appended real (take 0 text)
        none_written same text = same ∙ sym (appended-nil real)

        -- the summary was written, or a part of it
        summary_written : (work : Work V.Word) (answer : Answer V) → inner.links ≡ carried work.scripts links → inner.out ≡ appended out work.text
            → EndsSummed V (summary trace) real real_after (Ok tt) answer → EndsWorking {V = V} once (summed summary work) before after answer
        summary_written work answer moved text (written, ends, is) =
            subst (EndsWorking {V = V} once (summed summary work) before after) (sym is) (by written (subst (λ (t : List ℕ). WritesOut (summary t) real real_after written) (written_is work.text text) ends)) where
              part : CarriedPart work.scripts links inner.links
              part = subst (CarriedPart work.scripts links) (sym moved) (carried_all work.scripts links)

              by : (written : Result (Unit {0}) Unwritten) → WritesOut (summary work.text) real real_after written → EndsWorking {V = V} once (summed summary work) before after (answer_of written)
              by (Ok done) all = (summed summary work, refl, ap₂ (λ (o : SeenSink) (l : Carried V.Word). seen_outside shelf o l) all moved)
              by (Err unwritten.WriteFault) failed = (summed summary work, refl, refl, (failed, part))
              by (Err unwritten.NoMemory) wrote = (summed summary work, refl, refl, (wrote, part))

        -- the work stopped, and nothing was written
        stopped : (work : Work V.Word) (answer : Answer V) → CarriedPart work.scripts links inner.links → real_after ≡ real → answer ≡ Err NoMemory
            → EndsWorking {V = V} once (summed summary work) before after answer
        stopped work answer part same is = subst (EndsWorking {V = V} once (summed summary work) before after) (sym is)
            (summed summary work, refl, refl, ((0, omega arith, none_written same (summary work.text)), part))

        at_work : (over : Again V) (work : Work V.Word) (ran answer : Answer V) → EndsWorking {V = V} over work over_texts inner ran
            → EndsSummed V (summary trace) real real_after ran answer → EndsWorking {V = V} once (summed summary work) before after answer
        at_work over work (Ok done) answer (did, does, leaves) ends =
            let whole : did ≡ work = did_all over work did does in
            summary_written work answer
            (ap (λ (o : SeenOutside V.Word). o.links) leaves ∙ ap (λ (w : Work V.Word). carried w.scripts links) whole)
            (ap (λ (o : SeenOutside V.Word). o.out) leaves ∙ ap (λ (w : Work V.Word). appended out w.text) whole) ends
        at_work over work (Err WriteFault) answer (did, does, shelf_is, part) (same, is) =
            stopped work answer (subst (λ (w : Work V.Word). CarriedPart w.scripts links inner.links) (did_all over work did does) part.1) same is
        at_work over work (Err NoMemory) answer (did, does, shelf_is, part) (same, is) =
            stopped work answer (subst (λ (w : Work V.Word). CarriedPart w.scripts links inner.links) (did_all over work did does) part.1) same is
        at_work over work (Err (ReadFault file)) answer (did, does, name, its, counted, part) ends = absurd (sure name counted)
        at_work over work (Err (Refused reason)) answer (did, does, breaks, shelf_is, part) ends = absurd (unbroken over reason breaks)

        -- nothing was done
        unchanged : inner ≡ over_texts → real_after ≡ real → after ≡ before
        unchanged same out_same = ap₂ (λ (o : SeenSink) (l : Carried V.Word). seen_outside shelf o l) out_same (ap (λ (o : SeenOutside V.Word). o.links) same)

        at_refusal : (Bad : V.Reason → Type 0) (ran answer : Answer V) → EndsRefused V Bad over_texts inner ran
            → EndsSummed V (summary trace) real real_after ran answer → EndsRefused V Bad before after answer
        at_refusal Bad (Ok done) answer here ends = absurd here
        at_refusal Bad (Err WriteFault) answer here ends = absurd here
        at_refusal Bad (Err NoMemory) answer same (out_same, is) = subst (EndsRefused V Bad before after) (sym is) (unchanged same out_same)
        at_refusal Bad (Err (ReadFault file)) answer here ends = absurd here
        at_refusal Bad (Err (Refused reason)) answer (same, bad) (out_same, is) =
            subst (EndsRefused V Bad before after) (sym is) (unchanged same out_same, bad)

        at_read : (file : V.File) (name : List ℕ) (rest : Course V) (ran answer : Answer V) → EndsReading V file name over_texts inner ran
            → EndsSummed V (summary trace) real real_after ran answer → Follows (on_texts texts summary rest) before after answer
        at_read file name rest (Ok done) answer here ends = absurd here
        at_read file name rest (Err WriteFault) answer here ends = absurd here
        at_read file name rest (Err NoMemory) answer same (out_same, is) =
            subst (λ (one : Answer V). Follows (on_texts texts summary rest) before after one) (sym is)
            (subst (λ (there : SeenOutside V.Word). Follows (on_texts texts summary rest) before there (Err NoMemory)) (sym (unchanged same out_same)) (no_memory rest before))
        at_read file name rest (Err (ReadFault other)) answer (own, counted, alone) ends = absurd (sure name counted)
        at_read file name rest (Err (Refused reason)) answer here ends = absurd here

        pub summed_follows : (course : Course V) (ran answer : Answer V) → Follows course over_texts inner ran
            → EndsSummed V (summary trace) real real_after ran answer → Follows (on_texts texts summary course) before after answer
        summed_follows (works over work) ran answer here ends = at_work over work ran answer here ends
        summed_follows (refuses reason) ran answer here ends = at_refusal (λ other. other ≡ reason) ran answer here ends
        summed_follows (reads file name next) ran answer (inl here) ends = at_read file name (next (texts name)) ran answer here ends
        summed_follows (reads file name next) ran answer (inr (text, of, rest)) ends =
            summed_follows (next (texts name)) ran answer (subst (λ (t : List ℕ). Follows (next t) over_texts inner ran) of rest) ends
        summed_follows (makes A Good Bad Comes apart certain next) ran answer (inl here) ends = inl (at_refusal Bad ran answer here ends)
        summed_follows (makes A Good Bad Comes apart certain next) ran answer (inr (x, good, rest)) ends =
            inr (x, good, summed_follows (next x good) ran answer rest ends)

    -- ---- from the call that wrote its summary back to the call over the texts

    module _ (faults : List ℕ → ℕ) (out : SeenSink) (before after : SeenOutside V.Word) where
      abbrev pub texts_before : SeenOutside V.Word
      texts_before = over_texts faults out before.links before

      does_all : (over : Again V) (work : Work V.Word) → DoesWork over work (λ name. held (texts name)) work
      does_all once work = refl
      does_all (again file name Broken Allowed) work = refl

      -- the same work was done over the texts
      pub done_inside : (course : Course V) → Follows (on_texts texts summary course) before after (Ok tt)
          → (work : Work V.Word) × Follows course texts_before (with_all work texts_before) (Ok tt) × (after ≡ with_all (summed summary work) before)
      done_inside (works over work) (did, does, leaves) =
          (work, (work, does_all over work, refl), leaves ∙ ap (λ (w : Work V.Word). with_all w before) does)
      done_inside (refuses reason) ends = absurd ends
      done_inside (reads file name next) follows =
          let is = done_inside (next (texts name)) follows in (is.0, inr (texts name, refl, is.1), is.2)
      done_inside (makes A Good Bad Comes apart certain next) (inl ends) = absurd ends
      done_inside (makes A Good Bad Comes apart certain next) (inr (x, good, rest)) =
          let is = done_inside (next x good) rest in (is.0, inr (x, good, is.1), is.2)

      -- it is refused over the texts for the same reason, and nothing was done
      pub refused_inside : (reason : V.Reason) (course : Course V) → Follows (on_texts texts summary course) before after (Err (Refused reason))
          → Follows course texts_before texts_before (Err (Refused reason)) × (after ≡ before)
      refused_inside reason (works over work) (did, does, breaks, shelf, part) = absurd breaks
      refused_inside reason (refuses other) (same, is) = ((refl, is), same)
      refused_inside reason (reads file name next) follows =
          let is = refused_inside reason (next (texts name)) follows in (inr (texts name, refl, is.0), is.1)
      refused_inside reason (makes A Good Bad Comes apart certain next) (inl (same, bad)) = (inl (refl, bad), same)
      refused_inside reason (makes A Good Bad Comes apart certain next) (inr (x, good, rest)) =
          let is = refused_inside reason (next x good) rest in (inr (x, good, is.0), is.1)

      -- no read fails
      pub no_read : (file : V.File) (course : Course V) → Follows (on_texts texts summary course) before after (Err (ReadFault file)) → ⊥
      no_read file (works over work) (did, does, name, its, counted, part) = its
      no_read file (refuses reason) ends = ends
      no_read file (reads other name next) follows = no_read file (next (texts name)) follows
      no_read file (makes A Good Bad Comes apart certain next) (inl ends) = ends
      no_read file (makes A Good Bad Comes apart certain next) (inr (x, good, rest)) = no_read file (next x good) rest

      -- where it stopped, it may have stopped over the texts for want of memory, when the links had carried as much
      abbrev pub StoppedInside : Course V → Type 0
      StoppedInside course = (inner : SeenOutside V.Word) × Follows course texts_before inner (Err NoMemory) × (inner.links ≡ after.links)

      stopped_there : (over : Again V) (work : Work V.Word) → CarriedPart work.scripts before.links after.links → StoppedInside (works over work)
      stopped_there over work part =
          (record texts_before { links = after.links }, (work, does_all over work, refl, ((0, omega arith, sym (appended-nil out)), part)), refl)

      stopped_before : (course : Course V) → Follows course texts_before texts_before (Err NoMemory) → after ≡ before → StoppedInside course
      stopped_before course follows same = (texts_before, follows, sym (ap (λ (o : SeenOutside V.Word). o.links) same))

      pub memory_inside : (course : Course V) → Follows (on_texts texts summary course) before after (Err NoMemory) → StoppedInside course
      memory_inside (works over work) (did, does, shelf, part) =
          stopped_there over work (subst (λ (w : Work V.Word). CarriedPart w.scripts before.links after.links) does part.1)
      memory_inside (refuses reason) same = stopped_before (refuses reason) refl same
      memory_inside (reads file name next) follows =
          let is = memory_inside (next (texts name)) follows in (is.0, inr (texts name, refl, is.1), is.2)
      memory_inside (makes A Good Bad Comes apart certain next) (inl same) = stopped_before (makes A Good Bad Comes apart certain next) (inl refl) same
      memory_inside (makes A Good Bad Comes apart certain next) (inr (x, good, rest)) =
          let is = memory_inside (next x good) rest in (is.0, inr (x, good, is.1), is.2)

      pub write_inside : (course : Course V) → Follows (on_texts texts summary course) before after (Err WriteFault) → StoppedInside course
      write_inside (works over work) (did, does, shelf, part) =
          stopped_there over work (subst (λ (w : Work V.Word). CarriedPart w.scripts before.links after.links) does part.1)
      write_inside (refuses reason) ends = absurd ends
      write_inside (reads file name next) follows =
          let is = write_inside (next (texts name)) follows in (is.0, inr (texts name, refl, is.1), is.2)
      write_inside (makes A Good Bad Comes apart certain next) (inl ends) = absurd ends
      write_inside (makes A Good Bad Comes apart certain next) (inr (x, good, rest)) =
          let is = write_inside (next x good) rest in (is.0, inr (x, good, is.1), is.2)

      -- where a write failed, or memory ran out after a part of the summary, all of the work was done over the texts
      abbrev pub SummedInside : (Work V.Word → Type 0) → Course V → Type 0
      SummedInside Part course = (work : Work V.Word) × Follows course texts_before (with_all work texts_before) (Ok tt) × Part (summed summary work)

      abbrev failed_in : Work V.Word → Type 0
      failed_in work = FailedInPart work before after

      abbrev did_part : Work V.Word → Type 0
      did_part work = DidPart work before after

      summed_there : (Part : Work V.Word → Type 0) (over : Again V) (work did : Work V.Word) → did ≡ summed summary work → Part did
          → SummedInside Part (works over work)
      summed_there Part over work did does part = (work, (work, does_all over work, refl), subst Part does part)

      pub failed_inside : (course : Course V) → Follows (on_texts texts summary course) before after (Err WriteFault)
          → SummedInside (λ work. FailedInPart work before after) course
      failed_inside (works over work) (did, does, shelf, part) = summed_there failed_in over work did does part
      failed_inside (refuses reason) ends = absurd ends
      failed_inside (reads file name next) follows =
          let is = failed_inside (next (texts name)) follows in (is.0, inr (texts name, refl, is.1), is.2)
      failed_inside (makes A Good Bad Comes apart certain next) (inl ends) = absurd ends
      failed_inside (makes A Good Bad Comes apart certain next) (inr (x, good, rest)) =
          let is = failed_inside (next x good) rest in (is.0, inr (x, good, is.1), is.2)

      pub part_inside : (course : Course V) → Follows (on_texts texts summary course) before after (Err NoMemory)
          → (after ≡ before) ⊎ SummedInside (λ work. DidPart work before after) course
      part_inside (works over work) (did, does, shelf, part) = inr (summed_there did_part over work did does part)
      part_inside (refuses reason) same = inl same
      part_inside (reads file name next) follows =
          ⊎_elim inl (λ is. inr (is.0, inr (texts name, refl, is.1), is.2)) (part_inside (next (texts name)) follows)
      part_inside (makes A Good Bad Comes apart certain next) (inl same) = inl same
      part_inside (makes A Good Bad Comes apart certain next) (inr (x, good, rest)) =
          ⊎_elim inl (λ is. inr (is.0, inr (x, good, is.1), is.2)) (part_inside (next x good) rest)
