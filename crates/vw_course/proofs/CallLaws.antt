-- What the answer of a call says of its course, whichever course it is.
use Rattle.std.proofs.Common.{◌≡◌, ◌⊎◌, ℕ, List, Ok, Err, refl, ap, inl, inr}
use Rattle.vw_outside.specs.Told.{Told}
use Rattle.vw_outside.specs.Reads.{CountsFault}
use Rattle.vw_course.specs.declared.unfinished.Unfinished.TheVariants.{ReadFault, WriteFault, NoMemory, Refused}
use Rattle.vw_course.specs.Vocabulary.{Vocabulary}
use Rattle.vw_course.specs.Outside.{SeenOutside, Work, with_all, DidPart, FailedInPart, ShelfAlone}
use Rattle.vw_course.specs.Course.{Course, works, refuses, reads, makes}
use Rattle.vw_course.specs.Follows.{May, EndsHere, Follows}
use Rattle.vw_course.specs.Places.{WorksHere, BreaksHere, ReadsAgainHere, RefusesHere, ReadsHere}
use Rattle.vw_course.specs.Statuses.{NothingDone, DidSome}
use Rattle.vw_course.proofs.Inductions.{some_place}

module _ (V : Vocabulary) (before after : SeenOutside V.Word) where
  abbrev told : List ℕ → Told
  told = before.shelf.told

  pub nothing_done : after ≡ before → NothingDone before after
  nothing_done same = (ap (λ (o : SeenOutside V.Word). o.out) same, ap (λ (o : SeenOutside V.Word). o.links) same)

  pub shelf_alone : ShelfAlone before after → NothingDone before after
  shelf_alone same = (ap (λ (o : SeenOutside V.Word). o.out) same, ap (λ (o : SeenOutside V.Word). o.links) same)

  -- ---- carried out

  abbrev pub DidAll : Type 0
  DidAll = (did : Work V.Word) × (after ≡ with_all did before)

  done_here : (place : Course V) → EndsHere before after (Ok tt) place → (x : DidAll) × WorksHere told x.0 place
  done_here (works over work) (did, does, leaves) = ((did, leaves), does)
  done_here (refuses reason) ends = absurd ends
  done_here (reads file name next) ends = absurd ends
  done_here (makes A Good Bad Comes apart sure next) ends = absurd ends

  pub done_by : (course : Course V) → Follows course before after (Ok tt) → (x : DidAll) × May told (WorksHere told x.0) course
  done_by course follows =
      some_place told (EndsHere before after (Ok tt)) (λ (x : DidAll). WorksHere told x.0) done_here course follows

  -- ---- refused

  -- nothing changed, or a part of some work was done before it was broken off
  abbrev pub BrokeOff : Type 0
  BrokeOff = (after ≡ before) ⊎ ((did : Work V.Word) × (after.shelf ≡ before.shelf) × DidPart did before after)

  abbrev pub RefusesAs : V.Reason → BrokeOff → Course V → Type 0
  RefusesAs reason (inl same) place = RefusesHere reason place
  RefusesAs reason (inr broke) place = BreaksHere told reason broke.0 place

  refused_here : (reason : V.Reason) (place : Course V) → EndsHere before after (Err (Refused reason)) place → (x : BrokeOff) × RefusesAs reason x place
  refused_here reason (works over work) (did, does, breaks, shelf, part) = (inr (did, shelf, part), (does, breaks))
  refused_here reason (refuses other) (same, is) = (inl same, is)
  refused_here reason (reads file name next) ends = absurd ends
  refused_here reason (makes A Good Bad Comes apart sure next) (same, bad) = (inl same, bad)

  abbrev pub IsCause : V.Reason → Course V → Type 0
  IsCause reason course =
      (May told (RefusesHere reason) course × (after ≡ before))
      ⊎ ((did : Work V.Word) × May told (BreaksHere told reason did) course × (after.shelf ≡ before.shelf) × DidPart did before after)

  cause_of : (reason : V.Reason) (course : Course V) (x : BrokeOff) → May told (RefusesAs reason x) course → IsCause reason course
  cause_of reason course (inl same) may = inl (may, same)
  cause_of reason course (inr broke) may = inr (broke.0, may, broke.1, broke.2)

  pub refused_by : (reason : V.Reason) (course : Course V) → Follows course before after (Err (Refused reason)) → IsCause reason course
  refused_by reason course follows =
      let is = some_place told (EndsHere before after (Err (Refused reason))) (RefusesAs reason) (refused_here reason) course follows in
      cause_of reason course is.0 is.1

  -- ---- stopped

  -- a file was read, and nothing but the shelf changed; or it was read again, and a part of some work was done
  abbrev pub Stopped : Type 0
  Stopped = ShelfAlone before after ⊎ ((did : Work V.Word) × DidPart did before after)

  abbrev pub ReadAt : Type 0
  ReadAt = (name : List ℕ) × CountsFault name before.shelf after.shelf × Stopped

  abbrev pub ReadsAs : V.File → ReadAt → Course V → Type 0
  ReadsAs file (name, counted, inl alone) place = ReadsHere file name place
  ReadsAs file (name, counted, inr part) place = ReadsAgainHere told file name part.0 place

  read_here : (file : V.File) (place : Course V) → EndsHere before after (Err (ReadFault file)) place → (x : ReadAt) × ReadsAs file x place
  read_here file (works over work) (did, does, name, its, counted, part) = ((name, counted, inr (did, part)), (does, its))
  read_here file (refuses reason) ends = absurd ends
  read_here file (reads other name next) (is, counted, alone) = ((name, counted, inl alone), (is, refl))
  read_here file (makes A Good Bad Comes apart sure next) ends = absurd ends

  abbrev pub IsReadCause : V.File → List ℕ → Course V → Type 0
  IsReadCause file name course =
      (May told (ReadsHere file name) course × ShelfAlone before after)
      ⊎ ((did : Work V.Word) × May told (ReadsAgainHere told file name did) course × DidPart did before after)

  read_cause_of : (file : V.File) (course : Course V) (x : ReadAt) → May told (ReadsAs file x) course
      → (name : List ℕ) × CountsFault name before.shelf after.shelf × IsReadCause file name course
  read_cause_of file course (name, counted, inl alone) may = (name, counted, inl (may, alone))
  read_cause_of file course (name, counted, inr part) may = (name, counted, inr (part.0, may, part.1))

  pub read_by : (file : V.File) (course : Course V) → Follows course before after (Err (ReadFault file))
      → (name : List ℕ) × CountsFault name before.shelf after.shelf × IsReadCause file name course
  read_by file course follows =
      let is = some_place told (EndsHere before after (Err (ReadFault file))) (ReadsAs file) (read_here file) course follows in
      read_cause_of file course is.0 is.1

  abbrev pub FailedWork : Type 0
  FailedWork = (did : Work V.Word) × (after.shelf ≡ before.shelf) × FailedInPart did before after

  write_here : (place : Course V) → EndsHere before after (Err WriteFault) place → (x : FailedWork) × WorksHere told x.0 place
  write_here (works over work) (did, does, shelf, part) = ((did, shelf, part), does)
  write_here (refuses reason) ends = absurd ends
  write_here (reads file name next) ends = absurd ends
  write_here (makes A Good Bad Comes apart sure next) ends = absurd ends

  pub write_by : (course : Course V) → Follows course before after (Err WriteFault) → (x : FailedWork) × May told (WorksHere told x.0) course
  write_by course follows =
      some_place told (EndsHere before after (Err WriteFault)) (λ (x : FailedWork). WorksHere told x.0) write_here course follows

  -- nothing changed, or a part of some work was done
  abbrev pub RanOut : Type 0
  RanOut = (after ≡ before) ⊎ ((did : Work V.Word) × (after.shelf ≡ before.shelf) × DidPart did before after)

  abbrev pub WorksAs : RanOut → Course V → Type 0
  WorksAs (inl same) place = Unit {0}
  WorksAs (inr ran) place = WorksHere told ran.0 place

  memory_here : (place : Course V) → EndsHere before after (Err NoMemory) place → (x : RanOut) × WorksAs x place
  memory_here (works over work) (did, does, shelf, part) = (inr (did, shelf, part), does)
  memory_here (refuses reason) same = (inl same, tt)
  memory_here (reads file name next) same = (inl same, tt)
  memory_here (makes A Good Bad Comes apart sure next) same = (inl same, tt)

  memory_of : (course : Course V) (x : RanOut) → May told (WorksAs x) course
      → (after.shelf ≡ before.shelf) × DidSome (λ did. May told (WorksHere told did) course) before after
  memory_of course (inl same) may = (ap (λ (o : SeenOutside V.Word). o.shelf) same, inl (nothing_done same))
  memory_of course (inr (did, shelf, part)) may = (shelf, inr (did, may, part))

  pub memory_by : (course : Course V) → Follows course before after (Err NoMemory)
      → (after.shelf ≡ before.shelf) × DidSome (λ did. May told (WorksHere told did) course) before after
  memory_by course follows =
      let is = some_place told (EndsHere before after (Err NoMemory)) WorksAs memory_here course follows in
      memory_of course is.0 is.1

  -- a call that is refused could have ended for want of memory
  instead_here : (reason : V.Reason) (place : Course V) → EndsHere before after (Err (Refused reason)) place
      → (x : Unit {0}) × EndsHere before after (Err NoMemory) place
  instead_here reason (works over work) (did, does, breaks, shelf, part) = (tt, (did, does, shelf, part))
  instead_here reason (refuses other) (same, is) = (tt, same)
  instead_here reason (reads file name next) ends = absurd ends
  instead_here reason (makes A Good Bad Comes apart sure next) (same, bad) = (tt, same)

  pub memory_instead : (reason : V.Reason) (course : Course V) → Follows course before after (Err (Refused reason)) → Follows course before after (Err NoMemory)
  memory_instead reason course follows =
      (some_place told (EndsHere before after (Err (Refused reason))) (λ (x : Unit {0}). EndsHere before after (Err NoMemory)) (instead_here reason) course follows).1
