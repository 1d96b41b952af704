-- What the place to which a course comes says of a call, whichever course it is.
use Rattle.std.proofs.Common.{◌≡◌, ◌⊎◌, ℕ, List, Ok, Err, refl, sym, ap, subst, inl, inr}
use Rattle.vw_outside.specs.Told.{Told, held}
use Rattle.vw_course.specs.declared.unfinished.Unfinished.TheVariants.{ReadFault, WriteFault, NoMemory, Refused}
use Rattle.vw_course.specs.Vocabulary.{Vocabulary}
use Rattle.vw_course.specs.Outside.{SeenOutside, Work}
use Rattle.vw_course.specs.Course.{Again, once, again, Course, works, refuses, reads, makes}
use Rattle.vw_course.specs.Follows.{May, Answer, IsDoneBy, DoesWork, IsAgain, BreaksOff, EndsWorking, EndsRefused, EndsReading, EndsHere}
use Rattle.vw_course.specs.Endings.{SeenCall, Ends, IsCallOf}
use Rattle.vw_course.specs.Places.{IsOneOf, Files, StandsAt, IsHeldAgain, IsToWork, IsToRefuse, IsToMiss}
use Rattle.vw_course.specs.Statuses.{DidSome, NoWork, IsRefusedFor, IsStopped, IsCarriedOut}
use Rattle.vw_course.proofs.Inductions.{no_text, not_untold, stands}
use Rattle.vw_course.proofs.CallLaws.{nothing_done, shelf_alone}

-- ---- a file that is read again and is held

pub held_work : {Word : Type 0} (one : Told) (text : List ℕ) (Allowed : Work Word → Type 0) (work did : Work Word) → one ≡ held text
    → IsDoneBy Allowed one work did → did ≡ work
held_work one text Allowed work did is does = subst (λ (t : Told). IsDoneBy Allowed t work did) is does

module _ (V : Vocabulary) (told : List ℕ → Told) (files : Files V) where
  does_all : (over : Again V) (work did : Work V.Word) → IsHeldAgain told files over → DoesWork over work told did → did ≡ work
  does_all once work did is does = does
  does_all (again file name Broken Allowed) work did (one, text, is) does = held_work (told name) text Allowed work did is does

  done_work : (one : Told) (text : List ℕ) (Allowed : Work V.Word → Type 0) (work : Work V.Word) → one ≡ held text → IsDoneBy Allowed one work work
  done_work one text Allowed work is = subst (λ (t : Told). IsDoneBy Allowed t work work) (sym is) refl

  pub does_work : (over : Again V) (work : Work V.Word) → IsHeldAgain told files over → DoesWork over work told work
  does_work once work is = refl
  does_work (again file name Broken Allowed) work (one, text, is) = done_work (told name) text Allowed work is

  none_broken : (over : Again V) (reason : V.Reason) → IsHeldAgain told files over → BreaksOff over told reason → ⊥
  none_broken once reason is breaks = breaks
  none_broken (again file name Broken Allowed) reason (one, text, is) breaks = not_untold (told name) text is breaks.0

-- ---- how a call ends

module _ (V : Vocabulary) (files : Files V) (call : SeenCall V.Word) where
  abbrev before : SeenOutside V.Word
  before = call.before

  abbrev after : SeenOutside V.Word
  after = call.after

  abbrev pub EndsAs : Answer V → Type 0
  EndsAs answer = Ends V answer call.err_before call.err_after call.status

  -- want of memory on the way
  memory_stops : after ≡ before → EndsAs (Err NoMemory) → IsStopped V files call
  memory_stops same ends =
      inr (record { status = ends.0; shelf = ap (λ (o : SeenOutside V.Word). o.shelf) same; part = inl (nothing_done V before after same); message = ends.1 })

  -- a read of one of these files
  reading_stops : (file : V.File) (name : List ℕ) (answer : Answer V) → IsOneOf files (file, name) → EndsAs answer
      → EndsReading V file name before after answer → IsStopped V files call
  reading_stops file name (Ok done) one ends reading = absurd reading
  reading_stops file name (Err WriteFault) one ends reading = absurd reading
  reading_stops file name (Err NoMemory) one ends same = memory_stops same ends
  reading_stops file name (Err (ReadFault other)) one ends (is, counted, alone) = inl (record {
    file = other;
    name = name;
    one = subst (λ (f : V.File). IsOneOf files (f, name)) (sym is) one;
    status = ends.0;
    counted = counted;
    part = inl (shelf_alone V before after alone);
    message = ends.1;
  })
  reading_stops file name (Err (Refused reason)) one ends reading = absurd reading

  -- a refusal, for such a reason
  refusing_ends : (Bad Why : V.Reason → Type 0) (answer : Answer V) → ((reason : V.Reason) → Bad reason → Why reason) → EndsAs answer
      → EndsRefused V Bad before after answer
      → IsRefusedFor V Why call ⊎ IsStopped V files call
  refusing_ends Bad Why (Ok done) why ends refused = absurd refused
  refusing_ends Bad Why (Err WriteFault) why ends refused = absurd refused
  refusing_ends Bad Why (Err NoMemory) why ends same = inr (memory_stops same ends)
  refusing_ends Bad Why (Err (ReadFault file)) why ends refused = absurd refused
  refusing_ends Bad Why (Err (Refused reason)) why ends (same, bad) =
      inl (record { reason = reason; why = why reason bad; status = ends.0; leaves = same; message = ends.1 })

  stopped_alone : IsRefusedFor V (λ reason. ⊥) call ⊎ IsStopped V files call → IsStopped V files call
  stopped_alone (inl refused) = absurd refused.why
  stopped_alone (inr stopped) = stopped

  -- no refusal where something comes to be made
  making_stops : (Bad : V.Reason → Type 0) (answer : Answer V) → ((reason : V.Reason) → Bad reason → ⊥) → EndsAs answer
      → EndsRefused V Bad before after answer → IsStopped V files call
  making_stops Bad answer none ends refused = stopped_alone (refusing_ends Bad (λ reason. ⊥) answer none ends refused)

  none_done : (What : Work V.Word → Type 0) → DidSome NoWork before after → DidSome What before after
  none_done What (inl nothing) = inl nothing
  none_done What (inr did) = absurd did.1

  -- a stop on the way is one of a call that was to do work
  pub stopped_working : (What : Work V.Word → Type 0) → IsStopped V files call → IsCarriedOut V What files call
  stopped_working What (inl stop) =
      inr (inl (record { file = stop.file; name = stop.name; one = stop.one; status = stop.status; counted = stop.counted; part = none_done What stop.part; message = stop.message }))
  stopped_working What (inr stop) =
      inr (inr (inr (record { status = stop.status; shelf = stop.shelf; part = none_done What stop.part; message = stop.message })))

  -- ---- at the place to which the course comes

  abbrev told : List ℕ → Told
  told = before.shelf.told

  again_one : (over : Again V) (file : V.File) (name : List ℕ) → IsHeldAgain told files over → IsAgain over file name → IsOneOf files (file, name)
  again_one once file name is its = absurd its
  again_one (again other own Broken Allowed) file name is (same, so) =
      subst (λ (n : List ℕ). IsOneOf files (file, n)) (sym so) (subst (λ (f : V.File). IsOneOf files (f, own)) (sym same) is.0)

  module _ (What : Work V.Word → Type 0) where
    working_ends : (over : Again V) (work : Work V.Word) (answer : Answer V) → IsHeldAgain told files over → What work → EndsAs answer
        → EndsWorking over work before after answer → IsCarriedOut V What files call
    working_ends over work (Ok done) is what ends (did, does, leaves) =
        inl (record { did = did; is = subst What (sym (does_all V told files over work did is does)) what; status = ends.0; leaves = leaves; silent = ends.1 })
    working_ends over work (Err WriteFault) is what ends (did, does, shelf, part) =
        inr (inr (inl (record { did = did; is = subst What (sym (does_all V told files over work did is does)) what; status = ends.0; shelf = shelf; part = part; message = ends.1 })))
    working_ends over work (Err NoMemory) is what ends (did, does, shelf, part) =
        inr (inr (inr (record { status = ends.0; shelf = shelf; part = inr (did, subst What (sym (does_all V told files over work did is does)) what, part); message = ends.1 })))
    working_ends over work (Err (ReadFault file)) is what ends (did, does, name, its, counted, part) = inr (inl (record {
      file = file;
      name = name;
      one = again_one over file name is its;
      status = ends.0;
      counted = counted;
      part = inr (did, subst What (sym (does_all V told files over work did is does)) what, part);
      message = ends.1;
    }))
    working_ends over work (Err (Refused reason)) is what ends (did, does, breaks, shelf, part) = absurd (none_broken V told files over reason is breaks)

    works_there : (answer : Answer V) → EndsAs answer → (place : Course V) → IsToWork told files What place
        → May told (EndsHere before after answer) place → IsCarriedOut V What files call
    works_there answer ends (works over work) (is, what) here = working_ends over work answer is what ends here
    works_there answer ends (refuses reason) is here = absurd is
    works_there answer ends (reads file name next) is here = absurd is
    works_there answer ends (makes A Good Bad Comes apart sure next) is here = absurd is

    -- the call of a course that is to do such work
    pub call_works : (course : Course V) → IsCallOf course call → StandsAt told files (IsToWork told files What) course → IsCarriedOut V What files call
    call_works course is comes =
        stands told files (IsToWork told files What) (EndsHere before after is.answer) (works_there is.answer is.ends)
        (λ file name next one here. stopped_working What (reading_stops file name is.answer one is.ends here))
        (λ A Good Bad Comes apart sure next some here. stopped_working What (making_stops Bad is.answer (λ reason. sure reason some) is.ends here))
        course comes is.follows

  module _ (Why : V.Reason → Type 0) where
    refuses_there : (answer : Answer V) → EndsAs answer → (place : Course V) → IsToRefuse Why place
        → May told (EndsHere before after answer) place → IsRefusedFor V Why call ⊎ IsStopped V files call
    refuses_there answer ends (works over work) is here = absurd is
    refuses_there answer ends (refuses reason) is here = refusing_ends (λ other. other ≡ reason) Why answer (λ other same. subst Why (sym same) is) ends here
    refuses_there answer ends (reads file name next) is here = absurd is
    refuses_there answer ends (makes A Good Bad Comes apart sure next) (some, why) (inl here) = refusing_ends Bad Why answer why ends here
    refuses_there answer ends (makes A Good Bad Comes apart sure next) (some, why) (inr (x, good, here)) = absurd (apart x some.0 good some.1)

    -- the call of a course that is to refuse for such a reason
    pub call_refused : (course : Course V) → IsCallOf course call → StandsAt told files (IsToRefuse Why) course
        → IsRefusedFor V Why call ⊎ IsStopped V files call
    call_refused course is comes =
        stands told files (IsToRefuse Why) (EndsHere before after is.answer) (refuses_there is.answer is.ends)
        (λ file name next one here. inr (reading_stops file name is.answer one is.ends here))
        (λ A Good Bad Comes apart sure next some here. inr (making_stops Bad is.answer (λ reason. sure reason some) is.ends here))
        course comes is.follows

  -- the call of a course that is to do such work, or to refuse for such a reason
  module _ (What : Work V.Word → Type 0) (Why : V.Reason → Type 0) where
    abbrev Settled : Type 0
    Settled = IsCarriedOut V What files call ⊎ IsRefusedFor V Why call

    settled : IsRefusedFor V Why call ⊎ IsStopped V files call → Settled
    settled (inl refused) = inr refused
    settled (inr stopped) = inl (stopped_working What stopped)

    settles_there : (answer : Answer V) → EndsAs answer → (place : Course V) → IsToWork told files What place ⊎ IsToRefuse Why place
        → May told (EndsHere before after answer) place → Settled
    settles_there answer ends place (inl is) here = inl (works_there What answer ends place is here)
    settles_there answer ends place (inr is) here = settled (refuses_there Why answer ends place is here)

    pub call_settled : (course : Course V) → IsCallOf course call
        → StandsAt told files (λ place. IsToWork told files What place ⊎ IsToRefuse Why place) course → Settled
    call_settled course is comes =
        stands told files (λ place. IsToWork told files What place ⊎ IsToRefuse Why place) (EndsHere before after is.answer) (settles_there is.answer is.ends)
        (λ file name next one here. inl (stopped_working What (reading_stops file name is.answer one is.ends here)))
        (λ A Good Bad Comes apart sure next some here. inl (stopped_working What (making_stops Bad is.answer (λ reason. sure reason some) is.ends here)))
        course comes is.follows

  misses_there : (answer : Answer V) → EndsAs answer → (place : Course V) → IsToMiss told files place
      → May told (EndsHere before after answer) place → IsStopped V files call
  misses_there answer ends (works over work) is here = absurd is
  misses_there answer ends (refuses reason) is here = absurd is
  misses_there answer ends (reads file name next) (one, gone) (inl here) = reading_stops file name answer one ends here
  misses_there answer ends (reads file name next) (one, gone) (inr (text, of, here)) = absurd (no_text (told name) text gone of)
  misses_there answer ends (makes A Good Bad Comes apart sure next) is here = absurd is

  -- the call of a course that is to read a file that is absent
  pub call_misses : (course : Course V) → IsCallOf course call → StandsAt told files (IsToMiss told files) course → IsStopped V files call
  call_misses course is comes =
      stands told files (IsToMiss told files) (EndsHere before after is.answer) (misses_there is.answer is.ends)
      (λ file name next one here. reading_stops file name is.answer one is.ends here)
      (λ A Good Bad Comes apart sure next some here. making_stops Bad is.answer (λ reason. sure reason some) is.ends here)
      course comes is.follows
