-- The table of statuses of a call, whichever its course.
use Rattle.std.proofs.Common.{◌≡◌, ◌<◌, ℕ, List, Ok, Err, refl, inl, inr, arith}
use Rattle.vw_course.specs.declared.unfinished.Unfinished.TheVariants.{ReadFault, WriteFault, NoMemory, Refused}
use Rattle.vw_outside.specs.Told.{Told}
use Rattle.vw_course.specs.Vocabulary.{Vocabulary, IsNoStop}
use Rattle.vw_course.specs.Outside.{Work}
use Rattle.vw_course.specs.Course.{Course, works, refuses, reads, makes}
use Rattle.vw_course.specs.Follows.{May, Answer, Follows}
use Rattle.vw_course.specs.Endings.{SeenCall, Ends, IsCallOf}
use Rattle.vw_course.specs.Places.{Files, WorksHere, RefusesHere, StandsAt, IsToWork, IsToRefuse}
use Rattle.vw_course.specs.Statuses.{IsDone, IsWriteStop, IsMemoryStop, IsRefused, IsReadFault, MayDo, Statuses}
use Rattle.vw_course.proofs.Inductions.{of_held, stands_on}
use Rattle.vw_course.proofs.CallLaws.{done_by, refused_by, read_by, write_by, memory_by}
use Rattle.vw_course.proofs.StandLaws.{does_work, call_works, call_refused, call_misses}

module _ {V : Vocabulary} (course : Course V) (call : SeenCall V.Word) where
  abbrev EndsAs : Answer V → Type 0
  EndsAs answer = Ends V answer call.err_before call.err_after call.status

  abbrev FollowedBy : Answer V → Type 0
  FollowedBy answer = Follows course call.before call.after answer

  -- ---- by the status

  done : (answer : Answer V) → FollowedBy answer → EndsAs answer → call.status ≡ 0 → IsDone (MayDo course call) call
  done (Ok tt) follows ends status =
      let is = done_by V call.before call.after course follows in
      record { did = is.0.0; is = is.1; status = status; leaves = is.0.1; silent = ends.1 }
  done (Err (ReadFault file)) follows ends status = absurd (omega (arith, ends.0, status))
  done (Err WriteFault) follows ends status = absurd (omega (arith, ends.0, status))
  done (Err NoMemory) follows ends status = absurd (omega (arith, ends.0, status))
  done (Err (Refused reason)) follows ends status = absurd (omega (arith, ends.0, status, V.some reason))

  refused : (answer : Answer V) → FollowedBy answer → EndsAs answer → 0 < call.status → IsNoStop call.status → IsRefused course call
  refused (Ok tt) follows ends some few = absurd (omega (arith, ends.0, some))
  refused (Err (ReadFault file)) follows ends some few = absurd (omega (arith, ends.0, few))
  refused (Err WriteFault) follows ends some few = absurd (omega (arith, ends.0, few))
  refused (Err NoMemory) follows ends some few = absurd (omega (arith, ends.0, few))
  refused (Err (Refused reason)) follows ends some few =
      record { reason = reason; status = ends.0; cause = refused_by V call.before call.after reason course follows; message = ends.1 }

  read_fault : (answer : Answer V) → FollowedBy answer → EndsAs answer → call.status ≡ 7 → IsReadFault course call
  read_fault (Ok tt) follows ends status = absurd (omega (arith, ends.0, status))
  read_fault (Err (ReadFault file)) follows ends status =
      let is = read_by V call.before call.after file course follows in
      record { file = file; name = is.0; counted = is.1; cause = is.2; message = ends.1 }
  read_fault (Err WriteFault) follows ends status = absurd (omega (arith, ends.0, status))
  read_fault (Err NoMemory) follows ends status = absurd (omega (arith, ends.0, status))
  read_fault (Err (Refused reason)) follows ends status = absurd (omega (arith, ends.0, status, V.few reason))

  write_fault : (answer : Answer V) → FollowedBy answer → EndsAs answer → call.status ≡ 8 → IsWriteStop (MayDo course call) call
  write_fault (Ok tt) follows ends status = absurd (omega (arith, ends.0, status))
  write_fault (Err (ReadFault file)) follows ends status = absurd (omega (arith, ends.0, status))
  write_fault (Err WriteFault) follows ends status =
      let is = write_by V call.before call.after course follows in
      record { did = is.0.0; is = is.1; status = status; shelf = is.0.1; part = is.0.2; message = ends.1 }
  write_fault (Err NoMemory) follows ends status = absurd (omega (arith, ends.0, status))
  write_fault (Err (Refused reason)) follows ends status = absurd (omega (arith, ends.0, status, V.few reason))

  want_of_memory : (answer : Answer V) → FollowedBy answer → EndsAs answer → call.status ≡ 9 → IsMemoryStop (MayDo course call) call
  want_of_memory (Ok tt) follows ends status = absurd (omega (arith, ends.0, status))
  want_of_memory (Err (ReadFault file)) follows ends status = absurd (omega (arith, ends.0, status))
  want_of_memory (Err WriteFault) follows ends status = absurd (omega (arith, ends.0, status))
  want_of_memory (Err NoMemory) follows ends status =
      let is = memory_by V call.before call.after course follows in
      record { status = status; shelf = is.0; part = is.1; message = ends.1 }
  want_of_memory (Err (Refused reason)) follows ends status = absurd (omega (arith, ends.0, status, V.few reason))

  known : (answer : Answer V) → EndsAs answer → call.status < 12
  known (Ok tt) ends = omega (arith, ends.0)
  known (Err (ReadFault file)) ends = omega (arith, ends.0)
  known (Err WriteFault) ends = omega (arith, ends.0)
  known (Err NoMemory) ends = omega (arith, ends.0)
  known (Err (Refused reason)) ends = omega (arith, ends.0, V.few reason)

-- ---- by the place to which the course comes

module _ {V : Vocabulary} (told : List ℕ → Told) (files : Files V) where
  abbrev Refusing : (Course V → V.Reason → Type 0)
  Refusing course reason = May told (RefusesHere reason) course

  more_refusals : (one more : Course V) → ((reason : V.Reason) → Refusing one reason → Refusing more reason) → (place : Course V)
      → IsToRefuse (Refusing one) place → IsToRefuse (Refusing more) place
  more_refusals one more may (works over work) is = is
  more_refusals one more may (refuses reason) is = may reason is
  more_refusals one more may (reads file name next) is = is
  more_refusals one more may (makes A Good Bad Comes apart sure next) (some, why) = (some, λ reason bad. may reason (why reason bad))

  -- a course that is to refuse is to refuse for a reason for which it may
  refusable : (course : Course V) → StandsAt told files (IsToRefuse (λ reason. Unit {0})) course → StandsAt told files (IsToRefuse (Refusing course)) course
  refusable (works over work) is = is
  refusable (refuses reason) is = refl
  refusable (reads file name next) (inl is) = inl is
  refusable (reads file name next) (inr (one, text, holds, later)) =
      inr (
        one,
        text,
        holds,
        stands_on told files (IsToRefuse (Refusing (next text))) (IsToRefuse (Refusing (reads file name next)))
            (more_refusals (next text) (reads file name next) (λ reason may. inr (text, of_held (told name) text holds, may))) (next text) (refusable (next text) later),
      )
  refusable (makes A Good Bad Comes apart sure next) (inl (some, why)) = inl (some, λ reason bad. inl bad)
  refusable (makes A Good Bad Comes apart sure next) (inr (comes, later)) =
      inr (
        comes,
        λ x good. stands_on told files (IsToRefuse (Refusing (next x good))) (IsToRefuse (Refusing (makes A Good Bad Comes apart sure next)))
            (more_refusals (next x good) (makes A Good Bad Comes apart sure next) (λ reason may. inr (x, good, may))) (next x good) (refusable (next x good) (later x good)),
      )

  abbrev Working : (Course V → Work V.Word → Type 0)
  Working course did = May told (WorksHere told did) course

  more_work : (one more : Course V) → ((did : Work V.Word) → Working one did → Working more did) → (place : Course V)
      → IsToWork told files (Working one) place → IsToWork told files (Working more) place
  more_work one more may (works over work) (again_is, is) = (again_is, may work is)
  more_work one more may (refuses reason) is = is
  more_work one more may (reads file name next) is = is
  more_work one more may (makes A Good Bad Comes apart sure next) is = is

  -- and one that is to do work is to do work that it may do
  workable : (course : Course V) → StandsAt told files (IsToWork told files (λ did. Unit {0})) course
      → StandsAt told files (IsToWork told files (Working course)) course
  workable (works over work) (again_is, is) = (again_is, does_work V told files over work again_is)
  workable (refuses reason) is = is
  workable (reads file name next) (inl is) = inl is
  workable (reads file name next) (inr (one, text, holds, later)) =
      inr (
        one,
        text,
        holds,
        stands_on told files (IsToWork told files (Working (next text))) (IsToWork told files (Working (reads file name next)))
            (more_work (next text) (reads file name next) (λ did may. inr (text, of_held (told name) text holds, may))) (next text) (workable (next text) later),
      )
  workable (makes A Good Bad Comes apart sure next) (inl is) = inl is
  workable (makes A Good Bad Comes apart sure next) (inr (comes, later)) =
      inr (
        comes,
        λ x good. stands_on told files (IsToWork told files (Working (next x good))) (IsToWork told files (Working (makes A Good Bad Comes apart sure next)))
            (more_work (next x good) (makes A Good Bad Comes apart sure next) (λ did may. inr (x, good, may))) (next x good) (workable (next x good) (later x good)),
      )

-- ---- the table

module _ {V : Vocabulary} (course : Course V) (call : SeenCall V.Word) (is : IsCallOf course call) where
  pub call_table : Statuses course call
  call_table = record {
    done = done course call is.answer is.follows is.ends;
    refused = refused course call is.answer is.follows is.ends;
    read_fault = read_fault course call is.answer is.follows is.ends;
    write_fault = write_fault course call is.answer is.follows is.ends;
    want_of_memory = want_of_memory course call is.answer is.follows is.ends;
    known = known course call is.answer is.ends;
    accepted = λ files comes. call_works V files call (MayDo course call) course is (workable call.before.shelf.told files course comes);
    rejected = λ files comes. call_refused V files call (Refusing call.before.shelf.told files course) course is (refusable call.before.shelf.told files course comes);
    absent_file = λ files comes. call_misses V files call course is comes;
  }
