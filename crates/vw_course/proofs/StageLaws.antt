-- A line of a course: a file that is read and judged, or something that is made. How one goes past it, and back from
-- what a call did to it.
use Rattle.std.proofs.Common.{◌≡◌, ◌≢◌, ◌<◌, ◌⊎◌, ℕ, List, inl, inr, sym, ◌∙◌, subst}
use Rattle.vw_outside.specs.Told.{Told, absent, held, IsTextOf}
use Rattle.vw_course.specs.Vocabulary.{Vocabulary, IsNoStop}
use Rattle.vw_course.specs.Outside.{Work, DidPart}
use Rattle.vw_course.specs.Course.{Course, works, refuses, reads, makes, Judged, Kind, Making, judges, made, stage}
use Rattle.vw_course.specs.Follows.{May}
use Rattle.vw_course.specs.Endings.{SeenCall, IsCallOf}
use Rattle.vw_course.specs.Places.{IsOneOf, Files, WorksHere, BreaksHere, ReadsAgainHere, RefusesHere, StandsAt, IsToRefuse, IsToMiss}
use Rattle.vw_course.specs.Statuses.{IsRefusedFor, IsRefused}
use Rattle.vw_course.proofs.Inductions.{its_text, some_place}
use Rattle.vw_course.proofs.CallTable.{call_table}

-- ---- past a line, to where the course stands

module _ {V : Vocabulary} (told : List ℕ → Told) (files : Files V) (P : Course V → Type 0) where
  -- the file is held, and something good is made of its text
  pub past : {A : Type 0} (kind : Kind V A) (name : List ℕ) (next : A → Course V) (text : List ℕ)
      → IsOneOf files (kind.file, name) → told name ≡ held text → (x : A) × (kind.judged text).Good x
      → ((x : A) → (kind.judged text).Good x → StandsAt told files P (next x)) → StandsAt told files P (stage kind name next)
  past kind name next text one holds some later = inr (one, text, holds, inr (some, later))

  -- something good comes to be made
  pub past_judged : {A : Type 0} {number : ℕ} (judged : Judged V A number) (next : A → Course V) → (x : A) × judged.Good x
      → ((x : A) → judged.Good x → StandsAt told files P (next x)) → StandsAt told files P (judges judged next)
  past_judged judged next some later = inr (some, later)

  pub past_made : {A : Type 0} {number : ℕ} (making : Making V A number) (next : A → Course V) → making.Comes
      → ((x : A) → making.judged.Good x → StandsAt told files P (next x)) → StandsAt told files P (made making next)
  past_made making next comes later = inr (comes, later)

-- the file is held, and its text is bad, for a reason as this
pub at_bad : {V : Vocabulary} (told : List ℕ → Told) (files : Files V) {A : Type 0} (kind : Kind V A) (name : List ℕ) (next : A → Course V) (text : List ℕ) (Why : V.Reason → Type 0)
    → IsOneOf files (kind.file, name) → told name ≡ held text → ((reason : V.Reason) → (kind.judged text).Bad reason → Why reason)
    → (reason : V.Reason) × (kind.judged text).Bad reason
    → StandsAt told files (IsToRefuse Why) (stage kind name next)
at_bad told files kind name next text Why one holds why some = inr (one, text, holds, inl (some, why))

-- the file is absent
pub at_absent : {V : Vocabulary} (told : List ℕ → Told) (files : Files V) {A : Type 0} (kind : Kind V A) (name : List ℕ) (next : A → Course V)
    → IsOneOf files (kind.file, name) → told name ≡ absent → StandsAt told files (IsToMiss told files) (stage kind name next)
at_absent told files kind name next one gone = inl (one, gone)

-- ---- back from what a call did

module _ {V : Vocabulary} (told : List ℕ → Told) where
  -- the work of a course with this line is that of the rest, behind something good
  module _ {A : Type 0} (kind : Kind V A) (name : List ℕ) (next : A → Course V) (text : List ℕ) (holds : told name ≡ held text) where
    pub work_past : (did : Work V.Word) → May told (WorksHere told did) (stage kind name next)
        → (x : A) × (kind.judged text).Good x × May told (WorksHere told did) (next x)
    work_past did (inl here) = absurd here
    work_past did (inr (other, of, inl here)) = absurd here
    work_past did (inr (other, of, inr (x, good, later))) =
        (x, subst (λ (t : List ℕ). (kind.judged t).Good x) (its_text (told name) other text holds of) good, later)

    -- a refusal is for a bad text, or comes behind something good
    pub refused_past : (reason : V.Reason) → May told (RefusesHere reason) (stage kind name next)
        → (kind.judged text).Bad reason ⊎ ((x : A) × (kind.judged text).Good x × May told (RefusesHere reason) (next x))
    refused_past reason (inl here) = absurd here
    refused_past reason (inr (other, of, inl bad)) =
        inl (subst (λ (t : List ℕ). (kind.judged t).Bad reason) (its_text (told name) other text holds of) bad)
    refused_past reason (inr (other, of, inr (x, good, later))) =
        inr (x, subst (λ (t : List ℕ). (kind.judged t).Good x) (its_text (told name) other text holds of) good, later)

  module _ {A : Type 0} (kind : Kind V A) (name : List ℕ) (next : A → Course V) where
    -- the same of a file of which nothing need be told
    pub refused_behind : (reason : V.Reason) → kind.number ≢ V.status reason → May told (RefusesHere reason) (stage kind name next)
        → (text : List ℕ) × IsTextOf (told name) text × (x : A) × (kind.judged text).Good x × May told (RefusesHere reason) (next x)
    refused_behind reason differs (inl here) = absurd here
    refused_behind reason differs (inr (text, of, inl bad)) = absurd (differs (sym ((kind.judged text).its_status reason bad)))
    refused_behind reason differs (inr (text, of, inr (x, good, later))) = (text, of, x, good, later)

-- ---- back past lines of whatever files, to where something holds

-- this holds where no file is read, and where something is judged or made, only if that has this status
pub record IsBehind {V : Vocabulary} (number : ℕ) (P : Course V → Type 0) : Type 1 where
  pub at_file : (file : V.File) (name : List ℕ) (next : List ℕ → Course V) → P (reads file name next) → ⊥
  pub at_judging : (A : Type 0) (its : ℕ) (judged : Judged V A its) (next : A → Course V) → its ≢ number → P (judges judged next) → ⊥
  pub at_making : (A : Type 0) (its : ℕ) (making : Making V A its) (next : A → Course V) → its ≢ number → P (made making next) → ⊥

-- so do the work, the work in which a file is read again, and a refusal with the status
module _ {V : Vocabulary} (told : List ℕ → Told) (number : ℕ) where
  pub works_behind : (did : Work V.Word) → IsBehind {V = V} number (WorksHere {V = V} told did)
  works_behind did = record {
    at_file = λ file name next here. here;
    at_judging = λ A its judged next differs here. here;
    at_making = λ A its making next differs here. here;
  }

  pub again_behind : (file : V.File) (name : List ℕ) (did : Work V.Word) → IsBehind {V = V} number (ReadsAgainHere {V = V} told file name did)
  again_behind file name did = record {
    at_file = λ other own next here. here;
    at_judging = λ A its judged next differs here. here;
    at_making = λ A its making next differs here. here;
  }

  pub refusal_behind : (reason : V.Reason) → V.status reason ≡ number → IsBehind {V = V} number (RefusesHere {V = V} reason)
  refusal_behind reason same = record {
    at_file = λ file name next here. here;
    at_judging = λ A its judged next differs bad. differs (sym (judged.its_status reason bad) ∙ same);
    at_making = λ A its making next differs bad. differs (sym (making.judged.its_status reason bad) ∙ same);
  }

module _ {V : Vocabulary} (told : List ℕ → Told) (number : ℕ) (P : Course V → Type 0) (behind : IsBehind number P) where
  pub stage_behind : {A : Type 0} (kind : Kind V A) (name : List ℕ) (next : A → Course V) → kind.number ≢ number → May told P (stage kind name next)
      → (text : List ℕ) × IsTextOf (told name) text × (x : A) × (kind.judged text).Good x × May told P (next x)
  stage_behind {A = A} kind name next differs (inl here) =
      absurd (behind.at_file kind.file name (λ text. judges (kind.judged text) next) here)
  stage_behind {A = A} kind name next differs (inr (text, of, inl here)) =
      absurd (behind.at_judging A kind.number (kind.judged text) next differs here)
  stage_behind kind name next differs (inr (text, of, inr (x, good, later))) = (text, of, x, good, later)

  pub judged_behind : {A : Type 0} {its : ℕ} (judged : Judged V A its) (next : A → Course V) → its ≢ number
      → May told P (judges judged next) → (x : A) × judged.Good x × May told P (next x)
  judged_behind {A = A} {its = its} judged next differs (inl here) =
      absurd (behind.at_judging A its judged next differs here)
  judged_behind judged next differs (inr (x, good, later)) = (x, good, later)

  pub made_behind : {A : Type 0} {its : ℕ} (making : Making V A its) (next : A → Course V) → its ≢ number → May told P (made making next)
      → (x : A) × making.judged.Good x × May told P (next x)
  made_behind {A = A} {its = its} making next differs (inl here) =
      absurd (behind.at_making A its making next differs here)
  made_behind making next differs (inr (x, good, later)) = (x, good, later)

-- work in which a file is read again is work that the course may do
module _ {V : Vocabulary} (told : List ℕ → Told) (file : V.File) (name : List ℕ) (did : Work V.Word) where
  works_again : (place : Course V) → ReadsAgainHere told file name did place → Unit {0} × WorksHere told did place
  works_again (works over work) (does, its) = (tt, does)
  works_again (refuses reason) here = absurd here
  works_again (reads other own next) here = absurd here
  works_again (makes A Good Bad Comes apart sure next) here = absurd here

  pub again_works : (course : Course V) → May told (ReadsAgainHere told file name did) course → May told (WorksHere told did) course
  again_works course may =
      (some_place told (ReadsAgainHere told file name did) (λ (x : Unit {0}). WorksHere told did) works_again course may).1

-- ---- a status says why

module _ {V : Vocabulary} (course : Course V) (call : SeenCall V.Word) (is : IsCallOf course call) where
  abbrev told : List ℕ → Told
  told = call.before.shelf.told

  -- a call that ended with a status was refused for what each refusal with this status says, where no work is broken off
  -- with it
  module _ (number : ℕ) (Why : V.Reason → Type 0) (says : (reason : V.Reason) → V.status reason ≡ number → May told (RefusesHere reason) course → Why reason)
      (unbroken : (reason : V.Reason) (did : Work V.Word) → V.status reason ≡ number → May told (BreaksHere told reason did) course → ⊥) where
    why : (refused : IsRefused course call) → V.status refused.reason ≡ number → IsRefusedFor V Why call
    why refused same = by refused.cause where
      by : (May told (RefusesHere refused.reason) course × (call.after ≡ call.before))
          ⊎ ((did : Work V.Word) × May told (BreaksHere told refused.reason did) course × (call.after.shelf ≡ call.before.shelf) × DidPart did call.before call.after)
          → IsRefusedFor V Why call
      by (inl (may, leaves)) =
          record { reason = refused.reason; why = says refused.reason same may; status = refused.status; leaves = leaves; message = refused.message }
      by (inr (did, may, shelf, part)) = absurd (unbroken refused.reason did same may)

    pub refused_for : 0 < number → IsNoStop number → call.status ≡ number → IsRefusedFor V Why call
    refused_for some few status =
        let refused = (call_table course call is).refused (subst (λ (n : ℕ). 0 < n) (sym status) some) (subst IsNoStop (sym status) few) in
        why refused (sym refused.status ∙ status)
