-- What holds at every place of a course, and what it says of a call.
use Rattle.std.proofs.Common.{◌≡◌, ◌≢◌, ◌<◌, ◌⊎◌, ℕ, List, [], ◌∷◌, ◌++◌, Ok, Err, inl, inr, sym, subst}
use Rattle.vw_outside.specs.Told.{Told, held}
use Rattle.vw_course.specs.declared.unfinished.Unfinished.TheVariants.{ReadFault, WriteFault, NoMemory, Refused}
use Rattle.vw_course.specs.Vocabulary.{Vocabulary, IsNoStop}
use Rattle.vw_course.specs.Outside.{Work, DidPart, ShelfAlone}
use Rattle.vw_course.specs.Course.{Again, once, again, Course, works, refuses, reads, makes, Judged, Kind, Making, judges, made, stage}
use Rattle.vw_course.specs.Follows.{May, Answer, IsAgain, BreaksOff}
use Rattle.vw_course.specs.Endings.{SeenCall, Ends, IsCallOf}
use Rattle.vw_course.specs.Places.{IsOneOf, Files, BreaksHere, ReadsAgainHere, RefusesHere, ReadsHere}
use Rattle.vw_course.specs.Statuses.{DidSome, IsReadStop, IsRefused, HasStatus}
use Rattle.vw_course.proofs.Inductions.{not_untold}
use Rattle.vw_course.proofs.CallLaws.{shelf_alone}
use Rattle.vw_course.proofs.CallTable.{call_table}

-- this holds at every place of a course
abbrev pub Every : {V : Vocabulary} → (Course V → Type 0) → Course V → Type 0
Every Q (works over work) = Q (works over work)
Every Q (refuses reason) = Q (refuses reason)
Every Q (reads file name next) = Q (reads file name next) × ((text : List ℕ) → Every Q (next text))
Every Q (makes A Good Bad Comes apart sure next) =
    Q (makes A Good Bad Comes apart sure next) × ((x : A) (good : Good x) → Every Q (next x good))

-- and so at the one to which the course comes
module _ {V : Vocabulary} (told : List ℕ → Told) {R : Type 0} (P Q : Course V → Type 0) (says : (place : Course V) → P place → Q place → R) where
  pub every_place : (course : Course V) → Every Q course → May told P course → R
  every_place (works over work) all here = says (works over work) here all
  every_place (refuses reason) all here = says (refuses reason) here all
  every_place (reads file name next) all (inl here) = says (reads file name next) here all.0
  every_place (reads file name next) all (inr (text, of, later)) = every_place (next text) (all.1 text) later
  every_place (makes A Good Bad Comes apart sure next) all (inl here) =
      says (makes A Good Bad Comes apart sure next) here all.0
  every_place (makes A Good Bad Comes apart sure next) all (inr (x, good, later)) = every_place (next x good) (all.1 x good) later

-- ---- lists

-- each of these is one of those
abbrev pub AreAmong : {X : Type 0} → List X → List X → Type 0
AreAmong {X = X} these those = (x : X) → IsOneOf these x → IsOneOf those x

pub among_front : {X : Type 0} (these more : List X) → AreAmong these (these ++ more)
among_front [] more x one = absurd one
among_front (y ∷ these) more x (inl is) = inl is
among_front (y ∷ these) more x (inr one) = inr (among_front these more x one)

pub among_back : {X : Type 0} (these more : List X) → AreAmong more (these ++ more)
among_back [] more x one = one
among_back (y ∷ these) more x one = inr (among_back these more x one)

-- a number is none of these
abbrev pub IsNoneOf : List ℕ → ℕ → Type 0
IsNoneOf [] number = Unit {0}
IsNoneOf (one ∷ others) number = (number ≢ one) × IsNoneOf others number

pub none_one : (numbers : List ℕ) (number : ℕ) → IsNoneOf numbers number → IsOneOf numbers number → ⊥
none_one [] number none one = one
none_one (other ∷ others) number none (inl is) = none.0 is
none_one (other ∷ others) number none (inr one) = none_one others number none.1 one

pub none_both : (numbers more : List ℕ) (number : ℕ) → IsNoneOf numbers number → IsNoneOf more number → IsNoneOf (numbers ++ more) number
none_both [] more number none also = also
none_both (one ∷ numbers) more number none also = (none.0, none_both numbers more number none.1 also)

-- ---- what a course keeps to

-- only these files are read again, and work is broken off with these statuses alone
abbrev pub KeepsAgain : {V : Vocabulary} → Files V → List ℕ → Again V → Type 0
KeepsAgain anew broken once = Unit {0}
KeepsAgain {V = V} anew broken (again file name Broken Allowed) =
    IsOneOf anew (file, name) × ((reason : V.Reason) → Broken reason → IsOneOf broken (V.status reason))

-- only these files are read, and those again; and it refuses with these statuses alone, and breaks off with those
abbrev pub Keeps : {V : Vocabulary} → Files V → Files V → List ℕ → List ℕ → Course V → Type 0
Keeps files anew numbers broken (works over work) = KeepsAgain anew broken over
Keeps {V = V} files anew numbers broken (refuses reason) = IsOneOf numbers (V.status reason)
Keeps files anew numbers broken (reads file name next) = IsOneOf files (file, name)
Keeps {V = V} files anew numbers broken (makes A Good Bad Comes apart sure next) = (reason : V.Reason) → Bad reason → IsOneOf numbers (V.status reason)

-- at every place
abbrev pub KeepsTo : {V : Vocabulary} → Files V → Files V → List ℕ → List ℕ → Course V → Type 0
KeepsTo files anew numbers broken course = Every (Keeps files anew numbers broken) course

module _ {V : Vocabulary} (files anew : Files V) (numbers broken : List ℕ) where
  one_number : {A : Type 0} {number : ℕ} (judged : Judged V A number) → IsOneOf numbers number → (reason : V.Reason) → judged.Bad reason
      → IsOneOf numbers (V.status reason)
  one_number judged one reason bad = subst (IsOneOf numbers) (sym (judged.its_status reason bad)) one

  pub keeps_judged : {A : Type 0} {number : ℕ} (judged : Judged V A number) (next : A → Course V) → IsOneOf numbers number
      → ((x : A) → KeepsTo files anew numbers broken (next x)) → KeepsTo files anew numbers broken (judges judged next)
  keeps_judged judged next one later = (one_number judged one, λ x good. later x)

  pub keeps_made : {A : Type 0} {number : ℕ} (making : Making V A number) (next : A → Course V) → IsOneOf numbers number
      → ((x : A) → KeepsTo files anew numbers broken (next x)) → KeepsTo files anew numbers broken (made making next)
  keeps_made making next one later = (one_number making.judged one, λ x good. later x)

  pub keeps_stage : {A : Type 0} (kind : Kind V A) (name : List ℕ) (next : A → Course V) → IsOneOf files (kind.file, name)
      → IsOneOf numbers kind.number → ((x : A) → KeepsTo files anew numbers broken (next x))
      → KeepsTo files anew numbers broken (stage kind name next)
  keeps_stage kind name next at one later = (at, λ text. keeps_judged (kind.judged text) next one later)

  -- so it keeps to more statuses
  module _ (more : List ℕ) (all : AreAmong numbers more) where
    more_here : (place : Course V) → Keeps files anew numbers broken place → Keeps files anew more broken place
    more_here (works over work) is = is
    more_here (refuses reason) one = all (V.status reason) one
    more_here (reads file name next) one = one
    more_here (makes A Good Bad Comes apart sure next) is = λ reason bad. all (V.status reason) (is reason bad)

    pub keeps_more : (course : Course V) → KeepsTo files anew numbers broken course → KeepsTo files anew more broken course
    keeps_more (works over work) is = is
    keeps_more (refuses reason) one = all (V.status reason) one
    keeps_more (reads file name next) is = (is.0, λ text. keeps_more (next text) (is.1 text))
    keeps_more (makes A Good Bad Comes apart sure next) is =
        (more_here (makes A Good Bad Comes apart sure next) is.0, λ x good. keeps_more (next x good) (is.1 x good))

-- each of these files is held
abbrev pub AreHeld : {F : Type 0} → (List ℕ → Told) → List (F × List ℕ) → Type 0
AreHeld told [] = Unit {0}
AreHeld told ((file, name) ∷ files) = ((text : List ℕ) × (told name ≡ held text)) × AreHeld told files

pub one_held : {F : Type 0} (told : List ℕ → Told) (files : List (F × List ℕ)) (file : F) (name : List ℕ) → AreHeld told files
    → IsOneOf files (file, name) → (text : List ℕ) × (told name ≡ held text)
one_held told [] file name are one = absurd one
one_held {F = F} told ((other, own) ∷ files) file name are (inl is) =
    (are.0.0, subst (λ (p : F × List ℕ). told p.1 ≡ held are.0.0) (sym is) are.0.1)
one_held told ((other, own) ∷ files) file name are (inr one) = one_held told files file name are.1 one

-- ---- what that says of its places

module _ {V : Vocabulary} (told : List ℕ → Told) (files anew : Files V) (numbers broken : List ℕ) (course : Course V) (keeps : KeepsTo files anew numbers broken course) where
  abbrev Kept : Course V → Type 0
  Kept = Keeps files anew numbers broken

  refused_here : (reason : V.Reason) (place : Course V) → RefusesHere reason place → Kept place → IsOneOf numbers (V.status reason)
  refused_here reason (works over work) here is = absurd here
  refused_here reason (refuses other) same one = subst (λ (r : V.Reason). IsOneOf numbers (V.status r)) (sym same) one
  refused_here reason (reads file name next) here is = absurd here
  refused_here reason (makes A Good Bad Comes apart sure next) bad is = is reason bad

  pub refused_one : (reason : V.Reason) → May told (RefusesHere reason) course → IsOneOf numbers (V.status reason)
  refused_one reason may = every_place told (RefusesHere reason) Kept (refused_here reason) course keeps may

  -- it never refuses with another status
  pub no_refusal : (number : ℕ) → IsNoneOf numbers number → (reason : V.Reason) → V.status reason ≡ number → May told (RefusesHere reason) course → ⊥
  no_refusal number none reason same may = none_one numbers number none (subst (IsOneOf numbers) same (refused_one reason may))

  broken_by : (over : Again V) (reason : V.Reason) → BreaksOff over told reason → KeepsAgain anew broken over → IsOneOf broken (V.status reason)
  broken_by once reason breaks is = absurd breaks
  broken_by (again file name Broken Allowed) reason breaks is = is.1 reason breaks.1

  broken_here : (reason : V.Reason) (did : Work V.Word) (place : Course V) → BreaksHere told reason did place → Kept place → IsOneOf broken (V.status reason)
  broken_here reason did (works over work) breaks is = broken_by over reason breaks.1 is
  broken_here reason did (refuses other) breaks is = absurd breaks
  broken_here reason did (reads file name next) breaks is = absurd breaks
  broken_here reason did (makes A Good Bad Comes apart sure next) breaks is = absurd breaks

  pub broken_one : (reason : V.Reason) (did : Work V.Word) → May told (BreaksHere told reason did) course → IsOneOf broken (V.status reason)
  broken_one reason did may = every_place told (BreaksHere told reason did) Kept (broken_here reason did) course keeps may

  -- nor does it break off with another one
  pub no_break : (number : ℕ) → IsNoneOf broken number → (reason : V.Reason) (did : Work V.Word) → V.status reason ≡ number
      → May told (BreaksHere told reason did) course → ⊥
  no_break number none reason did same may = none_one broken number none (subst (IsOneOf broken) same (broken_one reason did may))

  -- nor at all where the files that it reads again are held
  held_whole : AreHeld told anew → (over : Again V) (reason : V.Reason) → BreaksOff over told reason → KeepsAgain anew broken over → ⊥
  held_whole are once reason breaks is = breaks
  held_whole are (again file name Broken Allowed) reason breaks is =
      let one = one_held told anew file name are is.0 in not_untold (told name) one.0 one.1 breaks.0

  whole_here : AreHeld told anew → (reason : V.Reason) (did : Work V.Word) (place : Course V) → BreaksHere told reason did place → Kept place → ⊥
  whole_here are reason did (works over work) breaks is = held_whole are over reason breaks.1 is
  whole_here are reason did (refuses other) breaks is = breaks
  whole_here are reason did (reads file name next) breaks is = breaks
  whole_here are reason did (makes A Good Bad Comes apart sure next) breaks is = breaks

  pub no_break_held : AreHeld told anew → (reason : V.Reason) (did : Work V.Word) → May told (BreaksHere told reason did) course → ⊥
  no_break_held are reason did may = every_place told (BreaksHere told reason did) Kept (whole_here are reason did) course keeps may

  -- ---- which files are read

  one_is : (those : Files V) {file other : V.File} {name own : List ℕ} → file ≡ other → name ≡ own → IsOneOf those (other, own) → IsOneOf those (file, name)
  one_is those is same one = rw (is, same) one

  read_here : (file : V.File) (name : List ℕ) (place : Course V) → ReadsHere file name place → Kept place → IsOneOf files (file, name)
  read_here file name (works over work) here is = absurd here
  read_here file name (refuses reason) here is = absurd here
  read_here file name (reads its own next) (is, same) one = one_is files is same one
  read_here file name (makes A Good Bad Comes apart sure next) here is = absurd here

  read_one : (file : V.File) (name : List ℕ) → May told (ReadsHere file name) course → IsOneOf files (file, name)
  read_one file name may = every_place told (ReadsHere file name) Kept (read_here file name) course keeps may

  again_by : (over : Again V) (file : V.File) (name : List ℕ) → IsAgain over file name → KeepsAgain anew broken over → IsOneOf anew (file, name)
  again_by once file name its is = absurd its
  again_by (again other own Broken Allowed) file name (same, so) is = one_is anew same so is.0

  again_here : (file : V.File) (name : List ℕ) (did : Work V.Word) (place : Course V) → ReadsAgainHere told file name did place → Kept place
      → IsOneOf anew (file, name)
  again_here file name did (works over work) here is = again_by over file name here.1 is
  again_here file name did (refuses reason) here is = absurd here
  again_here file name did (reads its own next) here is = absurd here
  again_here file name did (makes A Good Bad Comes apart sure next) here is = absurd here

  pub again_one : (file : V.File) (name : List ℕ) (did : Work V.Word) → May told (ReadsAgainHere told file name did) course → IsOneOf anew (file, name)
  again_one file name did may = every_place told (ReadsAgainHere told file name did) Kept (again_here file name did) course keeps may

-- ---- what it says of a call

module _ {V : Vocabulary} (files anew : Files V) (numbers broken : List ℕ) (course : Course V) (keeps : KeepsTo files anew numbers broken course) (call : SeenCall V.Word) (is : IsCallOf course call) where
  abbrev told : List ℕ → Told
  told = call.before.shelf.told

  -- it ends with one of its statuses
  module _ (also : AreAmong broken numbers) where
    one_of : (refused : IsRefused course call) → IsOneOf numbers (V.status refused.reason)
    one_of refused = by refused.cause where
      by : (May told (RefusesHere refused.reason) course × (call.after ≡ call.before))
          ⊎ ((did : Work V.Word) × May told (BreaksHere told refused.reason did) course × (call.after.shelf ≡ call.before.shelf) × DidPart did call.before call.after)
          → IsOneOf numbers (V.status refused.reason)
      by (inl (may, same)) = refused_one told files anew numbers broken course keeps refused.reason may
      by (inr (did, may, shelf, part)) = also (V.status refused.reason) (broken_one told files anew numbers broken course keeps refused.reason did may)

    status_by : (answer : Answer V) → Ends V answer call.err_before call.err_after call.status → HasStatus numbers call
    status_by (Ok done) ends = inl ends.0
    status_by (Err (ReadFault file)) ends = inr (inl ends.0)
    status_by (Err WriteFault) ends = inr (inr (inl ends.0))
    status_by (Err NoMemory) ends = inr (inr (inr (inl ends.0)))
    status_by (Err (Refused reason)) ends =
        let refused = (call_table course call is).refused (subst (λ (n : ℕ). 0 < n) (sym ends.0) (V.some reason)) (subst IsNoStop (sym ends.0) (V.few reason)) in
        inr (inr (inr (inr (subst (IsOneOf numbers) (sym refused.status) (one_of refused)))))

    pub comes : HasStatus numbers call
    comes = status_by is.answer is.ends

  -- a read fault was counted at one of its files; where it was read again, a part of such work was done
  module _ (also : AreAmong anew files) (What : Work V.Word → Type 0) (says : (file : V.File) (name : List ℕ) (did : Work V.Word) → May told (ReadsAgainHere told file name did) course → What did) where
    abbrev Cause : V.File → List ℕ → Type 0
    Cause file name = (May told (ReadsHere file name) course × ShelfAlone call.before call.after)
        ⊎ ((did : Work V.Word) × May told (ReadsAgainHere told file name did) course × DidPart did call.before call.after)

    file_by : (file : V.File) (name : List ℕ) → Cause file name → IsOneOf files (file, name) × DidSome What call.before call.after
    file_by file name (inl (may, alone)) = (read_one told files anew numbers broken course keeps file name may, inl (shelf_alone V call.before call.after alone))
    file_by file name (inr (did, may, part)) = (also (file, name) (again_one told files anew numbers broken course keeps file name did may), inr (did, says file name did may, part))

    pub fault_at : call.status ≡ 7 → IsReadStop V What files call
    fault_at status =
        let fault = (call_table course call is).read_fault status in
        let by = file_by fault.file fault.name fault.cause in
        record { file = fault.file; name = fault.name; one = by.0; status = status; counted = fault.counted; part = by.1; message = fault.message }
