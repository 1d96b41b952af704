-- Openings of courses: the files that are read and the things that are made before the rest, which goes on by what they give.
use Rattle.std.proofs.Common.{◌≡◌, ◌<◌, ◌⊎◌, ℕ, List, [], ◌∷◌, ◌++◌, inl, refl, sym, subst, ⊎_elim}
use Rattle.vw_outside.specs.Told.{Told, held, IsTextOf}
use Rattle.vw_course.specs.Vocabulary.{Vocabulary, IsNoStop}
use Rattle.vw_course.specs.Outside.{Work}
use Rattle.vw_course.specs.Course.{Course, Kind, stage}
use Rattle.vw_course.specs.Follows.{May}
use Rattle.vw_course.specs.Endings.{SeenCall, IsCallOf}
use Rattle.vw_course.specs.Places.{IsOneOf, Files, BreaksHere, ReadsAgainHere, RefusesHere, StandsAt, IsToWork, IsToRefuse, IsToMiss}
use Rattle.vw_course.specs.Statuses.{IsCarriedOut, MayDo, FileStatuses, EndStatuses}
use Rattle.vw_course.proofs.Inductions.{its_text}
use Rattle.vw_course.proofs.CallTable.{call_table}
use Rattle.vw_course.proofs.StandLaws.{call_works, call_refused, call_misses}
use Rattle.vw_course.proofs.EveryPlace.{AreAmong, among_front, among_back, IsNoneOf, KeepsTo, keeps_stage, fault_at}
use Rattle.vw_course.proofs.StageLaws.{IsBehind, past, at_bad, at_absent, refused_past, stage_behind, refusal_behind, again_works, refused_for}
use Rattle.vw_course.proofs.BarredLaws.{IsBarred, barred_here, barred_later, call_barred}
use Rattle.vw_course.proofs.CarriedOut.{completes, done_as, write_as, memory_as}

-- an opening reads some of these files and refuses with some of these statuses, and the course goes on by something that it may
-- have. Texts that are held spell what it has, and where they have such a thing, it comes to one
pub record IsOpening {V : Vocabulary} (told : List ℕ → Told) (files : Files V) (numbers : List ℕ) {A T : Type 0} (opening : (A → Course V) → Course V) (Has : A → Type 0) (Hold Have : T → Type 0) (Spells : T → A → Type 0) : Type 1 where
  pub keeps : (anew : Files V) (more broken : List ℕ) → AreAmong numbers more → (next : A → Course V)
      → ((x : A) → KeepsTo files anew more broken (next x)) → KeepsTo files anew more broken (opening next)
  pub behind : (number : ℕ) (P : Course V → Type 0) → IsBehind number P → IsNoneOf numbers number → (next : A → Course V)
      → May told P (opening next) → (x : A) × Has x × May told P (next x)
  pub spelled : (texts : T) → Hold texts → (x : A) → Has x → Spells texts x
  pub comes : (P : Course V → Type 0) (texts : T) → Hold texts → Have texts → (next : A → Course V)
      → ((x : A) → Spells texts x → StandsAt told files P (next x)) → StandsAt told files P (opening next)
  pub barred : (all : List ℕ) → AreAmong numbers all → (next : A → Course V) → ((x : A) → IsBarred told all (next x)) → IsBarred told all (opening next)

-- nothing before it
pub no_opening : {V : Vocabulary} (told : List ℕ → Told) (files : Files V) → IsOpening {V = V} told files [] {A = Unit {0}} {T = Unit {0}} (λ next. next tt) (λ x. Unit {0}) (λ t. Unit {0}) (λ t. Unit {0}) (λ t x. Unit {0})
no_opening told files = record {
  keeps = λ anew more broken all next later. later tt;
  behind = λ number P passes none next may. (tt, tt, may);
  spelled = λ texts hold x has. tt;
  comes = λ P texts hold have next there. there tt tt;
  barred = λ all among next later. later tt;
}

-- what a file of this name may have gives such a thing
abbrev pub MayHave : {V : Vocabulary} {A : Type 0} → (List ℕ → Told) → Kind V A → List ℕ → A → Type 0
MayHave told kind name x = (text : List ℕ) × IsTextOf (told name) text × (kind.judged text).Good x

-- a file
module _ {V : Vocabulary} (told : List ℕ → Told) (files : Files V) {A : Type 0} (kind : Kind V A) (name : List ℕ) (at : IsOneOf files (kind.file, name)) where
  pub file_opening : IsOpening told files (kind.number ∷ []) {A = A} {T = List ℕ} (stage kind name) (MayHave told kind name)
      (λ text. told name ≡ held text) (λ text. (x : A) × (kind.judged text).Good x) (λ text. (kind.judged text).Good)
  file_opening = record {
    keeps = λ anew more broken all next later. keeps_stage files anew more broken kind name next at (all kind.number (inl refl)) later;
    behind = λ number P passes none next may.
        let one = stage_behind told number P passes kind name next (λ is. none.0 (sym is)) may in (one.2, (one.0, one.1, one.3), one.4);
    spelled = λ text holds x has. subst (λ (t : List ℕ). (kind.judged t).Good x) (its_text (told name) has.0 text holds has.1) has.2;
    comes = λ P text holds have next there. past told files P kind name next text at holds have there;
    barred = λ all among next later. barred_later told all kind name next (among kind.number (inl refl)) later;
  }

-- one behind the other, which goes by what the first has
module _ {V : Vocabulary} (told : List ℕ → Told) (files : Files V) (numbers more : List ℕ) {A B T U : Type 0}
    (opening : (A → Course V) → Course V) (Has : A → Type 0) (Hold Have : T → Type 0) (Spells : T → A → Type 0) (its : IsOpening told files numbers opening Has Hold Have Spells)
    (inner : A → (B → Course V) → Course V) (HasThen : A → B → Type 0) (HoldThen : U → Type 0) (HaveThen : A → U → Type 0) (SpellsThen : A → U → B → Type 0)
    (then : (x : A) → IsOpening told files more (inner x) (HasThen x) HoldThen (HaveThen x) (SpellsThen x)) where
  none_first : (these those : List ℕ) (number : ℕ) → IsNoneOf (these ++ those) number → IsNoneOf these number
  none_first [] those number none = tt
  none_first (one ∷ these) those number none = (none.0, none_first these those number none.1)

  none_last : (these those : List ℕ) (number : ℕ) → IsNoneOf (these ++ those) number → IsNoneOf those number
  none_last [] those number none = none
  none_last (one ∷ these) those number none = none_last these those number none.1

  pub both_openings : IsOpening told files (numbers ++ more) {A = A × B} {T = T × U} (λ next. opening (λ x. inner x (λ y. next (x, y)))) (λ p. Has p.0 × HasThen p.0 p.1)
      (λ t. Hold t.0 × HoldThen t.1) (λ t. Have t.0 × ((x : A) → Spells t.0 x → HaveThen x t.1)) (λ t p. Spells t.0 p.0 × SpellsThen p.0 t.1 p.1)
  both_openings = record {
    keeps = λ anew all broken among next later. its.keeps anew all broken (λ n one. among n (among_front numbers more n one)) (λ x. inner x (λ y. next (x, y)))
        (λ x. (then x).keeps anew all broken (λ n one. among n (among_back numbers more n one)) (λ y. next (x, y)) (λ y. later (x, y)));
    behind = λ number P passes none next may.
        let one = its.behind number P passes (none_first numbers more number none) (λ x. inner x (λ y. next (x, y))) may in
        let two = (then one.0).behind number P passes (none_last numbers more number none) (λ y. next (one.0, y)) one.2 in
        ((one.0, two.0), (one.1, two.1), two.2);
    spelled = λ texts hold p has. (its.spelled texts.0 hold.0 p.0 has.0, (then p.0).spelled texts.1 hold.1 p.1 has.1);
    comes = λ P texts hold have next there. its.comes P texts.0 hold.0 have.0 (λ x. inner x (λ y. next (x, y)))
        (λ x spells. (then x).comes P texts.1 hold.1 (have.1 x spells) (λ y. next (x, y)) (λ y also. there (x, y) (spells, also)));
    barred = λ all among next later. its.barred all (λ n one. among n (among_front numbers more n one)) (λ x. inner x (λ y. next (x, y)))
        (λ x. (then x).barred all (λ n one. among n (among_back numbers more n one)) (λ y. next (x, y)) (λ y. later (x, y)));
  }

-- the same in other words
module _ {V : Vocabulary} (told : List ℕ → Told) (files : Files V) (numbers : List ℕ) {A B T U : Type 0}
    (opening : (A → Course V) → Course V) (Has : A → Type 0) (Hold Have : T → Type 0) (Spells : T → A → Type 0) (its : IsOpening told files numbers opening Has Hold Have Spells)
    (turned : A → B) (texts : U → T) (HasAs : B → Type 0) (HoldAs HaveAs : U → Type 0) (SpellsAs : U → B → Type 0)
    (has : (x : A) → Has x → HasAs (turned x)) (hold : (u : U) → HoldAs u → Hold (texts u)) (have : (u : U) → HoldAs u → HaveAs u → Have (texts u))
    (spells : (u : U) (x : A) → Spells (texts u) x → SpellsAs u (turned x)) (spelled : (u : U) → HoldAs u → (y : B) → HasAs y → SpellsAs u y) where
  pub opening_as : IsOpening told files numbers (λ next. opening (λ x. next (turned x))) HasAs HoldAs HaveAs SpellsAs
  opening_as = record {
    keeps = λ anew more broken all next later. its.keeps anew more broken all (λ x. next (turned x)) (λ x. later (turned x));
    behind = λ number P passes none next may. let later = its.behind number P passes none (λ x. next (turned x)) may in (turned later.0, has later.0 later.1, later.2);
    spelled = spelled;
    comes = λ P u hold_u have_u next there. its.comes P (texts u) (hold u hold_u) (have u hold_u have_u) (λ x. next (turned x)) (λ x are. there (turned x) (spells u x are));
    barred = λ all among next later. its.barred all among (λ x. next (turned x)) (λ x. later (turned x));
  }

-- ---- a file behind an opening

module _ {V : Vocabulary} (call : SeenCall V.Word) (files : Files V) (numbers : List ℕ) {A T : Type 0} (opening : (A → Course V) → Course V) (Has : A → Type 0) (Hold Have : T → Type 0) (Spells : T → A → Type 0)
    (its : IsOpening call.before.shelf.told files numbers opening Has Hold Have Spells) {B : Type 0} (kind : Kind V B) (name : List ℕ) (next : A → B → Course V) (at : IsOneOf files (kind.file, name)) where
  abbrev told : List ℕ → Told
  told = call.before.shelf.told

  abbrev course : Course V
  course = opening (λ x. stage kind name (next x))

  abbrev Bad : List ℕ → V.Reason → Type 0
  Bad text = (kind.judged text).Bad

  bad_why : IsNoneOf numbers kind.number → ((x : A) (y : B) (reason : V.Reason) → V.status reason ≡ kind.number → May told (RefusesHere reason) (next x y) → ⊥)
      → (text : List ℕ) → told name ≡ held text → (reason : V.Reason) → V.status reason ≡ kind.number → May told (RefusesHere reason) course → Bad text reason
  bad_why apart never text holds reason same may =
      let later = its.behind kind.number (RefusesHere reason) (refusal_behind told kind.number reason same) apart (λ x. stage kind name (next x)) may in
      ⊎_elim (λ (bad : Bad text reason). bad)
      (λ (more : (y : B) × (kind.judged text).Good y × May told (RefusesHere reason) (next later.0 y)). absurd (never later.0 more.0 reason same more.2))
      (refused_past told kind name (next later.0) text holds reason later.2)

  -- its table, where neither the opening nor what comes behind it has its status
  pub file_table : IsCallOf course call → 0 < kind.number → IsNoStop kind.number → IsNoneOf numbers kind.number
      → ((x : A) (y : B) (reason : V.Reason) → V.status reason ≡ kind.number → May told (RefusesHere reason) (next x y) → ⊥)
      → ((reason : V.Reason) (did : Work V.Word) → V.status reason ≡ kind.number → May told (BreaksHere told reason did) course → ⊥)
      → (IsNoText : List ℕ → Type 0) → ((text : List ℕ) → IsNoText text → (reason : V.Reason) × Bad text reason)
      → (IsNext : SeenCall V.Word → Type 0) → (IsNext call → (texts : T) × Hold texts × Have texts)
      → FileStatuses V files name numbers kind.number Bad IsNoText IsNext call
  file_table is some few apart never whole IsNoText bad IsNext comes = record {
    bad = λ text holds. refused_for course call is kind.number (Bad text) (bad_why apart never text holds) whole some few;
    bad_comes = λ text holds next_is none.
        let there = comes next_is in
        call_refused V files call (Bad text) course is (its.comes (IsToRefuse (Bad text)) there.0 there.1 there.2 (λ x. stage kind name (next x))
        (λ x spells. at_bad told files kind name (next x) text (Bad text) at holds (λ reason is_bad. is_bad) (bad text none)));
    absent = λ gone. call_barred numbers course call is (its.barred numbers (λ n one. one) (λ x. stage kind name (next x)) (λ x. barred_here told numbers kind name (next x) gone));
    absent_next = λ gone next_is.
        let there = comes next_is in
        call_misses V files call course is (its.comes (IsToMiss told files) there.0 there.1 there.2 (λ x. stage kind name (next x)) (λ x spells. at_absent told files kind name (next x) at gone));
  }

-- ---- the end

module _ {V : Vocabulary} (files anew : Files V) (numbers broken : List ℕ) (course : Course V) (keeps : KeepsTo files anew numbers broken course) (also : AreAmong anew files) (call : SeenCall V.Word) (is : IsCallOf course call)
    {T X : Type 0} (Hold : SeenCall V.Word → T → Type 0) (Does : T → Work V.Word → Type 0) (Any : Work V.Word → Type 0) (IsReady : SeenCall V.Word → X → Type 0) (DoesOf : X → Work V.Word → Type 0)
    (says : (texts : T) → Hold call texts → (did : Work V.Word) → MayDo course call did → Does texts did)
    (any : (file : V.File) (name : List ℕ) (did : Work V.Word) → May call.before.shelf.told (ReadsAgainHere call.before.shelf.told file name did) course → Any did)
    (works : (x : X) → IsReady call x → StandsAt call.before.shelf.told files (IsToWork call.before.shelf.told files (DoesOf x)) course) where
  carried : (x : X) → IsReady call x → IsCarriedOut V (DoesOf x) files call
  carried x ready = call_works V files call (DoesOf x) course is (works x ready)

  pub end_table : EndStatuses V files Hold Does Any IsReady DoesOf call
  end_table =
      let table = call_table course call is in
      record {
        done = λ texts hold status. done_as (MayDo course call) (Does texts) (says texts hold) call (table.done status);
        read_fault = fault_at files anew numbers broken course keeps call is also Any any;
        read_fault_held = λ texts hold. fault_at files anew numbers broken course keeps call is also (Does texts)
            (λ file name did may. says texts hold did (again_works call.before.shelf.told file name did course may));
        write_fault = λ texts hold status. write_as (MayDo course call) (Does texts) (says texts hold) call (table.write_fault status);
        want_of_memory = λ texts hold status. memory_as (MayDo course call) (Does texts) (says texts hold) call (table.want_of_memory status);
        accepted = carried;
        complete = λ x ready. completes V (DoesOf x) call files (carried x ready);
      }
