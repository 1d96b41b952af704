-- From the functions of a command to its course.
use Rattle.std.proofs.Common.{◌≡◌, ℕ, List, Result, Ok, Err, refl, sym, ◌∙◌, ap, ap₂, subst, inl, inr}
use Rattle.vw_outside.specs.declared.unwritten.Unwritten.{Unwritten}
use Rattle.vw_outside.specs.declared.unwritten.Unwritten.TheVariants as unwritten
use Rattle.vw_outside.specs.Told.{IsTextOf}
use Rattle.vw_outside.specs.Reads.{SeenShelf}
use Rattle.vw_outside.specs.Writes.{SeenSink, WritesOut}
use Rattle.vw_course.specs.declared.outside.Outside.{Outside}
use Rattle.vw_course.specs.declared.unfinished.Unfinished.{Unfinished}
use Rattle.vw_course.specs.declared.unfinished.Unfinished.TheVariants.{ReadFault, WriteFault, NoMemory, Refused}
use Rattle.vw_course.specs.Vocabulary.{Vocabulary}
use Rattle.vw_course.specs.Outside.{SeenOutside, Work, Carried}
use Rattle.vw_course.specs.Course.{Again, once, Course, works, Judged, Kind, Making, writing, writes, judges, made, stage}
use Rattle.vw_course.specs.Follows.{Answer, EndsWorking, EndsRefused, Follows}
use Rattle.vw_course.specs.Stages.{answer_of, EndsUnfinished, EndsJudging, EndsStage}
use Rattle.vw_course.specs.Endings.{SeenCall, IsCallOf}
use Rattle.vw_course.specs.Goes.{seen_outside, seen_call, Unmoved, IsSame, GoesOver, IsFollowed}
use Rattle.vw_course.proofs.CallLaws.{memory_instead}

-- ---- over what is seen

module _ (V : Vocabulary) where
  abbrev seen : SeenShelf → SeenSink → Carried V.Word → SeenOutside V.Word
  seen shelf out links = seen_outside shelf out links

  module _ {A : Type 0} (kind : Kind V A) (name : List ℕ) (next : A → Course V) (out : SeenSink) (links : Carried V.Word) (shelf mid : SeenShelf) where
    -- a stage that doesn't go on ends the call
    pub stage_ends : {B : Type 0} (Made : List ℕ → B → Type 0) (unfinished : Unfinished V.File V.Reason)
        → EndsStage kind.file name Made (λ text. (kind.judged text).Bad) shelf mid (Err unfinished)
        → Follows (stage kind name next) (seen shelf out links) (seen mid out links) (Err unfinished)
    stage_ends Made (ReadFault other) (is, counted) = inl (is, counted, refl)
    stage_ends Made WriteFault ends = absurd ends
    stage_ends Made NoMemory same = inl (ap (λ (s : SeenShelf). seen s out links) same)
    stage_ends Made (Refused reason) (same, text, of, bad) =
        inr (text, of, inl (ap (λ (s : SeenShelf). seen s out links) same, bad))

    -- one that goes on leaves the rest of the course to follow
    pub stage_goes : {B : Type 0} (Made : List ℕ → B → Type 0) (x : B) (after : SeenOutside V.Word) (answer : Answer V)
        → EndsStage kind.file name Made (λ text. (kind.judged text).Bad) shelf mid (Ok x)
        → ((text : List ℕ) → Made text x → (y : A) × (kind.judged text).Good y × Follows (next y) (seen mid out links) after answer)
        → Follows (stage kind name next) (seen shelf out links) after answer
    stage_goes Made x after answer (same, text, of, is) goes =
        let rest = goes text is in
        inr (text, of, inr (rest.0, rest.1, subst (λ (s : SeenShelf). Follows (next rest.0) (seen s out links) after answer) same rest.2))

  -- nothing was made
  module _ (Bad : V.Reason → Type 0) (before : SeenOutside V.Word) where
    pub judging_ends : {B : Type 0} (Made : B → Type 0) (unfinished : Unfinished V.File V.Reason) → EndsJudging Made Bad (Err unfinished)
        → EndsRefused V Bad before before (Err unfinished)
    judging_ends Made (ReadFault file) ends = absurd ends
    judging_ends Made WriteFault ends = absurd ends
    judging_ends Made NoMemory ends = refl
    judging_ends Made (Refused reason) bad = (refl, bad)

-- what was made of a text may be said with the text, which the name may have
pub with_text : {F A R : Type 0} (file : F) (name : List ℕ) (Made : List ℕ → A → Type 0) (Bad : List ℕ → R → Type 0) (before after : SeenShelf) (x : A)
    → EndsStage file name Made Bad before after (Ok x)
    → EndsStage file name (λ text one. IsTextOf (before.told name) text × Made text one) Bad before after (Ok x)
with_text file name Made Bad before after x (same, text, of, is) = (same, text, of, (of, is))

-- ---- over the shelf and out

module _ (V : Vocabulary) (Moved : Carried V.Word → Carried V.Word → Type 0) where
  -- where nothing was done, the links carried nothing
  abbrev pub IsStill : Type 0
  IsStill = (before after : Carried V.Word) → Moved before after → after ≡ before

  stays : (course : Course V) (shelf mid : SeenShelf) (out out_after : SeenSink) (answer : Answer V) → IsStill
      → ((links : Carried V.Word) → Follows course (seen_outside shelf out links) (seen_outside mid out_after links) answer)
      → IsFollowed V Moved course shelf out mid out_after answer
  stays course shelf mid out out_after answer still follows = record {
    follows = λ links after moved.
        subst (λ (l : Carried V.Word). Follows course (seen_outside shelf out links) (seen_outside mid out_after l) answer) (sym (still links after moved)) (follows links);
  }

-- links that carried nothing
pub unmoved_still : (V : Vocabulary) → IsStill V Unmoved
unmoved_still V before after same = same

module _ {S O : Type 0} (seen_shelf : S → SeenShelf) (seen_out : O → SeenSink) (V : Vocabulary) (Moved : Carried V.Word → Carried V.Word → Type 0) where
  abbrev ItGoes : Course V → Outside S O → Outside S O → Answer V → Type 0
  ItGoes course before after answer = GoesOver seen_shelf seen_out V Moved course before after answer

  pub same_still : (before mid after : Outside S O) → IsSame seen_shelf seen_out before mid → IsSame seen_shelf seen_out mid after
      → IsSame seen_shelf seen_out before after
  same_still before mid after first then =
      record { shelf = then.shelf ∙ first.shelf; out = then.out ∙ first.out }

  module _ {A B : Type 0} (kind : Kind V A) (name : List ℕ) (Made : List ℕ → B → Type 0) (next : A → Course V) (before mid : Outside S O)
      (same : IsSame seen_shelf seen_out before mid) (out : mid.out.now ≡ before.out.now) where
    -- a file was read and judged, and the rest of the course is followed
    pub goes_past : (after : Outside S O) (answer : Answer V) (x : B)
        → EndsStage kind.file name Made (λ text. (kind.judged text).Bad) (seen_shelf before.shelf.now) (seen_shelf mid.shelf.now) (Ok x)
        → ((text : List ℕ) → Made text x → (y : A) × (kind.judged text).Good y × ItGoes (next y) mid after answer)
        → ItGoes (stage kind name next) before after answer
    goes_past after answer x ends goes = record {
      same = same_still before mid after same (goes ends.1 ends.3).2.same;
      leads = record {
        follows = λ links links_after moved. stage_goes V kind name next (seen_out before.out.now) links (seen_shelf before.shelf.now) (seen_shelf mid.shelf.now) Made x
            (seen_outside (seen_shelf after.shelf.now) (seen_out after.out.now) links_after) answer ends
            (λ text is. let rest = goes text is in (rest.0, rest.1, subst (λ (o : O). Follows (next rest.0) (seen_outside (seen_shelf mid.shelf.now) (seen_out o) links) (seen_outside (seen_shelf after.shelf.now) (seen_out after.out.now) links_after) answer) out (rest.2.leads.follows links links_after moved)));
      };
    }

    -- or the call ended there
    pub goes_not_past : IsStill V Moved → (unfinished : Unfinished V.File V.Reason)
        → EndsStage kind.file name Made (λ text. (kind.judged text).Bad) (seen_shelf before.shelf.now) (seen_shelf mid.shelf.now) (Err unfinished)
        → ItGoes (stage kind name next) before mid (Err unfinished)
    goes_not_past still unfinished ends = record {
      same = same;
      leads = stays V Moved (stage kind name next) (seen_shelf before.shelf.now) (seen_shelf mid.shelf.now) (seen_out before.out.now) (seen_out mid.out.now) (Err unfinished) still
          (λ links. subst (λ (o : O). Follows (stage kind name next) (seen_outside (seen_shelf before.shelf.now) (seen_out before.out.now) links) (seen_outside (seen_shelf mid.shelf.now) (seen_out o) links) (Err unfinished)) (sym out)
          (stage_ends V kind name next (seen_out before.out.now) links (seen_shelf before.shelf.now) (seen_shelf mid.shelf.now) Made unfinished ends));
    }

  -- the same, where what was made is the good thing itself
  module _ {A : Type 0} (kind : Kind V A) (name : List ℕ) (next : A → Course V) where
    pub goes_on : {before mid after : Outside S O} {answer : Answer V} (x : A) → IsSame seen_shelf seen_out before mid → mid.out.now ≡ before.out.now
        → EndsStage kind.file name (λ text. (kind.judged text).Good) (λ text. (kind.judged text).Bad) (seen_shelf before.shelf.now) (seen_shelf mid.shelf.now) (Ok x)
        → ItGoes (next x) mid after answer → ItGoes (stage kind name next) before after answer
    goes_on {before = before} {mid = mid} {after = after} {answer = answer} x same out ends rest =
        goes_past kind name (λ text. (kind.judged text).Good) next before mid same out after answer x ends (λ text is. (x, is, rest))

    pub goes_not_on : IsStill V Moved → {before mid : Outside S O} (unfinished : Unfinished V.File V.Reason)
        → IsSame seen_shelf seen_out before mid → mid.out.now ≡ before.out.now
        → EndsStage kind.file name (λ text. (kind.judged text).Good) (λ text. (kind.judged text).Bad) (seen_shelf before.shelf.now) (seen_shelf mid.shelf.now) (Err unfinished)
        → ItGoes (stage kind name next) before mid (Err unfinished)
    goes_not_on still {before = before} {mid = mid} unfinished same out ends =
        goes_not_past kind name (λ text. (kind.judged text).Good) next before mid same out still unfinished ends

  -- the same, where the rest is followed for each good thing of a kind, and what was made leads to one
  module _ {A B : Type 0} (kind : Kind V A) (name : List ℕ) (Made : List ℕ → B → Type 0) (next : A → Course V) where
    pub goes_for_each : {before mid after : Outside S O} {answer : Answer V} (Is : A → Type 0) (x : B)
        → IsSame seen_shelf seen_out before mid → mid.out.now ≡ before.out.now
        → EndsStage kind.file name Made (λ text. (kind.judged text).Bad) (seen_shelf before.shelf.now) (seen_shelf mid.shelf.now) (Ok x)
        → ((text : List ℕ) → Made text x → (y : A) × (kind.judged text).Good y × Is y)
        → ((y : A) → Is y → ItGoes (next y) mid after answer) → ItGoes (stage kind name next) before after answer
    goes_for_each {before = before} {mid = mid} {after = after} {answer = answer} Is x same out ends leads rest =
        goes_past kind name Made next before mid same out after answer x ends (λ text is. let led = leads text is in (led.0, led.1, rest led.0 led.2))

  -- something was made, or judged
  module _ {A : Type 0} {number : ℕ} (making : Making V A number) (next : A → Course V) where
    pub goes_made : {before after : Outside S O} {answer : Answer V} (x : A) → making.judged.Good x → ItGoes (next x) before after answer
        → ItGoes (made making next) before after answer
    goes_made x good rest = record { same = rest.same; leads = record { follows = λ links links_after moved. inr (x, good, rest.leads.follows links links_after moved) } }

    pub goes_unmade : IsStill V Moved → {B : Type 0} (Made : B → Type 0) (before : Outside S O) (unfinished : Unfinished V.File V.Reason)
        → EndsJudging Made making.judged.Bad (Err unfinished) → ItGoes (made making next) before before (Err unfinished)
    goes_unmade still Made before unfinished ends = record {
      same = record { shelf = refl; out = refl };
      leads = stays V Moved (made making next) (seen_shelf before.shelf.now) (seen_shelf before.shelf.now) (seen_out before.out.now) (seen_out before.out.now) (Err unfinished) still
          (λ links. inl (judging_ends V making.judged.Bad (seen_outside (seen_shelf before.shelf.now) (seen_out before.out.now) links) Made unfinished ends));
    }

  module _ {A : Type 0} {number : ℕ} (judged : Judged V A number) (next : A → Course V) where
    pub goes_judged : {before after : Outside S O} {answer : Answer V} (x : A) → judged.Good x → ItGoes (next x) before after answer
        → ItGoes (judges judged next) before after answer
    goes_judged x good rest = record { same = rest.same; leads = record { follows = λ links links_after moved. inr (x, good, rest.leads.follows links links_after moved) } }

    pub goes_unjudged : IsStill V Moved → {B : Type 0} (Made : B → Type 0) (before : Outside S O) (unfinished : Unfinished V.File V.Reason)
        → EndsJudging Made judged.Bad (Err unfinished) → ItGoes (judges judged next) before before (Err unfinished)
    goes_unjudged still Made before unfinished ends = record {
      same = record { shelf = refl; out = refl };
      leads = stays V Moved (judges judged next) (seen_shelf before.shelf.now) (seen_shelf before.shelf.now) (seen_out before.out.now) (seen_out before.out.now) (Err unfinished) still
          (λ links. inl (judging_ends V judged.Bad (seen_outside (seen_shelf before.shelf.now) (seen_out before.out.now) links) Made unfinished ends));
    }

  -- the work of the course was done, or a part of it
  pub goes_works : (over : Again V) (work : Work V.Word) (before after : Outside S O) (answer : Answer V) → IsSame seen_shelf seen_out before after
      → ((links links_after : Carried V.Word) → Moved links links_after → EndsWorking over work (seen_outside (seen_shelf before.shelf.now) (seen_out before.out.now) links) (seen_outside (seen_shelf after.shelf.now) (seen_out after.out.now) links_after) answer)
      → ItGoes (works over work) before after answer
  goes_works over work before after answer same ends = record { same = same; leads = record { follows = ends } }

  -- a text was written, or a part of it
  module _ (text : List ℕ) (before after : Outside S O) (same : IsSame seen_shelf seen_out before after) (shelf : after.shelf.now ≡ before.shelf.now) where
    abbrev Left : Answer V → Type 0
    Left answer = (links : Carried V.Word) → EndsWorking {V = V} once (writing text) (seen_outside (seen_shelf before.shelf.now) (seen_out before.out.now) links) (seen_outside (seen_shelf after.shelf.now) (seen_out after.out.now) links) answer

    left_by : (written : Result (Unit {0}) Unwritten) → WritesOut text (seen_out before.out.now) (seen_out after.out.now) written → Left (answer_of written)
    left_by (Ok done) all = λ links.
        (writing text, refl, ap₂ (λ (s : S) (o : SeenSink). seen_outside (seen_shelf s) o links) shelf all)
    left_by (Err unwritten.WriteFault) failed = λ links. (writing text, refl, ap seen_shelf shelf, (failed, ((λ link. 0), refl)))
    left_by (Err unwritten.NoMemory) part = λ links. (writing text, refl, ap seen_shelf shelf, (part, ((λ link. 0), refl)))

    pub goes_writing : IsStill V Moved → (written : Result (Unit {0}) Unwritten) (answer : Answer V) → answer ≡ answer_of written
        → WritesOut text (seen_out before.out.now) (seen_out after.out.now) written → ItGoes (writes text) before after answer
    goes_writing still written answer is left = record {
      same = same;
      leads = stays V Moved (writes text) (seen_shelf before.shelf.now) (seen_shelf after.shelf.now) (seen_out before.out.now) (seen_out after.out.now) answer still (subst Left (sym is) (left_by written left));
    }

-- ---- the call

module _ (V : Vocabulary) (course : Course V) (before after : SeenOutside V.Word) (err err_after : SeenSink) (status : ℕ) where
  abbrev its_call : SeenCall V.Word
  its_call = seen_call before err after err_after status

  -- what was carried out
  pub call_done : err_after ≡ err → status ≡ 0 → Follows course before after (Ok tt) → IsCallOf course its_call
  call_done silent is follows = record { answer = Ok tt; follows = follows; ends = (is, silent) }

  -- and what wasn't: where there was no memory for a refusal's line, it ended with want of memory
  pub call_of : (unfinished : Unfinished V.File V.Reason) → Follows course before after (Err unfinished)
      → EndsUnfinished V unfinished err err_after status → IsCallOf course its_call
  call_of (ReadFault file) follows ends = record { answer = Err (ReadFault file); follows = follows; ends = ends }
  call_of WriteFault follows ends = record { answer = Err WriteFault; follows = follows; ends = ends }
  call_of NoMemory follows ends = record { answer = Err NoMemory; follows = follows; ends = ends }
  call_of (Refused reason) follows (inl ends) = record { answer = Err (Refused reason); follows = follows; ends = ends }
  call_of (Refused reason) follows (inr ends) =
      record { answer = Err NoMemory; follows = memory_instead V before after reason course follows; ends = ends }
