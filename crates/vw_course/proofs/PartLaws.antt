-- From the first part of a course to a course that goes on behind it.
use Rattle.std.proofs.Common.{◌≡◌, ◌⊎◌, ℕ, List, Result, Ok, Err, refl, sym, ◌∙◌, subst, inl, inr, ⊎_elim}
use Rattle.vw_outside.specs.Told.{IsTextOf}
use Rattle.vw_outside.specs.Reads.{SeenShelf}
use Rattle.vw_course.specs.declared.unfinished.Unfinished.{Unfinished}
use Rattle.vw_course.specs.declared.unfinished.Unfinished.TheVariants.{ReadFault, WriteFault, NoMemory, Refused}
use Rattle.vw_course.specs.Vocabulary.{Vocabulary}
use Rattle.vw_course.specs.Outside.{SeenOutside}
use Rattle.vw_course.specs.Course.{Course, Judged, Kind, Making, judges, made, stage, cut}
use Rattle.vw_course.specs.Follows.{EndsHere, Follows}
use Rattle.vw_course.specs.Goes.{seen_outside, EndsPart}
use Rattle.vw_course.specs.Stages.{EndsJudging, EndsStage}
use Rattle.vw_course.proofs.GoesLaws.{stage_ends, stage_goes, judging_ends}

-- ---- a call that ended in the first part

module _ (V : Vocabulary) (before after : SeenOutside V.Word) (unfinished : Unfinished V.File V.Reason) where
  abbrev pub EndsIn : Course V → Type 0
  EndsIn course = Follows course before after (Err unfinished)

  -- for want of memory, with nothing changed
  abbrev pub IsNoMemory : Type 0
  IsNoMemory = (unfinished ≡ NoMemory) × (after ≡ before)

  pub at_cut : EndsIn cut → IsNoMemory
  at_cut (inl here) = by unfinished here where
    by : (one : Unfinished V.File V.Reason) → EndsHere before after (Err one) (cut {V = V}) → (one ≡ NoMemory) × (after ≡ before)
    by (ReadFault file) ends = absurd ends
    by WriteFault ends = absurd ends
    by NoMemory same = (refl, same)
    by (Refused reason) (same, bad) = absurd bad
  at_cut (inr (x, good, rest)) = absurd good

  -- a course that goes on otherwise behind a stage
  module _ {A : Type 0} (kind : Kind V A) (name : List ℕ) (next other : A → Course V) where
    pub stage_part : ((x : A) → EndsIn (next x) → EndsIn (other x) ⊎ IsNoMemory) → EndsIn (stage kind name next) → EndsIn (stage kind name other) ⊎ IsNoMemory
    stage_part also (inl here) = inl (inl here)
    stage_part also (inr (text, of, inl here)) = inl (inr (text, of, inl here))
    stage_part also (inr (text, of, inr (x, good, rest))) =
        ⊎_elim (λ (goes : EndsIn (other x)). inl (inr (text, of, inr (x, good, goes)))) (λ (none : IsNoMemory). inr none) (also x rest)

  module _ {A : Type 0} {number : ℕ} (making : Making V A number) (next other : A → Course V) where
    pub made_part : ((x : A) → EndsIn (next x) → EndsIn (other x) ⊎ IsNoMemory) → EndsIn (made making next) → EndsIn (made making other) ⊎ IsNoMemory
    made_part also (inl here) = inl (inl here)
    made_part also (inr (x, good, rest)) =
        ⊎_elim (λ (goes : EndsIn (other x)). inl (inr (x, good, goes))) (λ (none : IsNoMemory). inr none) (also x rest)

  module _ {A : Type 0} {number : ℕ} (judged : Judged V A number) (next other : A → Course V) where
    pub judged_part : ((x : A) → EndsIn (next x) → EndsIn (other x) ⊎ IsNoMemory) → EndsIn (judges judged next) → EndsIn (judges judged other) ⊎ IsNoMemory
    judged_part also (inl here) = inl (inl here)
    judged_part also (inr (x, good, rest)) =
        ⊎_elim (λ (goes : EndsIn (other x)). inl (inr (x, good, goes))) (λ (none : IsNoMemory). inr none) (also x rest)

  -- want of memory may come at the first stage as well
  pub part_ends : {A : Type 0} (kind : Kind V A) (name : List ℕ) (other : A → Course V) → (EndsIn (stage kind name other) ⊎ IsNoMemory)
      → EndsIn (stage kind name other)
  part_ends kind name other (inl goes) = goes
  part_ends kind name other (inr (is, same)) =
      subst (λ (one : Unfinished V.File V.Reason). Follows (stage kind name other) before after (Err one)) (sym is) (inl same)

-- ---- the functions of the first part

module _ (V : Vocabulary) where
  module _ {A X : Type 0} (kind : Kind V A) (name : List ℕ) (next : A → Course V) (shelf mid : SeenShelf) where
    -- a stage that doesn't go on ends the call
    pub part_not_past : (Made : X → Type 0) (unfinished : Unfinished V.File V.Reason)
        → EndsStage kind.file name (λ text. (kind.judged text).Good) (λ text. (kind.judged text).Bad) shelf mid (Err unfinished)
        → EndsPart V (stage kind name next) Made shelf mid (Err unfinished)
    part_not_past Made unfinished ends = λ out links. stage_ends V kind name next out links shelf mid (λ text. (kind.judged text).Good) unfinished ends

    -- one that goes on leaves the rest of the part
    pub part_past : (Made After : X → Type 0) (x : A) (after : SeenShelf) (answer : Result X (Unfinished V.File V.Reason))
        → EndsStage kind.file name (λ text. (kind.judged text).Good) (λ text. (kind.judged text).Bad) shelf mid (Ok x)
        → ((one : X) (text : List ℕ) → IsTextOf (shelf.told name) text → (kind.judged text).Good x → After one → Made one)
        → EndsPart V (next x) After mid after answer → EndsPart V (stage kind name next) Made shelf after answer
    part_past Made After x after (Ok one) (same, text, of, good) also (still, is) =
        (still ∙ same, also one text of good is)
    part_past Made After x after (Err unfinished) ends also goes = λ out links.
        stage_goes V kind name next out links shelf mid (λ text. (kind.judged text).Good) x (seen_outside after out links) (Err unfinished) ends
        (λ text good. (x, good, goes out links))

  -- something was made, or judged, and the part ends with it
  module _ {A X : Type 0} {number : ℕ} (Made : X → Type 0) (shelf : SeenShelf) where
    pub part_made : (making : Making V A number) (next : A → Course V) (answer : Result X (Unfinished V.File V.Reason))
        → EndsJudging Made making.judged.Bad answer → EndsPart V (made making next) Made shelf shelf answer
    part_made making next (Ok x) is = (refl, is)
    part_made making next (Err unfinished) ends = λ out links. inl (judging_ends V making.judged.Bad (seen_outside shelf out links) Made unfinished ends)

    pub part_judged : (judged : Judged V A number) (next : A → Course V) (answer : Result X (Unfinished V.File V.Reason))
        → EndsJudging Made judged.Bad answer → EndsPart V (judges judged next) Made shelf shelf answer
    part_judged judged next (Ok x) is = (refl, is)
    part_judged judged next (Err unfinished) ends = λ out links. inl (judging_ends V judged.Bad (seen_outside shelf out links) Made unfinished ends)
