-- A course none of whose work uses links leaves them as they were, however the call ends.
use Rattle.std.proofs.Common.{◌≡◌, ℕ, List, Option, None, Ok, Err, ◌∙◌, ap, inl, inr}
use Rattle.vw_outside.specs.Told.{Told, untold, absent, held}
use Rattle.vw_course.specs.declared.unfinished.Unfinished.TheVariants.{ReadFault, WriteFault, NoMemory, Refused}
use Rattle.vw_course.specs.Vocabulary.{Vocabulary}
use Rattle.vw_course.specs.Outside.{SeenOutside, Work, carried, fronts, CarriedPart}
use Rattle.vw_course.specs.Course.{Again, once, again, Course, works, refuses, reads, makes}
use Rattle.vw_course.specs.OnTexts.{on_texts}
use Rattle.vw_course.specs.Follows.{Answer, IsDoneBy, DoesWork, EndsWorking, EndsRefused, EndsReading, Follows}

-- the work uses no links, nor does other work that is allowed where a file is read again
abbrev pub WorksAlone : {V : Vocabulary} → Again V → Work V.Word → Type 0
WorksAlone once work = work.scripts ≡ None
WorksAlone {V = V} (again file name Broken Allowed) work = (work.scripts ≡ None) × ((did : Work V.Word) → Allowed did → did.scripts ≡ None)

-- so does all work to which the course may come
abbrev pub UsesNoLinks : {V : Vocabulary} → Course V → Type 0
UsesNoLinks (works over work) = WorksAlone over work
UsesNoLinks (refuses reason) = Unit {0}
UsesNoLinks (reads file name next) = (text : List ℕ) → UsesNoLinks (next text)
UsesNoLinks (makes A Good Bad Comes apart sure next) = (x : A) (good : Good x) → UsesNoLinks (next x good)

module _ (V : Vocabulary) (before after : SeenOutside V.Word) where
  abbrev Stay : Type 0
  Stay = after.links ≡ before.links

  done_by : (Allowed : Work V.Word → Type 0) (told : Told) (work did : Work V.Word) → work.scripts ≡ None
      → ((did : Work V.Word) → Allowed did → did.scripts ≡ None) → IsDoneBy Allowed told work did → did.scripts ≡ None
  done_by Allowed untold work did own allowed is = allowed did is
  done_by Allowed absent work did own allowed is = ap (λ (w : Work V.Word). w.scripts) is ∙ own
  done_by Allowed (held text) work did own allowed is = ap (λ (w : Work V.Word). w.scripts) is ∙ own

  unused : (over : Again V) (work did : Work V.Word) → WorksAlone over work → DoesWork over work before.shelf.told did → did.scripts ≡ None
  unused once work did own does = ap (λ (w : Work V.Word). w.scripts) does ∙ own
  unused (again file name Broken Allowed) work did (own, allowed) does = done_by Allowed (before.shelf.told name) work did own allowed does

  part : (scripts : Option (ℕ → List V.Word)) → scripts ≡ None → CarriedPart scripts before.links after.links → Stay
  part scripts none (counts, is) = is ∙ ap (λ (s : Option (ℕ → List V.Word)). carried (fronts counts s) before.links) none

  at_work : (over : Again V) (work : Work V.Word) (answer : Answer V) → WorksAlone over work → EndsWorking over work before after answer → Stay
  at_work over work (Ok done) own (did, does, leaves) =
      ap (λ (o : SeenOutside V.Word). o.links) leaves ∙ ap (λ (s : Option (ℕ → List V.Word)). carried s before.links) (unused over work did own does)
  at_work over work (Err WriteFault) own (did, does, shelf, some) = part did.scripts (unused over work did own does) some.1
  at_work over work (Err NoMemory) own (did, does, shelf, some) = part did.scripts (unused over work did own does) some.1
  at_work over work (Err (ReadFault file)) own (did, does, name, its, counted, some) = part did.scripts (unused over work did own does) some.1
  at_work over work (Err (Refused reason)) own (did, does, breaks, shelf, some) = part did.scripts (unused over work did own does) some.1

  at_refusal : (Bad : V.Reason → Type 0) (answer : Answer V) → EndsRefused V Bad before after answer → Stay
  at_refusal Bad (Ok done) here = absurd here
  at_refusal Bad (Err WriteFault) here = absurd here
  at_refusal Bad (Err NoMemory) same = ap (λ (o : SeenOutside V.Word). o.links) same
  at_refusal Bad (Err (ReadFault file)) here = absurd here
  at_refusal Bad (Err (Refused reason)) (same, bad) = ap (λ (o : SeenOutside V.Word). o.links) same

  at_read : (file : V.File) (name : List ℕ) (answer : Answer V) → EndsReading V file name before after answer → Stay
  at_read file name (Ok done) here = absurd here
  at_read file name (Err WriteFault) here = absurd here
  at_read file name (Err NoMemory) same = ap (λ (o : SeenOutside V.Word). o.links) same
  at_read file name (Err (ReadFault other)) (own, counted, alone) = ap (λ (o : SeenOutside V.Word). o.links) alone
  at_read file name (Err (Refused reason)) here = absurd here

  pub links_stay : (course : Course V) (answer : Answer V) → UsesNoLinks course → Follows course before after answer → after.links ≡ before.links
  links_stay (works over work) answer own here = at_work over work answer own here
  links_stay (refuses reason) answer own here = at_refusal (λ other. other ≡ reason) answer here
  links_stay (reads file name next) answer own (inl here) = at_read file name answer here
  links_stay (reads file name next) answer own (inr (text, of, rest)) = links_stay (next text) answer (own text) rest
  links_stay (makes A Good Bad Comes apart sure next) answer own (inl here) = at_refusal Bad answer here
  links_stay (makes A Good Bad Comes apart sure next) answer own (inr (x, good, rest)) = links_stay (next x good) answer (own x good) rest

-- over texts at hand no more links are used
pub texts_unused : (V : Vocabulary) (texts summary : List ℕ → List ℕ) (course : Course V) → UsesNoLinks course → UsesNoLinks (on_texts texts summary course)
texts_unused V texts summary (works once work) own = own
texts_unused V texts summary (works (again file name Broken Allowed) work) own = own.0
texts_unused V texts summary (refuses reason) own = own
texts_unused V texts summary (reads file name next) own = texts_unused V texts summary (next (texts name)) (own (texts name))
texts_unused V texts summary (makes A Good Bad Comes apart sure next) own = λ x good. texts_unused V texts summary (next x good) (own x good)
