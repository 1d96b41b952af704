-- What each status says of the design that a command reads first.
use Rattle.std.proofs.Common.{ℕ, List, [], ◌∷◌, refl, inl, inr, lit<}
use Rattle.vw_design.specs.Paths.{Word}
use Rattle.vw_course.specs.Course.{Course, stage}
use Rattle.vw_course.specs.Endings.{IsCallOf}
use Rattle.vw_course.specs.Places.{IsOneOf, Files}
use Rattle.vw_course.specs.Statuses.{FileStatuses}
use Rattle.vw_course.proofs.EveryPlace.{IsNoneOf, KeepsTo, keeps_more, keeps_stage, no_refusal, no_break}
use Rattle.vw_course.proofs.Openings.{no_opening, file_table}
use Rattle.vw_front.specs.declared.fault.NetlistFault.{NetlistFault}
use Rattle.vw_front.specs.Designs.{IsNoDesign, RefusesDesign}
use Rattle.vw_courses.specs.declared.vocabulary.File.TheVariants as kinds
use Rattle.vw_courses.specs.declared.vocabulary.Reason.TheVariants as reasons
use Rattle.vw_courses.specs.Messages.{vocabulary, Call}
use Rattle.vw_courses.specs.Kinds.{given_kind, IsBadDesign}

module _ (probes : List Word) {Thing : Type 0} (Spells : List ℕ → Thing → Type 0) (apart : (text : List ℕ) (its : Thing) (why : NetlistFault) → Spells text its → RefusesDesign probes text why → ⊥)
    (design : List ℕ) (next : Thing → Course vocabulary) (call : Call) (files anew : Files vocabulary) (own broken : List ℕ) (at : IsOneOf files (kinds.Design, design))
    (keeps : (its : Thing) → KeepsTo files anew own broken (next its)) where
  abbrev course : Course vocabulary
  course = stage (given_kind probes Spells apart) design next

  -- it has its own status, and what comes behind has its
  pub keeps_design : KeepsTo files anew (1 ∷ own) broken course
  keeps_design = keeps_stage files anew (1 ∷ own) broken (given_kind probes Spells apart) design next at (inl refl)
      (λ its. keeps_more files anew own broken (1 ∷ own) (λ n one. inr one) (next its) (keeps its))

  pub design_table : IsNoneOf own 1 → IsNoneOf broken 1 → IsCallOf course call
      → FileStatuses vocabulary ((kinds.Design, design) ∷ []) design [] 1 (IsBadDesign probes) (IsNoDesign probes) (λ one. Unit {0}) call
  design_table none whole is =
      file_table call ((kinds.Design, design) ∷ []) [] (λ next. next tt) _ _ _ _ (no_opening call.before.shelf.told ((kinds.Design, design) ∷ [])) (given_kind probes Spells apart) design (λ x. next) (inl refl) is (lit< tt) (inl (lit< tt)) tt
      (λ x its reason same. no_refusal call.before.shelf.told files anew own broken (next its) (keeps its) 1 none reason same)
      (no_break call.before.shelf.told files anew (1 ∷ own) broken course keeps_design 1 whole)
      (IsNoDesign probes) (λ d no. (reasons.Design no.0, (no.0, refl, no.1))) (λ one. Unit {0}) (λ next_is. (tt, tt, tt))
