-- What each status says of a command that reads a design and a stimulus, and writes a text of both.
use Rattle.std.proofs.Common.{◌≡◌, ℕ, Bool, List, Option, [], ◌∷◌, refl, sym, ◌∙◌, ap, subst, inl, inr, arith}
use Rattle.vw_design.specs.Paths.{Word}
use Rattle.vw_outside.specs.Told.{Told, held}
use Rattle.vw_course.specs.Course.{Course, stage}
use Rattle.vw_course.specs.Endings.{IsCallOf}
use Rattle.vw_course.specs.Places.{Files, StandsAt}
use Rattle.vw_course.proofs.EveryPlace.{KeepsTo, comes}
use Rattle.vw_course.proofs.Openings.{IsOpening, MayHave, file_opening}
use Rattle.vw_course.proofs.BarredLaws.{call_barred}
use Rattle.vw_front.specs.declared.fault.NetlistFault.{NetlistFault}
use Rattle.vw_front.specs.declared.named.NamedNetlist.{NamedNetlist}
use Rattle.vw_front.specs.Designs.{WatchedDesign, IsWatchedDesignOf, RefusesDesign, design_apart}
use Rattle.vw_front.specs.Names.{net_names}
use Rattle.vw_front.specs.NamedNetlists.{IsNamedNetlistOf, without_names}
use Rattle.vw_courses.specs.declared.vocabulary.File.TheVariants as kinds
use Rattle.vw_courses.specs.Messages.{vocabulary, Call}
use Rattle.vw_courses.specs.Kinds.{given_kind, named_apart}
use Rattle.vw_courses.specs.Commands.{TextOver, no_links, no_check, rows_course, design_course, over_design_course, flat_grading, grading_of, grading_course, grade_course}
use Rattle.vw_statuses.specs.TracedStatuses.{Subject, design_subject, design_width, HoldTexts}
use Rattle.vw_statuses.specs.SimStatuses.{UsesNone, its_files, netlist_width, OverDesignStatuses, SimStatuses, GradeStatuses}
use Rattle.vw_statuses.proofs.DesignLaws.{keeps_design, design_table}
use Rattle.vw_statuses.proofs.OnBoards.{watched_once, netlist_same}
use Rattle.vw_statuses.proofs.TracedLaws.{ComesToRows, keeps_rows, barred_rows, traced_table}

-- what no refused text gives, and each text once, as far as the rest of the course goes
module _ (probes : List Word) {Thing : Type 0} (Spells : List ℕ → Thing → Type 0) (apart : (text : List ℕ) (its : Thing) (why : NetlistFault) → Spells text its → RefusesDesign probes text why → ⊥)
    (width_of : Thing → ℕ) (text : TextOver Thing) (design stimulus : List ℕ)
    (once : (d : List ℕ) (one other : Thing) → Spells d one → Spells d other → rows_course stimulus (width_of one) (text one) no_links ≡ rows_course stimulus (width_of other) (text other) no_links) (call : Call) where
  abbrev next : Thing → Course vocabulary
  next its = rows_course stimulus (width_of its) (text its) no_links

  abbrev course : Course vocabulary
  course = stage (given_kind probes Spells apart) design next

  abbrev told : List ℕ → Told
  told = call.before.shelf.told

  abbrev both : Files vocabulary
  both = its_files probes Spells width_of text design stimulus

  abbrev anew : Files vocabulary
  anew = (kinds.Stimulus, stimulus) ∷ []

  abbrev subject : Subject
  subject = design_subject Spells width_of design

  abbrev Hold : Call → List ℕ → List ℕ → Type 0
  Hold = HoldTexts subject text stimulus

  its_opening : IsOpening told both (1 ∷ []) {A = Thing} {T = List ℕ} (stage (given_kind probes Spells apart) design) (MayHave told (given_kind probes Spells apart) design) (λ d. told design ≡ held d) (λ d. (its : Thing) × Spells d its) Spells
  its_opening = file_opening told both (given_kind probes Spells apart) design (inl refl)

  keeps_own : (its : Thing) → KeepsTo both anew (5 ∷ []) (5 ∷ []) (next its)
  keeps_own its = keeps_rows stimulus (width_of its) no_check (text its) no_links both (5 ∷ []) (inr (inl refl)) (inl refl) tt

  keeps : KeepsTo both anew (1 ∷ 5 ∷ []) (5 ∷ []) course
  keeps = keeps_design probes Spells apart design next call both anew (5 ∷ []) (5 ∷ []) (inl refl) keeps_own

  -- the rows of the stimulus come behind the design
  to_rows : ComesToRows subject (λ its. no_check) text stimulus course call both (1 ∷ 5 ∷ []) Hold UsesNone
  to_rows = record {
    keeps = keeps;
    behind = λ P behind may.
        let later = its_opening.behind 5 P behind (λ is. omega (arith, is), tt) next may in
        (later.0, λ d held_d. its_opening.spelled d held_d later.0 later.1, no_links, refl, later.2);
    comes = λ P d s hold its is stands. its_opening.comes P d hold.its_held (its, is) next
        (λ other so. subst (λ (one : Course vocabulary). StandsAt told both P one) (once d its other is so) (stands no_links refl));
    ready_held = λ d s hold. hold.stimulus_held;
    passes = λ texts s ready its rows are. tt;
    one = inr (inl refl);
  }

  pub over_design_table : IsCallOf course call → OverDesignStatuses probes Spells width_of text design stimulus call
  over_design_table is = record {
    of_design = design_table probes Spells apart design next call both anew (5 ∷ []) (5 ∷ []) (inl refl) keeps_own (λ is. omega (arith, is), tt) (λ is. omega (arith, is), tt) is;
    traced = traced_table subject (λ its. no_check) text stimulus course call both (1 ∷ 5 ∷ []) Hold UsesNone to_rows is;
    comes = comes both anew (1 ∷ 5 ∷ []) (5 ∷ []) course keeps call is (λ number one. inr one);
    absent_stimulus = λ gone. call_barred (1 ∷ []) course call is
        (its_opening.barred (1 ∷ []) (λ n one. one) next (λ its. barred_rows stimulus (width_of its) no_check (text its) no_links told (1 ∷ []) gone));
  }

-- a text of the run of a design, which is one
pub sim_table : (probes : List Word) (text : TextOver WatchedDesign) (design stimulus : List ℕ) (call : Call)
    → IsCallOf (over_design_course probes design stimulus text) call → SimStatuses probes text design stimulus call
sim_table probes text design stimulus call is =
    over_design_table probes (IsWatchedDesignOf probes) (design_apart probes) design_width text design stimulus
    (λ d one other its so. ap (design_course stimulus text no_links) (watched_once probes d one other its so)) call is

-- a text has one netlist with names, but for the order of its gates
named_once : (share : Option (ℕ × ℕ)) (stimulus : List ℕ) (unknown : Bool) (d : List ℕ) (one other : NamedNetlist) → IsNamedNetlistOf [] d one
    → IsNamedNetlistOf [] d other → grading_course share stimulus unknown one ≡ grading_course share stimulus unknown other
named_once share stimulus unknown d one other is its =
    let same : is.watched ≡ its.watched = watched_once [] d is.watched its.watched is.is its.is in
    let nets : one.nets ≡ other.nets = is.nets ∙ ap (λ (watched : WatchedDesign). net_names watched.design) same ∙ sym its.nets in
    let flats : one.ordered.flat ≡ other.ordered.flat = netlist_same [] d one.ordered other.ordered (without_names [] d one is) (without_names [] d other its) in
    λ i. rows_course stimulus (flats i).inputs (flat_grading share (nets i) unknown (flats i)) no_links

-- the grading of it
pub grade_table : (share : Option (ℕ × ℕ)) (unknown : Bool) (design stimulus : List ℕ) (call : Call) → IsCallOf (grade_course share design stimulus unknown) call
    → GradeStatuses share unknown design stimulus call
grade_table share unknown design stimulus call is =
    over_design_table [] (IsNamedNetlistOf []) (named_apart []) netlist_width (grading_of share unknown) design stimulus (named_once share stimulus unknown) call is
