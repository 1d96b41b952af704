-- What each status says of a command that writes a text of a planned board, or refuses where the text doesn't fit: `check`,
-- `plan`, and `emit`.
use Rattle.std.proofs.Common.{◌≡◌, ◌≤◌, ◌++◌, ℕ, List, [], length, refl, ap, inl, inr}
use Rattle.vw_net.specs.declared.ordered.Ordered.{Ordered}
use Rattle.vw_design.specs.Paths.{Word}
use Rattle.vw_outside.specs.Told.{Told}
use Rattle.vw_course.specs.Course.{Course, writing, writes}
use Rattle.vw_course.specs.Follows.{May}
use Rattle.vw_course.specs.Endings.{IsCallOf}
use Rattle.vw_course.specs.Places.{IsOneOf, Files, WorksHere, StandsAt, IsToWork}
use Rattle.vw_course.specs.Statuses.{NoWork, MayDo, IsCarriedOut, EndStatuses}
use Rattle.vw_course.proofs.StandLaws.{call_works}
use Rattle.vw_course.proofs.EveryPlace.{IsNoneOf, KeepsTo, again_one, comes}
use Rattle.vw_course.proofs.Openings.{IsOpening, end_table}
use Rattle.vw_course.proofs.CarriedOut.{text_part}
use Rattle.vw_plan.specs.declared.board.Board.{Board}
use Rattle.vw_plan.specs.declared.plan.Plan.{Plan}
use Rattle.vw_plantext.proofs.OnePlan.{spelled_once}
use Rattle.vw_courses.specs.declared.vocabulary.File.TheVariants as kinds
use Rattle.vw_courses.specs.Messages.{vocabulary, Call, CallWork}
use Rattle.vw_courses.specs.Commands.{Rest, sound_text, size_rest, plan_rest, ready_course, check_course, plan_course}
use Rattle.vw_courses.specs.MayPlan.{PlanBy, of_file}
use Rattle.vw_statuses.specs.PlannedStatuses.{PlanTexts, IsTheirPlan, HavePlan, plan_statuses, HoldTexts, its_files}
use Rattle.vw_statuses.specs.WrittenStatuses.{AlwaysFits, IsWritten, CanWrite, WrittenStatuses, size_text, CheckStatuses, plan_text, PlanStatuses}
use Rattle.vw_statuses.proofs.PlannedLaws.{IsAmong, given_among, Has, Spelled, opening, ready_opening, IsRest, keeps_all, work_planned, planned_table}

-- behind its plan a command writes this text where it fits, reads nothing more, and refuses with these statuses alone
pub record IsWriter (text : Ordered → Board → Plan → List ℕ) (Fits : Ordered → Board → Plan → Type 0) (refusals : List ℕ) (rest : Rest) : Type 1 where
  pub keeps : (files : Files vocabulary) (ordered : Ordered) (board : Board) (plan : Plan) → KeepsTo files [] refusals [] (rest ordered board plan)
  pub works : (told : List ℕ → Told) (did : CallWork) (ordered : Ordered) (board : Board) (plan : Plan)
      → May told (WorksHere told did) (rest ordered board plan) → Fits ordered board plan × (did ≡ writing (text ordered board plan))
  pub comes : (told : List ℕ → Told) (files : Files vocabulary) (What : CallWork → Type 0) (ordered : Ordered) (board : Board) (plan : Plan)
      → Fits ordered board plan → What (writing (text ordered board plan))
      → StandsAt told files (IsToWork told files What) (rest ordered board plan)

module _ (probes : List Word) (design board : List ℕ) (by : PlanBy) (text : Ordered → Board → Plan → List ℕ) (Fits : Ordered → Board → Plan → Type 0) (refusals : List ℕ) (rest : Rest) (writer : IsWriter text Fits refusals rest)
    (apart : (number : ℕ) → IsOneOf (plan_statuses by) number → IsNoneOf refusals number) (call : Call) where
  abbrev course : Course vocabulary
  course = ready_course probes design board by rest

  abbrev all : Files vocabulary
  all = its_files probes design board by

  abbrev told : List ℕ → Told
  told = call.before.shelf.told

  abbrev numbers : List ℕ
  numbers = plan_statuses by ++ refusals

  at_plan : IsAmong all by
  at_plan = given_among by (kinds.Design, design) (kinds.Board, board) []

  pub written_opening : IsOpening told all (plan_statuses by) (opening probes design board by call) (Has probes design board by call) (HoldTexts probes design board by call) (HavePlan probes by) (Spelled probes design board by call)
  written_opening = ready_opening probes design board by call all (inl refl) (inr (inl refl)) at_plan

  is_rest : IsRest by all [] refusals [] rest
  is_rest = record { keeps = writer.keeps all; apart = apart; whole = λ number one. tt }

  pub keeps : KeepsTo all [] numbers [] course
  keeps = keeps_all probes design board by call rest all [] refusals [] (inl refl) (inr (inl refl)) at_plan is_rest

  written_by : (texts : PlanTexts) → HoldTexts probes design board by call texts → (did : CallWork) → MayDo course call did
      → IsWritten probes by text Fits texts did
  written_by texts hold did may =
      let work = work_planned probes design board by call rest all [] refusals [] (inl refl) (inr (inl refl)) at_plan is_rest texts hold did may in
      let wrote = writer.works told did work.0.0 work.0.1 work.0.2 work.2 in
      record { ordered = work.0.0; its_board = work.0.1; plan = work.0.2; are = work.1; fits = wrote.0; is = wrote.1 }

  to_text : (texts : PlanTexts) → CanWrite probes by text Fits design board call texts
      → StandsAt told all (IsToWork told all (IsWritten probes by text Fits texts)) course
  to_text texts can =
      let What : CallWork → Type 0 = IsWritten probes by text Fits texts in
      written_opening.comes (IsToWork told all What) texts can.held can.have (λ x. rest x.0 x.1 x.2)
      (λ x are. let fits = can.fit x.0 x.1 x.2 are in
      writer.comes told all What x.0 x.1 x.2 fits (record { ordered = x.0; its_board = x.1; plan = x.2; are = are; fits = fits; is = refl }))

  pub written_ends : IsCallOf course call
      → EndStatuses vocabulary all (HoldTexts probes design board by) (IsWritten probes by text Fits) NoWork (CanWrite probes by text Fits design board) (IsWritten probes by text Fits) call
  written_ends is = end_table all [] numbers [] course keeps (λ file one. absurd one) call is (HoldTexts probes design board by) (IsWritten probes by text Fits) NoWork (CanWrite probes by text Fits design board) (IsWritten probes by text Fits)
      written_by (λ file name did may. again_one told all [] numbers [] course keeps file name did may) to_text

  pub written_table : length probes ≤ 65 → IsCallOf course call → WrittenStatuses probes by text Fits design board refusals call
  written_table few is = record {
    planned = planned_table probes few design board call rest all [] refusals [] (inl refl) (inr (inl refl)) by at_plan is_rest is;
    ends = written_ends is;
    comes = comes all [] numbers [] course keeps call is (λ number one. absurd one);
  }

-- ---- a text that always fits, which is written at once

pub plain_writer : (text : Ordered → Board → Plan → List ℕ) → IsWriter text AlwaysFits [] (λ ordered board plan. writes {V = vocabulary} (text ordered board plan))
plain_writer text = record {
  keeps = λ files ordered board plan. tt;
  works = λ told did ordered board plan is. (tt, is);
  comes = λ told files What ordered board plan fits what. (tt, what);
}

pub plan_table : (probes : List Word) (design board : List ℕ) (by : PlanBy) (call : Call) → length probes ≤ 65
    → IsCallOf (plan_course probes design board by) call → PlanStatuses probes design board by call
plan_table probes design board by call few = written_table probes design board by plan_text AlwaysFits [] plan_rest (plain_writer plan_text) (λ number one. tt) call few

module _ (probes : List Word) (design board plan : List ℕ) (call : Call) where
  abbrev files : Files vocabulary
  files = its_files probes design board (of_file plan)

  abbrev seen : List ℕ → Told
  seen = call.before.shelf.told

  -- what is written of the plan of the texts, which is one
  accepted : IsCallOf (check_course probes design board plan) call → (texts : PlanTexts) (its : Plan)
      → HoldTexts probes design board (of_file plan) call texts → IsTheirPlan probes (of_file plan) texts its
      → IsCarriedOut vocabulary (λ did. did ≡ writing (sound_text its)) files call
  accepted is texts its hold of =
      let What : CallWork → Type 0 = λ did. did ≡ writing (sound_text its) in
      call_works vocabulary files call What (check_course probes design board plan) is
      ((written_opening probes design board (of_file plan) size_text AlwaysFits [] size_rest (plain_writer size_text) (λ number one. tt) call).comes (IsToWork seen files What) texts hold (its, of) (λ x. size_rest x.0 x.1 x.2)
      (λ x are. (tt, ap (λ (one : Plan). writing (sound_text one)) (spelled_once texts.plan x.2 its are.plan_is.0 of.are.plan_is.0))))

  pub check_table : length probes ≤ 65 → IsCallOf (check_course probes design board plan) call → CheckStatuses probes design board plan call
  check_table few is = record {
    written = written_table probes design board (of_file plan) size_text AlwaysFits [] size_rest (plain_writer size_text) (λ number one. tt) call few is;
    accepted = λ texts its hold of. accepted is texts its hold of;
    part = λ texts its hold of. text_part vocabulary (λ did. did ≡ writing (sound_text its)) (sound_text its) (λ did same. ap (λ (w : CallWork). w.text) same) call files (accepted is texts its hold of);
  }
