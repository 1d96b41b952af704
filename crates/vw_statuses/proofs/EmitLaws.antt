-- What each status of `emit` says of its files.
use Rattle.std.proofs.Common.{◌≡◌, ◌⊎◌, ◌++◌, ℕ, List, [], ◌∷◌, refl, ap, inl, inr, ⊎_elim, lit<, arith}
use Rattle.vw_outside.specs.Told.{Told}
use Rattle.vw_course.specs.Course.{Course, writing}
use Rattle.vw_course.specs.Follows.{May}
use Rattle.vw_course.specs.Endings.{IsCallOf}
use Rattle.vw_course.specs.Places.{IsOneOf, Files, RefusesHere, StandsAt, IsToWork, IsToRefuse}
use Rattle.vw_course.proofs.EveryPlace.{IsNoneOf, no_break}
use Rattle.vw_course.proofs.Openings.{IsOpening}
use Rattle.vw_course.proofs.StandLaws.{call_refused, call_settled}
use Rattle.vw_course.proofs.StageLaws.{refusal_behind, refused_for}
use Rattle.vw_net.specs.declared.ordered.Ordered.{Ordered}
use Rattle.vw_plan.specs.declared.board.Board.{Board}
use Rattle.vw_plan.specs.declared.plan.Plan.{Plan}
use Rattle.vw_plan.specs.PlannedBoard.{planned_board}
use Rattle.vw_emit_text.specs.Emitted.{FitsDesigns}
use Rattle.vw_emit_text.proofs.Limits.{HasEmitFault, fits_or_not}
use Rattle.vw_courses.specs.declared.vocabulary.Reason.{Reason}
use Rattle.vw_courses.specs.declared.vocabulary.Reason.TheVariants as reasons
use Rattle.vw_courses.specs.Messages.{reason_status, vocabulary, Call, CallWork}
use Rattle.vw_courses.specs.Kinds.{IsBadEmission}
use Rattle.vw_courses.specs.Commands.{emit_rest, ready_course}
use Rattle.vw_courses.specs.MayPlan.{PlanBy}
use Rattle.vw_statuses.specs.PlannedStatuses.{PlanTexts, AreSpelled, HavePlan, plan_statuses, HoldTexts, its_files}
use Rattle.vw_statuses.specs.EmittedBoards.{board_design, BoardsShow, DesignFits}
use Rattle.vw_statuses.specs.EmitStatuses.{IsTooLarge, EmitStatuses}
use Rattle.vw_statuses.specs.WrittenStatuses.{IsWritten}
use Rattle.vw_statuses.proofs.EmittedBoards.{writes_board}
use Rattle.vw_statuses.proofs.PlannedLaws.{Has, Spelled, opening, none_planned, apart_from}
use Rattle.vw_statuses.proofs.WrittenLaws.{IsWriter, written_opening, keeps, written_table}

-- behind its plan it writes the design, or refuses with 10 alone
writer : IsWriter board_design DesignFits (10 ∷ []) emit_rest
writer = record {
  keeps = λ files ordered board plan. (λ reason bad. inl (ap reason_status bad.1), λ done fits. tt);
  works = λ told did ordered board plan may.
      ⊎_elim (λ (none : ⊥). absurd none) (λ (more : Unit {0} × FitsDesigns (planned_board ordered board plan) × (did ≡ writing (board_design ordered board plan))). (more.1, more.2)) may;
  comes = λ told files What ordered board plan fits what. inr ((tt, fits), λ done so. (tt, what));
}

module _ (design board : List ℕ) (by : PlanBy) (call : Call) where
  abbrev course : Course vocabulary
  course = ready_course [] design board by emit_rest

  abbrev told : List ℕ → Told
  told = call.before.shelf.told

  abbrev all : Files vocabulary
  all = its_files [] design board by

  apart : (number : ℕ) → IsOneOf (plan_statuses by) number → IsNoneOf (10 ∷ []) number
  apart number one = (apart_from by 10 (λ is. omega (arith, is)) (λ is. omega (arith, is)) (λ is. omega (arith, is)) (λ is. omega (arith, is)) number one, tt)

  its_opening : IsOpening told all (plan_statuses by) (opening [] design board by call) (Has [] design board by call) (HoldTexts [] design board by call) (HavePlan [] by) (Spelled [] design board by call)
  its_opening = written_opening [] design board by board_design DesignFits (10 ∷ []) emit_rest writer apart call

  too_large_why : (texts : PlanTexts) → HoldTexts [] design board by call texts → (reason : Reason) → reason_status reason ≡ 10
      → May told (RefusesHere reason) course → IsTooLarge by texts reason
  too_large_why texts hold reason same may =
      let later = its_opening.behind 10 (RefusesHere reason) (refusal_behind told 10 reason same) (none_planned by 10 (λ is. omega (arith, is)) (λ is. omega (arith, is)) (λ is. omega (arith, is)) (λ is. omega (arith, is))) (λ x. emit_rest x.0 x.1 x.2) may in
      ⊎_elim
      (λ (bad : IsBadEmission (planned_board later.0.0 later.0.1 later.0.2) reason). record { ordered = later.0.0; board = later.0.1; plan = later.0.2; are = its_opening.spelled texts hold later.0 later.1; bad = bad })
      (λ (more : Unit {0} × FitsDesigns (planned_board later.0.0 later.0.1 later.0.2) × ⊥). absurd more.2)
      later.2

  -- a planned board that fits is written, and another is refused
  settles : (texts : PlanTexts) (ordered : Ordered) (on : Board) (plan : Plan) → AreSpelled [] by texts ordered on plan
      → FitsDesigns (planned_board ordered on plan) ⊎ HasEmitFault (planned_board ordered on plan)
      → StandsAt told all (λ place. IsToWork told all (IsWritten [] by board_design DesignFits texts) place ⊎ IsToRefuse (IsTooLarge by texts) place) (emit_rest ordered on plan)
  settles texts ordered on plan are (inl fits) =
      inr ((tt, fits), λ done so. inl (tt, record { ordered = ordered; its_board = on; plan = plan; are = are; fits = fits; is = refl }))
  settles texts ordered on plan are (inr (fault, some, is)) =
      inl (inr ((reasons.Emit fault, (fault, refl, some, is)), λ reason bad. record { ordered = ordered; board = on; plan = plan; are = are; bad = bad }))

  pub emit_table : BoardsShow → IsCallOf course call → EmitStatuses design board by call
  emit_table show is =
      let written = written_table [] design board by board_design DesignFits (10 ∷ []) emit_rest writer apart call (omega arith) is in
      record {
        written = written;
        acts = λ texts hold status. writes_board show by texts call (written.ends.done texts hold status);
        too_large = λ texts hold. refused_for course call is 10 (IsTooLarge by texts) (too_large_why texts hold)
            (no_break told all [] (plan_statuses by ++ 10 ∷ []) [] course (keeps [] design board by board_design DesignFits (10 ∷ []) emit_rest writer apart call) 10 tt) (lit< tt) (inr (lit< tt, lit< tt));
        too_large_comes = λ texts hold have large.
            call_refused vocabulary all call (IsTooLarge by texts) course is
            (its_opening.comes (IsToRefuse (IsTooLarge by texts)) texts hold have (λ x. emit_rest x.0 x.1 x.2)
            (λ x are. inl (large x.0 x.1 x.2 are, λ reason bad. record { ordered = x.0; board = x.1; plan = x.2; are = are; bad = bad })));
        settled = λ texts hold have.
            let What : CallWork → Type 0 = IsWritten [] by board_design DesignFits texts in
            call_settled vocabulary all call What (IsTooLarge by texts) course is
            (its_opening.comes (λ place. IsToWork told all What place ⊎ IsToRefuse (IsTooLarge by texts) place) texts hold have (λ x. emit_rest x.0 x.1 x.2)
            (λ x are. settles texts x.0 x.1 x.2 are (fits_or_not (planned_board x.0 x.1 x.2))));
      }
