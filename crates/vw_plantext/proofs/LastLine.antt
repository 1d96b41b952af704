-- The last line of a plan's text, and what stands behind it.
use Rattle.std.proofs.Common.{◌≡◌, ◌≢◌, ◌<◌, ◌+◌, ◌^◌, ℕ, true, List, [], ◌∷◌, ◌++◌, length, Option, Some, None, Result, Ok, Err, ap, refl, sym, subst, ◌∙◌, ⊎_elim, eqb-true, length-append, true≢false, arith}
use Rattle.std.specs.Prelude.{codes, IfOk, IfErr}
use Rattle.std.proofs.lemmas.List.{append_assoc, append-nil}
use Rattle.vw_text.specs.Physical.{lines_text}
use Rattle.vw_plan.specs.declared.wire.Wire.{Wire}
use Rattle.vw_plan.specs.declared.plan.Plan.{Plan}
use Rattle.vw_plantext.specs.declared.fault.PlanTextFault.{PlanTextFault}
use Rattle.vw_plan.specs.HopCounts.{hop_count}
use Rattle.vw_plantext.specs.Content.{Content, IsInRange}
use Rattle.vw_plantext.specs.Grammar.{body_lines, plan_lines, spelling}
use Rattle.vw_plantext.specs.CanStand.{CanStand, IsFirstBadLine}
use Rattle.vw_plantext.specs.Steps.Cuts.{IsOneLine, IsLineCut}
use Rattle.vw_plantext.specs.Steps.Bodies.{UnfinishedWire, BodyState, FollowsWires, IsRestOfPlan, part_hops, part_count, is_complete, is_complete_but, RefusesLine}
use Rattle.vw_plantext.specs.Steps.Starts.{IsReadTo, IsFaultOfText}
use Rattle.vw_plantext.specs.Steps.Finished.{content_read, EndsPlan, EndsBadly, IsSpelled}
use Rattle.vw_plantext.proofs.HopAndWireLines.{same_part}
use Rattle.vw_plantext.proofs.Faults.{first_bad}
use Rattle.vw_plantext.proofs.ReadSoFar.{whole_more, fault_line}

-- no wire is being read, and none is left
record IsComplete (part : Option UnfinishedWire) (left : ℕ) : Type 0 where
  none : part ≡ None
  all : left ≡ 0

complete_parts : (part : Option UnfinishedWire) (left : ℕ) → is_complete_but part left ≡ true → IsComplete part left
complete_parts None left is = record { none = refl; all = eqb-true left 0 is }
complete_parts (Some part) left is = absurd (true≢false (sym is))

-- the lines that follow are the last one
only_end : (left : ℕ) (done all : List Wire) (lines : List (List ℕ)) → left ≡ 0 → FollowsWires left done all lines → lines ≡ codes "end" ∷ []
only_end left done all lines none follows = by_rest follows.rest follows.count follows.lines_are where
  by_rest : (rest : List Wire) → length rest ≡ left → lines ≡ body_lines rest → lines ≡ codes "end" ∷ []
  by_rest [] size are = are
  by_rest (wire ∷ rest) size are = absurd (omega arith)

module _ (text : List ℕ) (state : BodyState) (rest : List ℕ) (number : ℕ) (to : IsReadTo text state rest number) (complete : is_complete state ≡ true) (line after : List ℕ) (cut : IsLineCut rest line after) where
  are : IsComplete state.part state.left
  are = complete_parts state.part state.left complete

  end_left : (content : Content) (more : List (List ℕ)) → IsRestOfPlan state content more → more ≡ codes "end" ∷ []
  end_left content more is_left = only_end state.left state.wires content.wires more are.all (same_part state.part None are.none state.left state.wires content.wires more is_left.wires)

  read_is_left : IsRestOfPlan state (content_read state) (codes "end" ∷ [])
  read_is_left = record { chip_of = refl; period = refl; wires = same_part None state.part (sym are.none) state.left state.wires state.wires (codes "end" ∷ []) (record { rest = []; count = sym are.all; are = sym (append-nil state.wires); lines_are = refl }) }

  all_lines : to.lines ++ codes "end" ∷ [] ≡ plan_lines (content_read state)
  all_lines = to.read.makes (content_read state) (codes "end" ∷ []) read_is_left

  in_range : IsInRange (content_read state)
  in_range =
      let few : length state.wires + (0 + state.left) < 2 ^ 32 = subst (λ (p : Option UnfinishedWire). length state.wires + (part_count p + state.left) < 2 ^ 32) are.none to.read.fits.few_wires in
      let hops : hop_count state.wires + (0 + (state.room + 1)) ≡ 2 ^ 30 = subst (λ (p : Option UnfinishedWire). hop_count state.wires + (part_hops p + (state.room + 1)) ≡ 2 ^ 30) are.none to.read.fits.hops in
      record { few_cells = to.read.fits.few_cells; few_wires = omega arith; few_hops = omega arith; chips = to.read.fits.chips; wires = to.read.fits.wires; short = to.read.fits.short }

  -- the text is all there
  end_spelled : line ≡ codes "end" → after ≡ [] → spelling (content_read state) ≡ text
  end_spelled is nothing =
      let whole : text ≡ lines_text (to.lines ++ line ∷ []) ++ after = whole_more text to.lines rest line after to.whole cut.whole in
      let lines : to.lines ++ line ∷ [] ≡ plan_lines (content_read state) = ap (λ (last : List ℕ). to.lines ++ last ∷ []) is ∙ all_lines in
      ap lines_text (sym lines) ∙ sym (append-nil (lines_text (to.lines ++ line ∷ []))) ∙ ap (λ (behind : List ℕ). lines_text (to.lines ++ line ∷ []) ++ behind) (sym nothing) ∙ sym whole

  -- something stands behind the last line
  end_more : line ≡ codes "end" → after ≢ [] → IsFirstBadLine text (number + 1)
  end_more is something = first_bad text (to.lines ++ line ∷ []) after (number + 1) size (whole_more text to.lines rest line after to.whole cut.whole) can no_next (λ content fits all none. something none) where
    size : length (to.lines ++ line ∷ []) + 1 ≡ number + 1
    size = let one : length to.lines + 1 ≡ number = to.number_ in omega (arith, length-append to.lines (line ∷ []))

    can : CanStand (to.lines ++ line ∷ [])
    can = record { content = content_read state; in_range = in_range; rest = []; begins = append-nil (to.lines ++ line ∷ []) ∙ ap (λ (last : List ℕ). to.lines ++ last ∷ []) is ∙ all_lines }

    no_next : (next behind : List ℕ) → after ≡ next ++ 10 ∷ behind → IsOneLine next → ¬ (CanStand ((to.lines ++ line ∷ []) ++ next ∷ []))
    no_next next behind cut_ one_line stands =
        let begins : to.lines ++ (line ∷ next ∷ stands.rest) ≡ plan_lines stands.content = sym (append_assoc to.lines (line ∷ []) (next ∷ stands.rest)) ∙ sym (append_assoc (to.lines ++ line ∷ []) (next ∷ []) stands.rest) ∙ stands.begins in
        let only : line ∷ next ∷ stands.rest ≡ codes "end" ∷ [] = end_left stands.content (line ∷ next ∷ stands.rest) (to.read.stays stands.content (line ∷ next ∷ stands.rest) stands.in_range begins) in
        cc

  -- another line stands in its place
  other_refused : line ≢ codes "end" → RefusesLine state line
  other_refused other content more fits is_left =
      let only : line ∷ more ≡ codes "end" ∷ [] = end_left content (line ∷ more) is_left in
      let same : line ≡ codes "end" = cc in
      other same

  pub spelled_at_end : (result : Result Plan PlanTextFault) → IfOk result (EndsPlan state line after) → IfOk result (IsSpelled text)
  spelled_at_end (Err fault) ends = tt
  spelled_at_end (Ok plan) ends = record { in_range = subst IsInRange (sym ends.is) in_range; spelled = ap spelling ends.is ∙ end_spelled ends.line_ ends.nothing }

  pub fault_at_end : (result : Result Plan PlanTextFault) → IfErr result (EndsBadly line after number) → IfErr result (IsFaultOfText text)
  fault_at_end (Ok plan) ends = tt
  fault_at_end (Err fault) ends = ⊎_elim (λ more. subst (IsFaultOfText text) (sym more.0) (end_more more.1 more.2)) (λ other. subst (IsFaultOfText text) (sym other.0) (fault_line text state rest number to line after cut (other_refused other.1))) ends
