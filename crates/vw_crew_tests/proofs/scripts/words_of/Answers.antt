use Rattle.std.proofs.Common.{◌<◌, ap, refl, sym, length, List, Bool, ◌∙◌, ◌+◌, arith}
use Rattle.std.proofs.lemmas.Option.{get_or_from_slice_get}
use Rattle.vw_net.specs.Cells.{latch_count}
use Rattle.vw_net.specs.declared.cell.Cell.{Cell}
use Rattle.vw_net.specs.declared.flat.Flat.{Flat}
use Rattle.vw_net.specs.declared.ordered.Ordered.{Ordered}
use Rattle.vw_plan.specs.declared.checked.Checked.{Checked}
use Rattle.vw_crew_tests.proofs.ScriptSlots.{all_words, length_state_at, more_words, row_is, state_is, value_is}
use Rattle.vw_crew_tests.proofs.scripts.words_of.Goals as goal

pub step-requires-clause-latches : goal.step-requires-clause-latches
step-requires-clause-latches c =
    let ordered = c.ordered-ordered.ensures ∙ ap (λ (checked : Checked). checked.ordered) c.checked.ensures in
    ap (λ (bits : List Bool). length bits) c.loop-clock.invariant.1 ∙ length_state_at c.args.job.now c.loop-clock.clock ∙ sym (ap (λ (one : Ordered). latch_count one.flat.cells) ordered)

pub loop-clock-preserved : goal.loop-clock-preserved
loop-clock-preserved c =
    let ordered = c.ordered-ordered.ensures ∙ ap (λ (checked : Checked). checked.ordered) c.checked.ensures in
    let flat = ap (λ (one : Ordered). one.flat) ordered in
    let all = c.args.job.now.rows in
    let below : c.loop-clock.clock < length all = omega (arith, c.loop-clock-test.true, c.len-clock-end.ensures) in
    let row = row_is c.args.job.now c.loop-clock.clock all c.row.result.now refl (sym (get_or_from_slice_get all c.loop-clock.clock c.row.result.now c.row.result.now c.row.ensures)) below in
    let inputs = c.inputs.ensures ∙ ap (λ (one : Flat). one.inputs) (c.flat.ensures ∙ flat) in
    let cells = ap (λ (list : List Cell). length list) (c.cells.ensures ∙ ap (λ (one : Flat). one.cells) (c.flat-2.ensures ∙ flat)) in
    let many = c.step.ensures.nets ∙ c.loop-clock.invariant.2 in (
      more_words c.args.job.now c.args.link c.loop-clock.clock (c.args.job.now.checked.ordered.flat.inputs + length c.args.job.now.checked.ordered.flat.cells) c.args.slots.now c.step.new.values _ _ c.requires.slots c.requires.below
          (λ net below. c.step.ensures.values net (omega (arith, below, many, inputs, cells)) ∙ value_is c.args.job.now c.loop-clock.clock net _ _ _ flat row c.loop-clock.invariant.1)
          c.loop-clock.invariant.0 c.in_ok-add_words.ensures,
      c.step.ensures.state ∙ state_is c.args.job.now c.loop-clock.clock _ _ _ below flat row c.loop-clock.invariant.1,
      many,
    )

pub returns : goal.returns
returns c = all_words c.args.job.now c.args.link c.loop-clock.clock c.loop-clock.words.items c.args.job.now.rows refl (omega (arith, c.loop-clock.auto.clock-end, c.len-clock-end.ensures)) (omega (arith, c.loop-clock-test.false, c.len-clock-end.ensures)) c.loop-clock.invariant.0
