use Rattle.std.proofs.Common.{◌≤◌, ◌∙◌, ◌^◌, length, ap, sym, subst, arith}
use Rattle.std.specs.List.{All, sum_by}
use Rattle.vw_plan.specs.declared.wire.Wire.{Wire}
use Rattle.vw_pipe.specs.Steps.Drafts.{microcycle_limit}
use Rattle.vw_pipe.proofs.ScheduleBounds.{as_many_hops, as_many_wires, latest_early, wires_early}
use Rattle.vw_pipe.proofs.Scheduled.{AreLaws, IsReadyToPlan, scheduled_for}
use Rattle.vw_pipe.proofs.planning.plan_parts.Goals as goal

pub returns-clause-few_wires : goal.returns-clause-few_wires
returns-clause-few_wires c =
    let done = c.in_ok-draft.ensures in
    let as_many = as_many_wires c.args.routes.now c.in_ok-draft.draft.hops.items done.fit.long in
    omega (arith, ap length c.in_ok-wires.ensures, as_many, c.requires.few)

pub returns-clause-few_hops : goal.returns-clause-few_hops
returns-clause-few_hops c =
    let done = c.in_ok-draft.ensures in
    let as_many = as_many_hops c.args.board.now c.args.routes.now c.in_ok-draft.draft.hops.items done.along in
    omega (arith, ap (sum_by (λ (wire : Wire). length wire.hops)) c.in_ok-wires.ensures, as_many, c.requires.routes.few)

pub returns-clause-early : goal.returns-clause-early
returns-clause-early c =
    let early = c.in_ok-draft.ensures.fit.early in
    let draft = c.in_ok-draft.draft in
    let limit = microcycle_limit (length draft.table.taken) in
    let all_early = wires_early c.args.board.now.links limit c.args.routes.now draft.hops.items (omega (arith, early.few)) early.sent in
    subst (All (λ wire. All (λ hop. hop.at ≤ 2 ^ 62) wire.hops)) (sym c.in_ok-wires.ensures) all_early

pub returns-clause-short : goal.returns-clause-short
returns-clause-short c =
    let fit = c.in_ok-draft.ensures.fit in
    omega (arith, c.period_of-period.ensures, fit.early.few, fit.early.last, latest_early c.args.chip_of.now fit)

pub returns-clause-schedule : goal.returns-clause-schedule
returns-clause-schedule c = λ plan chips wires period.
    let needed = c.needed_pairs_are_needed.ensures in
    let laws : AreLaws = record { follow_drivers = c.leads_follow_drivers.ensures; listed = needed.listed; once = needed.once } in
    let ready : IsReadyToPlan c.args.ordered.now c.args.board.now c.args.chip_of.now c.args.routes.now c.in_ok-draft.draft = record {
      each = c.requires.each;
      chips = c.requires.chips;
      room = c.requires.room;
      routes_are = c.requires.routes;
      done = c.in_ok-draft.ensures;
    } in
    scheduled_for laws ready plan chips (wires ∙ c.in_ok-wires.ensures) (period ∙ c.period_of-period.ensures)
