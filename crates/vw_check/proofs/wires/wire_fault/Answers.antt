use Rattle.std.proofs.Common.{◌∙◌, ap, sym, Option, None}
use Rattle.std.specs.Option.{option_or}
use Rattle.vw_plan.specs.Needs.{needed_pairs}
use Rattle.vw_check.specs.declared.fault.PlanFault.{PlanFault}
use Rattle.vw_check.specs.WireFaults.{extra_wire}
use Rattle.vw_net.proofs.FirstOptions.{or_nothing}
use Rattle.vw_check.proofs.WireTables.{extra_by, missing_by}
use Rattle.vw_check.proofs.wires.wire_fault.Goals as goal

-- a pair without a wire is missing
pub returns-in-Some : goal.returns-in-Some
returns-in-Some c =
    let flat = c.args.ordered.now.flat in
    let plan = c.args.plan.now in
    let needs = c.as_slice.ensures ∙ c.in_ok-needs.ensures ∙ ap (needed_pairs flat) c.chip_of.ensures in
    let missing = missing_by flat plan c.args.wires.now.places c.requires.wires c.as_slice.result.now needs in
    ap (λ (found : Option PlanFault). option_or found (option_or (extra_wire flat plan) None)) (sym c.in-Some.is ∙ c.missing_wire.ensures ∙ missing)

-- else an extra wire is one
pub returns : goal.returns
returns c =
    let flat = c.args.ordered.now.flat in
    let plan = c.args.plan.now in
    let needs = c.as_slice.ensures ∙ c.in_ok-needs.ensures ∙ ap (needed_pairs flat) c.chip_of.ensures in
    let again = c.as_slice-2.ensures ∙ c.in_ok-needs.ensures ∙ ap (needed_pairs flat) c.chip_of.ensures in
    let missing = missing_by flat plan c.args.wires.now.places c.requires.wires c.as_slice.result.now needs in
    let extra = extra_by flat plan c.args.wires.now.places c.requires.wires c.as_slice-2.result.now c.in_ok-table.table.places again c.in_ok-table.ensures (c.needed_pairs_are_needed.ensures.listed flat plan.chip_of) in
    c.extra_wire.ensures ∙ extra ∙ sym (or_nothing (extra_wire flat plan))
    ∙ ap (λ (found : Option PlanFault). option_or found (option_or (extra_wire flat plan) None)) (sym c.in_default.is ∙ c.missing_wire.ensures ∙ missing)
