use Rattle.std.proofs.Common.{refl}
use Rattle.vw_design.specs.ModelFaults.{NameAt, NameOf, unknown_formal, unbound_input, port_both_ways}
use Rattle.vw_design.specs.Accepted.{formal_unknown, input_unbound, output_both_ways}
use Rattle.vw_models.specs.declared.formal_at.FormalAt.{FormalAt}
use Rattle.vw_models.specs.declared.output_of.OutputOf.{OutputOf}
use Rattle.vw_elab.proofs.FurtherFaults.{nothing_told, told_is, first_of_models}
use Rattle.vw_elab.proofs.models.check_bindings.Goals as goal

abbrev told_formal : FormalAt → NameAt
told_formal at = record { line = at.line; name = at.formal }

abbrev told_output : OutputOf → NameOf
told_output of = record { model = of.model; name = of.output }

pub returns-in-Some : goal.returns-in-Some
returns-in-Some c =
    let design = c.args.targets.now.design.now in
    let at = c.in-Some.at in
    first_of_models design c.requires.models (formal_unknown (told_formal at)) (told_is told_formal c.in_ok-at.field-0 at (unknown_formal design) c.in_ok-at.ensures c.in-Some.is) refl refl refl

pub returns-in-Some-2 : goal.returns-in-Some-2
returns-in-Some-2 c =
    let design = c.args.targets.now.design.now in
    let at = c.in-Some-2.at in
    first_of_models design c.requires.models (input_unbound (told_formal at))
    (nothing_told told_formal c.in_ok-at.field-0 (unknown_formal design) c.in_ok-at.ensures c.in_default.is)
    (told_is told_formal c.in_ok-at-2.field-0 at (unbound_input design) c.in_ok-at-2.ensures c.in-Some-2.is) refl refl

pub returns-in-Some-3 : goal.returns-in-Some-3
returns-in-Some-3 c =
    let design = c.args.targets.now.design.now in
    let of = c.in-Some-3.of in
    first_of_models design c.requires.models (output_both_ways (told_output of))
    (nothing_told told_formal c.in_ok-at.field-0 (unknown_formal design) c.in_ok-at.ensures c.in_default.is)
    (nothing_told told_formal c.in_ok-at-2.field-0 (unbound_input design) c.in_ok-at-2.ensures c.in_default-2.is)
    (told_is told_output c.in_ok-of.field-0 of (port_both_ways design) c.in_ok-of.ensures c.in-Some-3.is) refl

pub returns : goal.returns
returns c =
    let design = c.args.targets.now.design.now in
    record {
      models = c.requires.models;
      formals_known = nothing_told told_formal c.in_ok-at.field-0 (unknown_formal design) c.in_ok-at.ensures c.in_default.is;
      inputs_bound = nothing_told told_formal c.in_ok-at-2.field-0 (unbound_input design) c.in_ok-at-2.ensures c.in_default-2.is;
      one_way = nothing_told told_output c.in_ok-of.field-0 (port_both_ways design) c.in_ok-of.ensures c.in_default-3.is;
    }
