use Rattle.std.proofs.Common.{◌∙◌, sym}
use Rattle.std.proofs.lemmas.Option.{slice_get_within}
use Rattle.vw_design.specs.Paths.{Word}
use Rattle.vw_design.specs.ModelFaults.{unbound_input_in}
use Rattle.vw_models.specs.Steps.PlacedModels.{at_numbered}
use Rattle.vw_models.specs.Steps.FoundAtPlaced.{unbound_input_at}
use Rattle.vw_models.proofs.NumberedModels.{model_at_place, within_models}
use Rattle.vw_models.proofs.FirstAtPlaced.{the_name, model_of, unbound_is}
use Rattle.vw_models.proofs.AtPlacedModel.{nothing_at, something_at, nothing_left, made_none, made_some}
use Rattle.vw_models.proofs.unbound.first_unbound.Goals as goal
use Rattle.vw_order.proofs.NoValue.{none_is}

pub bounds-models-numbered : goal.bounds-models-numbered
bounds-models-numbered c =
    let design = c.args.design.now in
    let numbered = c.numbered-item.result in
    let model = model_of design c.args.placed.now c.loop-numbered.numbered-index numbered c.requires c.loop-numbered-test.true c.numbered-item.is in
    within_models c.models.result.now design.models numbered.number (sym c.models.ensures) (slice_get_within design.models numbered.number model.0 model.1)

pub returns-in-Some : goal.returns-in-Some
returns-in-Some c =
    let design = c.args.design.now in
    let placed = c.args.placed.now in
    let i = c.loop-numbered.numbered-index in
    let numbered = c.numbered-item.result in
    let model = c.index-models-numbered.result in
    let there = model_of design placed i numbered c.requires c.loop-numbered-test.true c.numbered-item.is in
    let inside = within_models c.models.result.now design.models numbered.number (sym c.models.ensures) (slice_get_within design.models numbered.number there.0 there.1) in
    let stands = model_at_place design.models c.models.result.now numbered.number model c.models.ensures inside c.index-models-numbered.is in
    let made = λ (w : Word). the_name numbered.line w in
    something_at design unbound_input_at placed i numbered c.loop-numbered-test.true c.numbered-item.is model stands (made c.in_ok-copy.field-0)
    (made_some made c.in_ok-found.found (unbound_input_in model numbered.binds.now) c.in_ok-found.ensures c.in-Some.formal c.in-Some.is c.in_ok-copy.field-0 c.in_ok-copy.ensures) c.loop-numbered.invariant
    ∙ unbound_is design placed c.requires

pub loop-numbered-preserved : goal.loop-numbered-preserved
loop-numbered-preserved c =
    let design = c.args.design.now in
    let placed = c.args.placed.now in
    let i = c.loop-numbered.numbered-index in
    let numbered = c.numbered-item.result in
    let model = c.index-models-numbered.result in
    let there = model_of design placed i numbered c.requires c.loop-numbered-test.true c.numbered-item.is in
    let inside = within_models c.models.result.now design.models numbered.number (sym c.models.ensures) (slice_get_within design.models numbered.number there.0 there.1) in
    let stands = model_at_place design.models c.models.result.now numbered.number model c.models.ensures inside c.index-models-numbered.is in
    nothing_at design unbound_input_at placed i numbered c.loop-numbered-test.true c.numbered-item.is model stands
    (made_none (λ (w : Word). the_name numbered.line w) c.in_ok-found.found (unbound_input_in model numbered.binds.now) c.in_ok-found.ensures (none_is c.in_ok-found.found c.in_default.not-Some)) c.loop-numbered.invariant

pub returns : goal.returns
returns c =
    nothing_left (at_numbered c.args.design.now unbound_input_at) c.args.placed.now c.loop-numbered.numbered-index c.loop-numbered-test.false c.loop-numbered.invariant
    ∙ unbound_is c.args.design.now c.args.placed.now c.requires
