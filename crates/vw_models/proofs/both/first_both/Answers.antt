use Rattle.std.proofs.Common.{◌∙◌, Some, length, find, refl, sym, ap}
use Rattle.std.proofs.lemmas.Option.{slice_get_read, slice_get_within}
use Rattle.vw_design.specs.Paths.{Word, is_port}
use Rattle.vw_models.specs.Steps.PlacedModels.{at_numbered}
use Rattle.vw_models.specs.Steps.Formals.{IsBothWays}
use Rattle.vw_models.specs.Steps.FoundAtPlaced.{both_ways_at}
use Rattle.vw_models.proofs.NumberedModels.{model_at_place, within_models}
use Rattle.vw_models.proofs.FirstAtPlaced.{the_output, model_of, both_is}
use Rattle.vw_models.proofs.AtPlacedModel.{zip_at, nothing_at, something_at, nothing_left, made_none, made_some}
use Rattle.vw_models.proofs.both.first_both.Goals as goal
use Rattle.vw_order.proofs.NoValue.{none_is}

pub bounds-outputs-numbered : goal.bounds-outputs-numbered
bounds-outputs-numbered c =
    let design = c.args.design.now in
    let numbered = c.numbered-item.result in
    let model = model_of design c.args.placed.now c.loop-numbered.numbered-index numbered c.requires.placed c.loop-numbered-test.true c.numbered-item.is in
    (zip_at IsBothWays design.models c.args.outputs.now numbered.number model.0 c.requires.outputs model.1).0

pub bounds-models-numbered : goal.bounds-models-numbered
bounds-models-numbered c =
    let design = c.args.design.now in
    let numbered = c.numbered-item.result in
    let model = model_of design c.args.placed.now c.loop-numbered.numbered-index numbered c.requires.placed c.loop-numbered-test.true c.numbered-item.is in
    within_models c.models.result.now design.models numbered.number (sym c.models.ensures) (slice_get_within design.models numbered.number model.0 model.1)

pub returns-in-Some : goal.returns-in-Some
returns-in-Some c =
    let design = c.args.design.now in
    let placed = c.args.placed.now in
    let i = c.loop-numbered.numbered-index in
    let numbered = c.numbered-item.result in
    let outputs = c.args.outputs.now in
    let found = c.index-outputs-numbered.result in
    let model = c.index-models-numbered.result in
    let there = model_of design placed i numbered c.requires.placed c.loop-numbered-test.true c.numbered-item.is in
    let inside = within_models c.models.result.now design.models numbered.number (sym c.models.ensures) (slice_get_within design.models numbered.number there.0 there.1) in
    let stands = model_at_place design.models c.models.result.now numbered.number model c.models.ensures inside c.index-models-numbered.is in
    let zip = zip_at IsBothWays design.models outputs numbered.number model c.requires.outputs stands in
    let says = zip.1 found (slice_get_read outputs (length outputs) numbered.number found refl zip.0 c.index-outputs-numbered.is) in
    let made = λ (w : Word). the_output model.name w in
    something_at design both_ways_at placed i numbered c.loop-numbered-test.true c.numbered-item.is model stands (the_output c.in_ok-copy.field-0 c.in_ok-copy-2.field-0)
    (made_some made found (find (is_port model) model.outputs) says c.in-Some.output c.in-Some.is c.in_ok-copy-2.field-0 c.in_ok-copy-2.ensures
    ∙ ap (λ (name : Word). Some (the_output name c.in_ok-copy-2.field-0)) (sym (c.in_ok-copy.ensures ∙ c.name.ensures))) c.loop-numbered.invariant
    ∙ both_is design placed c.requires.placed

pub loop-numbered-preserved : goal.loop-numbered-preserved
loop-numbered-preserved c =
    let design = c.args.design.now in
    let placed = c.args.placed.now in
    let i = c.loop-numbered.numbered-index in
    let numbered = c.numbered-item.result in
    let outputs = c.args.outputs.now in
    let found = c.index-outputs-numbered.result in
    let model = model_of design placed i numbered c.requires.placed c.loop-numbered-test.true c.numbered-item.is in
    let zip = zip_at IsBothWays design.models outputs numbered.number model.0 c.requires.outputs model.1 in
    let says = zip.1 found (slice_get_read outputs (length outputs) numbered.number found refl zip.0 c.index-outputs-numbered.is) in
    nothing_at design both_ways_at placed i numbered c.loop-numbered-test.true c.numbered-item.is model.0 model.1
    (made_none (λ (w : Word). the_output model.0.name w) found (find (is_port model.0) model.0.outputs) says (none_is found c.in_default.not-Some)) c.loop-numbered.invariant

pub returns : goal.returns
returns c =
    nothing_left (at_numbered c.args.design.now both_ways_at) c.args.placed.now c.loop-numbered.numbered-index c.loop-numbered-test.false c.loop-numbered.invariant
    ∙ both_is c.args.design.now c.args.placed.now c.requires.placed
