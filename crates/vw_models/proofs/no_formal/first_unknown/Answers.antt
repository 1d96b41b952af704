use Rattle.std.proofs.Common.{◌∙◌, refl, length}
use Rattle.std.proofs.lemmas.Option.{slice_get_read}
use Rattle.vw_design.specs.Paths.{Word}
use Rattle.vw_design.specs.ModelFaults.{unknown_formal_in}
use Rattle.vw_design.specs.WordSets.{has_word}
use Rattle.vw_models.specs.Steps.PlacedModels.{at_numbered}
use Rattle.vw_models.specs.Steps.Formals.{AreFormals}
use Rattle.vw_models.specs.Steps.FoundAtPlaced.{unknown_formal_at}
use Rattle.vw_models.proofs.FirstAtPlaced.{the_name, model_of, unknown_is}
use Rattle.vw_models.proofs.AtPlacedModel.{zip_at, nothing_at, something_at, nothing_left, made_none, made_some, unknown_by}
use Rattle.vw_models.proofs.no_formal.first_unknown.Goals as goal
use Rattle.vw_order.proofs.NoValue.{none_is}

pub bounds-formals-numbered : goal.bounds-formals-numbered
bounds-formals-numbered c =
    let design = c.args.design.now in
    let numbered = c.numbered-item.result in
    let model = model_of design c.args.placed.now c.loop-numbered.numbered-index numbered c.requires.placed c.loop-numbered-test.true c.numbered-item.is in
    (zip_at AreFormals design.models c.args.formals.now numbered.number model.0 c.requires.formals model.1).0

pub returns-in-Some : goal.returns-in-Some
returns-in-Some c =
    let design = c.args.design.now in
    let placed = c.args.placed.now in
    let i = c.loop-numbered.numbered-index in
    let numbered = c.numbered-item.result in
    let formals = c.args.formals.now in
    let words = c.index-formals-numbered.result in
    let model = model_of design placed i numbered c.requires.placed c.loop-numbered-test.true c.numbered-item.is in
    let zip = zip_at AreFormals design.models formals numbered.number model.0 c.requires.formals model.1 in
    let are = zip.1 words (slice_get_read formals (length formals) numbered.number words refl zip.0 c.index-formals-numbered.is) in
    let says = c.unknown_among-found.ensures ∙ unknown_by model.0 numbered.binds.now (λ w. has_word words.words w) are in
    let made = λ (w : Word). the_name numbered.line w in
    something_at design unknown_formal_at placed i numbered c.loop-numbered-test.true c.numbered-item.is model.0 model.1 (made c.in_ok-copy.field-0)
    (made_some made c.unknown_among-found.result (unknown_formal_in model.0 numbered.binds.now) says c.in-Some.formal c.in-Some.is c.in_ok-copy.field-0 c.in_ok-copy.ensures) c.loop-numbered.invariant
    ∙ unknown_is design placed c.requires.placed

pub loop-numbered-preserved : goal.loop-numbered-preserved
loop-numbered-preserved c =
    let design = c.args.design.now in
    let placed = c.args.placed.now in
    let i = c.loop-numbered.numbered-index in
    let numbered = c.numbered-item.result in
    let formals = c.args.formals.now in
    let words = c.index-formals-numbered.result in
    let model = model_of design placed i numbered c.requires.placed c.loop-numbered-test.true c.numbered-item.is in
    let zip = zip_at AreFormals design.models formals numbered.number model.0 c.requires.formals model.1 in
    let are = zip.1 words (slice_get_read formals (length formals) numbered.number words refl zip.0 c.index-formals-numbered.is) in
    let says = c.unknown_among-found.ensures ∙ unknown_by model.0 numbered.binds.now (λ w. has_word words.words w) are in
    nothing_at design unknown_formal_at placed i numbered c.loop-numbered-test.true c.numbered-item.is model.0 model.1
    (made_none (λ (w : Word). the_name numbered.line w) c.unknown_among-found.result (unknown_formal_in model.0 numbered.binds.now) says (none_is c.unknown_among-found.result c.in_default.not-Some)) c.loop-numbered.invariant

pub returns : goal.returns
returns c =
    nothing_left (at_numbered c.args.design.now unknown_formal_at) c.args.placed.now c.loop-numbered.numbered-index c.loop-numbered-test.false c.loop-numbered.invariant
    ∙ unknown_is c.args.design.now c.args.placed.now c.requires.placed
