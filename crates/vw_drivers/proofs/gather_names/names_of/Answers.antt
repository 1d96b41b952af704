use Rattle.std.proofs.Common.{◌≡◌, ◌<◌, ◌∷◌, [], List, Option, ℕ, length, get_or, map, slice_get, Some, sym, ◌∙◌, refl, ap, ap₂, length-append, arith}
use Rattle.std.proofs.lemmas.Option.{slice_get_read, slice_get-get_or, slice_get_within}
use Rattle.vw_design.specs.declared.item.Item.{Item}
use Rattle.vw_design.specs.declared.model.Model.{Model}
use Rattle.vw_drivers.specs.Firsts.{number_named}
use Rattle.vw_drivers.specs.Names.{reads_of}
use Rattle.vw_drivers.specs.Steps.GatheredNames.{placed_from}
use Rattle.vw_drivers.proofs.AllNames.{row_within, names_more}
use Rattle.vw_drivers.proofs.gather_names.names_of.Goals as goal

pub bounds-targets-number : goal.bounds-targets-number
bounds-targets-number c =
    let within : c.loop-number.number < length c.args.targets.now.design.now.models = omega (arith, c.loop-number-test.true, ap (λ (models : List Model). length models) c.models-models.ensures) in
    row_within c.args.targets.now.design.now c.args.targets.now.numbers.now c.args.targets.now.are c.args.claims.now c.requires.claims c.loop-number.number within

pub loop-number-preserved : goal.loop-number-preserved
loop-number-preserved c =
    let design = c.args.targets.now.design.now in
    let targets = c.args.targets.now.numbers.now in
    let claims = c.args.claims.now in
    let i = c.loop-number.number in
    let model = c.index-models-number.result in
    let own = c.index-claims-number.result in
    let row = get_or targets i c.index-targets-number.result in
    let names = c.in_ok-gathered_names.field-0 in
    let within : i < length design.models = omega (arith, c.loop-number-test.true, ap (λ (models : List Model). length models) c.models-models.ensures) in
    let at_model : slice_get design.models i ≡ Some model =
    ap (λ (models : List Model). slice_get models i) (sym c.models-models.ensures) ∙ slice_get_read c.models-models.result.now (length c.models-models.result.now) i model refl c.loop-number-test.true c.index-models-number.is in
    let at_own = slice_get_read claims (length claims) i own refl (omega (arith, within, c.requires.claims)) c.index-claims-number.is in
    let at_row = slice_get-get_or targets i c.index-targets-number.result (row_within design targets c.args.targets.now.are claims c.requires.claims i within) in
    let reads : names.reads ≡ map (λ (item : Item). map (number_named own.firsts) (reads_of item)) model.items =
    c.in_ok-gathered_names.ensures.reads ∙ ap (map (λ (item : Item). map (number_named own.firsts) (reads_of item))) c.items.ensures in
    let placed : names.placed ≡ placed_from own.firsts claims row 0 0 model.items =
    c.in_ok-gathered_names.ensures.placed
    ∙ ap₂ (λ (numbers : List (Option ℕ)) (items : List Item). placed_from own.firsts claims numbers 0 0 items) c.as_slice-placed.ensures c.items.ensures in
    record {
      length_is = ap length c.in_ok-push.ensures.items ∙ length-append c.loop-number.names.items (names ∷ []) ∙ omega (arith, c.loop-number.invariant.length_is);
      names = names_more design targets c.args.targets.now.are claims c.requires.claims i model own row names c.loop-number.names.items c.push.new.self.items
          at_model at_own at_row reads placed c.loop-number.invariant.length_is c.loop-number.invariant.names c.in_ok-push.ensures.items;
    }

pub returns : goal.returns
returns c =
    let models = ap (λ (models : List Model). length models) c.models-models.ensures in record {
      count = omega (arith, c.loop-number-test.false, c.loop-number.auto.number-end, c.loop-number.invariant.length_is, models);
      each = λ number model at. c.loop-number.invariant.names number model (omega (arith, c.loop-number-test.false, models, slice_get_within c.args.targets.now.design.now.models number model at)) at;
    }
