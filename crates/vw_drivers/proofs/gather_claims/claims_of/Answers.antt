use Rattle.std.proofs.Common.{◌≡◌, ◌<◌, List, Option, Some, length, get_or, slice_get, sym, ◌∙◌, ap, ap₂, subst, arith}
use Rattle.std.proofs.lemmas.Option.{same_Some, slice_get-get_or}
use Rattle.vw_design.specs.declared.item.Item.{Item}
use Rattle.vw_design.specs.declared.model.Model.{Model}
use Rattle.vw_design.specs.Paths.{placings}
use Rattle.vw_design.proofs.PairedLists.{AllZip-length, AllZip-at}
use Rattle.vw_drivers.specs.declared.model_claims.ModelClaims.{ModelClaims}
use Rattle.vw_drivers.specs.Claimed.{AreClaims}
use Rattle.vw_drivers.specs.Steps.GatheredClaims.{with_item_claims, ports_only}
use Rattle.vw_design.specs.ModelNumbers.{AreModelNumbers}
use Rattle.vw_drivers.proofs.ClaimedOnce.{gathered_names}
use Rattle.vw_drivers.proofs.FirstClaims.{gathered_firsts}
use Rattle.vw_drivers.proofs.ModelClaimsAgain.{gathered_again}
use Rattle.vw_drivers.proofs.Targets.{at_place}
use Rattle.vw_drivers.proofs.gather_claims.claims_of.Goals as goal

pub bounds-targets-model : goal.bounds-targets-model
bounds-targets-model c = omega (arith, AllZip-length _ c.args.targets.now.design.now.models c.args.targets.now.numbers.now c.args.targets.now.are)

pub add_items-requires-clause-placed : goal.add_items-requires-clause-placed
add_items-requires-clause-placed c =
    let design = c.args.targets.now.design.now in
    let number = c.args.model in
    let model = c.index-models-model.result in
    let targets = c.args.targets.now.numbers.now in
    let within : number < length targets = omega (arith, AllZip-length _ design.models targets c.args.targets.now.are) in
    let at : slice_get design.models number ≡ Some model =
    ap (λ (models : List Model). slice_get models number) (sym c.models.ensures)
    ∙ at_place c.models.result.now number model (omega (arith, c.requires.within, ap (λ (models : List Model). length models) c.models.ensures)) c.index-models-model.is in
    let row = get_or targets number c.index-targets-model.result in
    let placed : slice_get targets number ≡ Some row = slice_get-get_or targets number c.index-targets-model.result within in
    let found = AllZip-at _ design.models targets number model c.args.targets.now.are at in
    let same : found.0 ≡ row = same_Some found.0 row (sym found.1 ∙ placed) in
    subst (λ (items : List Item). AreModelNumbers design (placings items) c.as_slice-placed.result.now) (sym c.items.ensures)
    (subst (AreModelNumbers design (placings model.items)) (same ∙ sym c.as_slice-placed.ensures) found.2)

pub returns : goal.returns
returns c =
    let design = c.args.targets.now.design.now in
    let number = c.args.model in
    let model = c.index-models-model.result in
    let at : slice_get design.models number ≡ Some model =
    ap (λ (models : List Model). slice_get models number) (sym c.models.ensures)
    ∙ at_place c.models.result.now number model (omega (arith, c.requires.within, ap (λ (models : List Model). length models) c.models.ensures)) c.index-models-model.is in
    let gathered : c.add_items.new.self ≡ with_item_claims design 0 0 model.items (ports_only model) =
    c.in_ok-add_items.ensures ∙ ap₂ (λ (items : List Item) (claims : ModelClaims). with_item_claims design 0 0 items claims) c.items.ensures c.in_ok-claims.ensures in
    subst (λ (found : Option Model). AreClaims design found c.add_items.new.self) (sym at)
    (subst (λ (claims : ModelClaims). AreClaims design (Some model) claims) (sym gathered)
    (record { names = gathered_names design model; firsts = gathered_firsts design model; again = gathered_again design model }))
