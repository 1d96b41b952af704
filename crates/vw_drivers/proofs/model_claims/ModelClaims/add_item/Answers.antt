use Rattle.std.proofs.Common.{◌≡◌, List, ℕ, suc, sym, ◌∙◌, ap, ap₂, subst, arith}
use Rattle.std.specs.Result.{OnOk}
use Rattle.vw_design.specs.declared.item.Bind.{Bind}
use Rattle.vw_design.specs.declared.item.Item.{Item}
use Rattle.vw_design.specs.Paths.{model_named, model_outputs}
use Rattle.vw_design.specs.ModelNumbers.{IsNumberOfModel}
use Rattle.vw_drivers.specs.Firsts.{First}
use Rattle.vw_drivers.specs.Steps.GatheredClaims.{model_outputs_at, binds_made, item_made, with_first_claims, IsModelNumber}
use Rattle.vw_drivers.proofs.Targets.{target_within, target_outputs, made_same}
use Rattle.vw_drivers.proofs.model_claims.ModelClaims.add_item.Goals as goal

pub add_placed-requires : goal.add_placed-requires
add_placed-requires c =
    let design = c.args.design.now in
    let target : IsNumberOfModel design c.in-Sub.model c.args.target = subst (λ (item : Item). IsModelNumber design item c.args.target) c.in-Sub.is c.requires.target in
    target_within design c.args.outputs.now c.requires.outputs c.in-Sub.model c.args.target target

pub returns-in_ok-place-in-Sub : goal.returns-in_ok-place-in-Sub
returns-in_ok-place-in-Sub c =
    let design = c.args.design.now in
    let model = c.in-Sub.model in
    let target : IsNumberOfModel design model c.args.target = subst (λ (item : Item). IsModelNumber design item c.args.target) c.in-Sub.is c.requires.target in
    let place : c.in_ok-place-in-Sub.place ≡ suc c.args.before = omega (arith, c.in_ok-place-in-Sub.ensures.same) in
    let made : binds_made (model_outputs_at c.args.outputs.now c.args.target) c.in_ok-place-in-Sub.place 0 c.as_slice.result.now ≡ item_made design c.args.number c.args.before c.args.item.now =
    ap₂ (λ (n : ℕ) (binds : List Bind). binds_made (model_outputs_at c.args.outputs.now c.args.target) n 0 binds) place c.as_slice.ensures
    ∙ made_same (model_outputs_at c.args.outputs.now c.args.target) (model_outputs (model_named design.models model))
    (target_outputs design c.args.outputs.now c.requires.outputs model c.args.target target) (suc c.args.before) 0 c.in-Sub.binds
    ∙ ap (item_made design c.args.number c.args.before) (sym c.in-Sub.is) in
    subst (λ (more : List First). OnOk c.add_placed.result (c.add_placed.new.self ≡ with_first_claims c.args.number more c.args.self.now)) made c.add_placed.ensures
