use Rattle.std.proofs.Common.{◌≡◌, ◌<◌, ◌≤◌, ℕ, List, [], Some, length, map, slice_get, get_or, option_map, refl, sym, ◌∙◌, ap, arith}
use Rattle.std.proofs.lemmas.List.{length-map, take_all}
use Rattle.std.proofs.lemmas.Option.{slice_get-map, slice_get_read}
use Rattle.vw_design.specs.declared.design.Design.{Design}
use Rattle.vw_design.specs.declared.model.Model.{Model}
use Rattle.vw_design.specs.Paths.{Word, Net, model_at, model_outputs}
use Rattle.vw_design.specs.NetReads.{net_at, root_outputs}
use Rattle.vw_design.specs.Flattened.{number_of}
use Rattle.vw_flat.specs.Steps.Numbers.{net_count}
use Rattle.vw_flat.proofs.LongerLists.{maps_more, all_more}
use Rattle.vw_flat.proofs.netlist.output_numbers.Goals.{After-outputs-names}
use Rattle.vw_flat.proofs.netlist.output_numbers.Goals as goal

-- the names are those of the outputs of the root
names_are : (c : After-outputs-names) → c.outputs-names.result.now ≡ model_outputs (model_at c.args.elaborated.now [])
names_are c =
    let design = c.args.elaborated.now in
    let root : slice_get design.models 0 ≡ Some c.index-models-0.result =
    slice_get_read design.models (length design.models) 0 c.index-models-0.result refl design.some
    (c.index-models-0.is ∙ ap (λ (models : List Model). get_or models 0 c.index-models-0.result) (c.models.ensures ∙ ap (λ (d : Design). d.models) c.design.ensures)) in
    c.outputs-names.ensures ∙ ap model_outputs (sym root)

-- the name at a place is an output of the root
pub number_output-requires : goal.number_output-requires
number_output-requires c =
    let design = c.args.elaborated.now in
    let name = c.index-names-place.result in
    let place = c.loop-place.place in
    let shown = c.outputs-names.result.now in
    let names = names_are (goal.at.number_output-requires c).After-outputs-names in
    slice_get-map (net_at []) (model_outputs (model_at design [])) place
    ∙ ap (option_map (net_at [])) (ap (λ (list : List Word). slice_get list place) (sym names) ∙ slice_get_read shown (length shown) place name refl c.loop-place-test.true c.index-names-place.is)

-- one number more
pub loop-place-preserved : goal.loop-place-preserved
loop-place-preserved c =
    let design = c.args.elaborated.now in
    let name = c.index-names-place.result in
    let place = c.loop-place.place in
    let listed : slice_get c.outputs-names.result.now place ≡ Some name =
    slice_get_read c.outputs-names.result.now (length c.outputs-names.result.now) place name refl c.loop-place-test.true c.index-names-place.is in
    let names = names_are (goal.at.loop-place-preserved c).After-outputs-names in
    let at : slice_get (root_outputs design) place ≡ Some (net_at [] name) =
    slice_get-map (net_at []) (model_outputs (model_at design [])) place ∙ ap (option_map (net_at [])) (ap (λ (list : List Word). slice_get list place) (sym names) ∙ listed) in
    record {
      are =
          maps_more (λ (n : Net). number_of design n.path n.name) (λ (n : ℕ). Some n) (root_outputs design) c.loop-place.outputs.items c.push.new.self.items place (net_at [] name) c.number_output.result at
          c.number_output.ensures.number c.loop-place.invariant.are c.in_ok-push.ensures.items;
      fit = all_more (λ (n : ℕ). n < net_count design) c.loop-place.outputs.items c.push.new.self.items c.number_output.result c.loop-place.invariant.fit c.number_output.ensures.fits c.in_ok-push.ensures.items;
    }

pub returns : goal.returns
returns c =
    let design = c.args.elaborated.now in
    let outputs = root_outputs design in
    let place = c.loop-place.place in
    let names = names_are (goal.at.returns c).After-outputs-names in
    let past : length outputs ≤ place =
    omega (arith, length-map (model_outputs (model_at design [])) (net_at []), ap (λ (list : List Word). length list) names, c.loop-place-test.false) in
    record {
      are = ap (map (λ (net : Net). number_of design net.path net.name)) (sym (take_all place outputs past)) ∙ c.loop-place.invariant.are;
      fit = c.loop-place.invariant.fit;
    }
