use Rattle.std.proofs.Common.{◌≡◌, ◌++◌, [], List, None, map, sym, ◌∙◌, ap, ap₂}
use Rattle.std.proofs.lemmas.List.{map-append}
use Rattle.vw_design.specs.Paths.{Word}
use Rattle.vw_drivers.specs.declared.model_claims.ModelClaims.{ModelClaims}
use Rattle.vw_drivers.specs.Firsts.{First}
use Rattle.vw_drivers.specs.Steps.GatheredClaims.{with_firsts, port_first}
use Rattle.vw_drivers.proofs.ClaimLookups.{with_firsts_append}
use Rattle.vw_drivers.proofs.model_claims.ModelClaims.of_ports.Goals as goal

pub returns : goal.returns
returns c =
    let model = c.args.model.now in
    let all : c.add_ports-2.new.self ≡ with_firsts [] (map port_first (model.inputs ++ model.clocks)) =
    c.in_ok-add_ports-2.ensures
    ∙ ap₂ (λ (firsts : List First) (names : List Word). with_firsts firsts (map port_first names))
    (c.in_ok-add_ports.ensures ∙ ap₂ (λ (firsts : List First) (names : List Word). with_firsts firsts (map port_first names)) c.new-firsts.ensures c.inputs.ensures) c.clocks.ensures
    ∙ sym (with_firsts_append [] (map port_first model.inputs) (map port_first model.clocks))
    ∙ ap (with_firsts []) (sym (map-append port_first model.inputs model.clocks)) in
    let whole : List First → ModelClaims = λ firsts. record { firsts = firsts; again = None } in
    ap whole all
