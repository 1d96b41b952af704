use Rattle.std.proofs.Common.{◌∙◌, ◌≡◌, List, Option, find, ap, ap₂, sym}
use Rattle.std.specs.Option.{option_or}
use Rattle.vw_design.specs.Paths.{Word}
use Rattle.vw_drivers.specs.Firsts.{First, number_named}
use Rattle.vw_drivers.specs.Tables.{root_firsts}
use Rattle.vw_net_faults.specs.Steps.Ports.{is_found_number}
use Rattle.vw_net_faults.proofs.ClockFlags.{inputs_first}
use Rattle.vw_net_faults.proofs.nets.Nets.port_named.Goals as goal

pub returns-in-Some : goal.returns-in-Some
returns-in-Some c =
    let design = c.args.self.now.design.now in
    let firsts = root_firsts c.args.self.now.tables.now in
    let test = λ (name : Word). is_found_number (number_named firsts name) c.args.number in
    let root = c.root-root.result.now in
    let found = c.in-Some.ensures ∙ ap₂ (λ (list : List First) (names : List Word). find (λ (name : Word). is_found_number (number_named list name) c.args.number) names) c.root_claims-claims.ensures c.inputs.ensures in
    sym (inputs_first design root c.root-root.ensures test ∙ ap (λ (o : Option Word). option_or o (find test root.clocks)) (sym found))

pub returns-in-None : goal.returns-in-None
returns-in-None c =
    let design = c.args.self.now.design.now in
    let firsts = root_firsts c.args.self.now.tables.now in
    let test = λ (name : Word). is_found_number (number_named firsts name) c.args.number in
    let root = c.root-root.result.now in
    let same = λ (names wanted : List Word) (is : names ≡ wanted).
    ap₂ (λ (list : List First) (ns : List Word). find (λ (name : Word). is_found_number (number_named list name) c.args.number) ns) c.root_claims-claims.ensures is in
    let none = c.in-None.ensures ∙ same c.inputs.result.now root.inputs c.inputs.ensures in
    c.name_numbered-in-None.ensures ∙ same c.clocks.result.now root.clocks c.clocks.ensures
    ∙ sym (inputs_first design root c.root-root.ensures test ∙ ap (λ (o : Option Word). option_or o (find test root.clocks)) (sym none))
