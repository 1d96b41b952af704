use Rattle.std.proofs.Common.{Bor, List, ℕ, ◌∙◌, ap}
use Rattle.vw_design.specs.Distinct.{has_name}
use Rattle.vw_design.specs.Paths.{Word}
use Rattle.vw_drivers.proofs.NameMaps.{has_listed}
use Rattle.vw_drivers.proofs.model_outputs.Outputs.has.Goals as goal

pub returns : goal.returns
returns c =
    let name = c.args.name.now in
    c.has.ensures ∙ has_listed c.self.inside.names.words.entries (λ (key : Bor (List ℕ)). key.now) name
    ∙ ap (λ (names : List Word). has_name names name) c.self.view_is
