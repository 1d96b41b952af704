use Rattle.std.proofs.Common.{List, ◌∙◌, ap}
use Rattle.vw_drivers.specs.Firsts.{First, number_named}
use Rattle.vw_drivers.proofs.NameMaps.{number_first}
use Rattle.vw_drivers.proofs.firsts.Firsts.number.Goals as goal

pub returns-in_err-number-clause-number : goal.returns-in_err-number-clause-number
returns-in_err-number-clause-number c =
    c.from_residual.ensures ∙ c.in_err-number.ensures.index ∙ number_first c.self.inside.claims.entries (λ key. key.items) c.args.name.now
    ∙ ap (λ (firsts : List First). number_named firsts c.args.name.now) c.self.view_is

pub returns-clause-number : goal.returns-clause-number
returns-clause-number c =
    c.in_ok-number.ensures.index ∙ number_first c.self.inside.claims.entries (λ key. key.items) c.args.name.now
    ∙ ap (λ (firsts : List First). number_named firsts c.args.name.now) c.self.view_is
