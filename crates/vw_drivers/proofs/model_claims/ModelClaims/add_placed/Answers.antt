use Rattle.std.proofs.Common.{List, Option, ℕ, sym, ◌∙◌, ap}
use Rattle.vw_drivers.specs.Firsts.{First}
use Rattle.vw_drivers.specs.Steps.GatheredClaims.{model_outputs_at, binds_made, with_first_claims}
use Rattle.vw_drivers.proofs.Targets.{none_made}
use Rattle.vw_drivers.proofs.model_claims.ModelClaims.add_placed.Goals as goal

pub returns-in-None : goal.returns-in-None
returns-in-None c =
    let made = λ (target : Option ℕ). binds_made (model_outputs_at c.args.outputs.now target) c.args.place 0 c.args.binds.now in
    ap (λ (more : List First). with_first_claims c.args.item more c.args.self.now) (sym (ap made c.in-None.is ∙ none_made c.args.place 0 c.args.binds.now))
