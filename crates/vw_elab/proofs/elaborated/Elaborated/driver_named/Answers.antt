use Rattle.std.proofs.Common.{◌≡◌, Some, slice_get, ◌∙◌, subst}
use Rattle.vw_design.specs.declared.design.Design.{Design}
use Rattle.vw_design.specs.Drivers.{driver}
use Rattle.vw_design.specs.Paths.{Path}
use Rattle.vw_design.specs.Preorder.{instances}
use Rattle.vw_elab.specs.Numbers.{driver_of}
use Rattle.vw_elab.proofs.ReadTables.{driver_found}
use Rattle.vw_elab.proofs.elaborated.Elaborated.driver_named.Goals as goal

-- by the first claim on the name
pub returns : goal.returns
returns c =
    let inside = c.self.inside in
    let is = c.self.invariant in
    let is_source = c.source-source.ensures inside.design is.accepted.models is.parts.tables is.parts.drivers in
    subst (λ (design : Design). (path : Path) → slice_get (instances design) c.args.instance ≡ Some path → c.driver_by.result ≡ driver_of design (driver design path c.args.name.now)) c.self.view_is
    (λ path listed. c.driver_by.ensures ∙ driver_found inside.design inside.parts.tables inside.columns is.columns c.args.instance c.claim_number-claim.result c.source-source.result is_source path c.args.name.now listed c.claim_number-claim.ensures)
