use Rattle.std.proofs.Common.{◌≡◌, ◌∷◌, Some, slice_get, subst}
use Rattle.vw_design.specs.declared.design.Design.{Design}
use Rattle.vw_design.specs.Paths.{Path}
use Rattle.vw_design.specs.PathValue.{place_of_path}
use Rattle.vw_design.specs.Preorder.{instances}
use Rattle.vw_elab.proofs.elaborated.Elaborated.child.Goals as goal

-- by the tables of the design
pub returns : goal.returns
returns c =
    let is = c.self.invariant in
    subst (λ (design : Design). (path : Path) → slice_get (instances design) c.args.instance ≡ Some path → c.child.result ≡ place_of_path (instances design) (c.args.place ∷ path)) c.self.view_is
    (c.child.ensures c.self.inside.design is.accepted.models is.parts.tables)
