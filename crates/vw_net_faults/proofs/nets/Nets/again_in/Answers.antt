use Rattle.std.proofs.Common.{◌≡◌, ℕ, Some, slice_get, refl, sym, ◌∙◌}
use Rattle.vw_instances.specs.declared.tables.ListedInstance.{ListedInstance}
use Rattle.vw_drivers.specs.declared.model_claims.ModelClaims.{ModelClaims}
use Rattle.vw_drivers.specs.declared.tables.Tables.{Tables}
use Rattle.vw_net_faults.specs.Steps.SecondClaims.{again_by}
use Rattle.vw_net_faults.proofs.CellItems.{listed_at}
use Rattle.vw_net_faults.proofs.nets.Nets.again_in.Goals as goal

-- look-up by look-up
again_found : (tables : Tables) (instance : ℕ) (entry : ListedInstance) (claims : ModelClaims)
    → slice_get tables.instances instance ≡ Some entry → slice_get tables.claims entry.model ≡ Some claims
    → again_by tables instance ≡ claims.again
again_found tables instance entry claims first second = rw (first, second) refl

pub returns : goal.returns
returns c =
    let entry = c.in_ok-entry.ensures.lookup in
    let claims = c.in_ok-claims.ensures.lookup in
    c.again.ensures
    ∙ sym (again_found c.args.self.now.tables.now c.args.instance c.in_ok-entry.entry.now c.in_ok-claims.claims.now (listed_at c.instances.ensures entry.3.0 entry.1) (listed_at c.claims.ensures claims.3.0 claims.1))
