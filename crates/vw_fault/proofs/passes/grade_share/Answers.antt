use Rattle.std.proofs.Common.{◌≡◌, ◌<◌, ◌+◌, ◌∙◌, ℕ, Bool, List, length, take, filter, not, All, ap, ap₂, subst, sym}
use Rattle.std.proofs.Math.Seq.{take-length}
use Rattle.vw_net.specs.declared.flat.Flat.{Flat}
use Rattle.vw_net.specs.Gathered.{gather}
use Rattle.vw_fault.specs.declared.open.Open.{Open}
use Rattle.vw_fault.specs.Shares.{share_of, shared_faults}
use Rattle.vw_fault.specs.Stuck.{is_detected, net_faults}
use Rattle.vw_fault.proofs.Shares.{shared_within}
use Rattle.vw_fault.proofs.passes.grade_share.Goals as goal

-- the faults of a share are of nets that there are
pub open_with_unreached-requires-clause-within : goal.open_with_unreached-requires-clause-within
open_with_unreached-requires-clause-within g c κs within =
    let flat = c.args.ordered.now.flat in
    let nets = flat.inputs + length flat.cells in
    let inputs = c.inputs.ensures ∙ ap (λ (f : Flat). f.inputs) c.flat-flat.ensures in
    let cells = ap length c.cells.ensures ∙ ap (λ (f : Flat). length f.cells) c.flat-flat.ensures in
    let count = ap₂ (λ (i k : ℕ). i + k) inputs cells in
    let are : c.of-faults.result.now ≡ shared_faults c.args.share.number c.args.share.shares flat =
    c.of-faults.ensures ∙ ap (share_of c.args.share.number c.args.share.shares) (c.deref.ensures.value ∙ c.in_ok-all.ensures ∙ ap (gather net_faults) count) in
    subst (All (λ (fault : Open). fault.net < nets)) (sym are) (shared_within c.args.share.number c.args.share.shares flat)

-- all rows are run
pub returns-clause-left : goal.returns-clause-left
returns-clause-left g c =
    let flat = c.args.ordered.now.flat in
    let start = c.args.start.now in
    let inputs = c.inputs.ensures ∙ ap (λ (f : Flat). f.inputs) c.flat-flat.ensures in
    let cells = ap length c.cells.ensures ∙ ap (λ (f : Flat). length f.cells) c.flat-flat.ensures in
    let count = ap₂ (λ (i k : ℕ). i + k) inputs cells in
    let are : c.of-faults.result.now ≡ shared_faults c.args.share.number c.args.share.shares flat =
    c.of-faults.ensures ∙ ap (share_of c.args.share.number c.args.share.shares) (c.deref.ensures.value ∙ c.in_ok-all.ensures ∙ ap (gather net_faults) count) in
    let rows : take c.len.result c.args.rows.now ≡ c.args.rows.now = ap (λ (n : ℕ). take n c.args.rows.now) c.len.ensures ∙ take-length c.args.rows.now in
    c.in_ok-open_with_unreached.ensures
    ∙ ap₂ (λ (these : List (List Bool)) (faults : List Open). filter (λ (fault : Open). not (is_detected flat start these fault)) faults) rows are
