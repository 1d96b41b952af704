use Rattle.std.proofs.Common.{◌<◌, ◌+◌, ◌∙◌, ℕ, length, All, ap, ap₂, subst, sym}
use Rattle.vw_net.specs.declared.flat.Flat.{Flat}
use Rattle.vw_net.specs.Gathered.{gather}
use Rattle.vw_fault.specs.declared.open.Open.{Open}
use Rattle.vw_fault.specs.Stuck.{net_faults}
use Rattle.vw_fault.proofs.Rounds.{faults_within}
use Rattle.vw_fault.proofs.passes.grade.Goals as goal

-- both faults of each net are of these nets
pub open_with_unreached-requires-clause-within : goal.open_with_unreached-requires-clause-within
open_with_unreached-requires-clause-within g c κs within =
    let flat = c.args.ordered.now.flat in
    let nets = flat.inputs + length flat.cells in
    let inputs = c.inputs.ensures ∙ ap (λ (f : Flat). f.inputs) c.flat-flat.ensures in
    let cells = ap length c.cells.ensures ∙ ap (λ (f : Flat). length f.cells) c.flat-flat.ensures in
    let count = ap₂ (λ (i k : ℕ). i + k) inputs cells in
    subst (All (λ (fault : Open). fault.net < nets)) (sym (c.deref.ensures.value ∙ c.in_ok-faults.ensures ∙ ap (gather net_faults) count)) (faults_within nets)
