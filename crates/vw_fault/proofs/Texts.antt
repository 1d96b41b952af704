-- Open faults, whose nets have names, and how many there are.
use Rattle.std.proofs.Common.{subst, ◌≡◌, ◌<◌, ◌≤◌, ◌+◌, ◌*◌, not, ℕ, zero, suc, Bool, true, false, List, [], ◌∷◌, length, filter, if◌then◌else◌, All, sym, refl, arith}
use Rattle.std.proofs.lemmas.List.{length-append}
use Rattle.std.proofs.lemmas.List.Elements.{All-filter}
use Rattle.vw_net.specs.declared.flat.Flat.{Flat}
use Rattle.vw_net.specs.Gathered.{gather}
use Rattle.vw_fault.specs.declared.open.Open.{Open}
use Rattle.vw_fault.specs.Stuck.{is_detected, net_faults, open_faults}
use Rattle.vw_fault.proofs.Rounds.{faults_within}

-- open faults are of nets that there are
open_within : (flat : Flat) (start : List Bool) (rows : List (List Bool))
    → All (λ fault. fault.net < flat.inputs + length flat.cells) (open_faults flat start rows)
open_within flat start rows =
    let nets = flat.inputs + length flat.cells in
    All-filter (λ (fault : Open). not (is_detected flat start rows fault)) (λ (fault : Open). fault.net < nets) (gather net_faults nets) (faults_within nets)

pub fewer : (test : Open → Bool) (faults : List Open) → length (filter test faults) ≤ length faults
fewer test [] = omega arith
fewer test (fault ∷ faults) = by (test fault) (fewer test faults) where
  by : (passes : Bool) → length (filter test faults) ≤ length faults
      → length (if passes then fault ∷ filter test faults else filter test faults) ≤ suc (length faults)
  by true few = omega (arith, few)
  by false few = omega (arith, few)

pub two_each : (nets : ℕ) → length (gather net_faults nets) ≡ 2 * nets
two_each zero = refl
two_each (suc nets) = omega (arith, two_each nets, length-append (gather net_faults nets) (net_faults nets))

-- and there are at most two for each net
pub open_few : (flat : Flat) (start : List Bool) (rows : List (List Bool)) → length (open_faults flat start rows) ≤ 2 * (flat.inputs + length flat.cells)
open_few flat start rows =
    let nets = flat.inputs + length flat.cells in
    omega (arith, fewer (λ (fault : Open). not (is_detected flat start rows fault)) (gather net_faults nets), two_each nets)

-- where there is a name for each net, they have theirs
pub open_named : (flat : Flat) (start : List Bool) (rows : List (List Bool)) (count : ℕ) (left : List Open)
    → count ≡ flat.inputs + length flat.cells → left ≡ open_faults flat start rows → All (λ fault. fault.net < count) left
open_named flat start rows count left is are =
    subst (λ (list : List Open). All (λ (fault : Open). fault.net < count) list) (sym are) (subst (λ (nets : ℕ). All (λ (fault : Open). fault.net < nets) (open_faults flat start rows)) (sym is) (open_within flat start rows))
