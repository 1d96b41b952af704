-- Faults of a share: they are some of all faults, and those that are left are some of the share.
use Rattle.std.proofs.Common.{◌<◌, ◌+◌, ◌-◌, ℕ, Bool, List, length, drop, not, All}
use Rattle.std.proofs.lemmas.List.Elements.{All-drop, All-filter, All-take}
use Rattle.vw_net.specs.declared.flat.Flat.{Flat}
use Rattle.vw_net.specs.Gathered.{gather}
use Rattle.vw_fault.specs.declared.open.Open.{Open}
use Rattle.vw_fault.specs.Shares.{open_shared, share_end, share_of, shared_faults}
use Rattle.vw_fault.specs.Stuck.{is_detected, net_faults}
use Rattle.vw_fault.proofs.Rounds.{faults_within}

-- what holds of all items holds of those of a share
pub All-share_of : {X : Type 0} (P : X → Type 0) (number shares : ℕ) (items : List X) → All P items → All P (share_of number shares items)
All-share_of P number shares items all =
    All-take P (share_end shares (length items) number - share_end shares (length items) (number - 1)) (drop (share_end shares (length items) (number - 1)) items)
    (All-drop P (share_end shares (length items) (number - 1)) items all)

-- the faults of a share are of nets that there are
pub shared_within : (number shares : ℕ) (flat : Flat) → All (λ fault. fault.net < flat.inputs + length flat.cells) (shared_faults number shares flat)
shared_within number shares flat =
    let nets = flat.inputs + length flat.cells in
    All-share_of (λ (fault : Open). fault.net < nets) number shares (gather net_faults nets) (faults_within nets)

-- and so are those that rows don't reveal
pub open_shared_within : (number shares : ℕ) (flat : Flat) (start : List Bool) (rows : List (List Bool))
    → All (λ fault. fault.net < flat.inputs + length flat.cells) (open_shared number shares flat start rows)
open_shared_within number shares flat start rows =
    All-filter (λ (fault : Open). not (is_detected flat start rows fault)) (λ (fault : Open). fault.net < flat.inputs + length flat.cells) (shared_faults number shares flat) (shared_within number shares flat)
