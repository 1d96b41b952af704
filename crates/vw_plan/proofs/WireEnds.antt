-- The first hop of a wire of a sound plan, its last one, and the hop before each other one.
use Rattle.std.proofs.Common.{◌≡◌, ◌<◌, ◌+◌, ◌-◌, ℕ, length, slice_get, Some, arith}
use Rattle.std.proofs.lemmas.Option.{slice_get_within}
use Rattle.vw_net.proofs.ListedLists.{stands_below}
use Rattle.vw_plan.specs.declared.wire.Hop.{Hop}
use Rattle.vw_plan.specs.declared.wire.Wire.{Wire}
use Rattle.vw_plan.specs.PlannedBoard.{PlannedBoard}
use Rattle.vw_plan.specs.Sound.{IsSound}
use Rattle.vw_plan.specs.Wiring.{BeginsWire, EndsWire, FollowsHop}
use Rattle.vw_plan.proofs.HopsOfWires.{begins, ends, goes_on, routed}

-- the first hop
pub record FirstHop (planned : PlannedBoard) (wire : Wire) : Type 0 where
  pub hop : Hop
  pub at : slice_get wire.hops 0 ≡ Some hop
  pub begins : BeginsWire planned wire hop

-- the last one, by its place
pub record LastHop (planned : PlannedBoard) (wire : Wire) : Type 0 where
  pub place : ℕ
  pub hop : Hop
  pub at : slice_get wire.hops place ≡ Some hop
  pub last : place + 1 ≡ length wire.hops
  pub ends : EndsWire planned wire hop

-- the hop before one
pub record HopBefore (planned : PlannedBoard) (wire : Wire) (place : ℕ) (next : Hop) : Type 0 where
  pub hop : Hop
  pub at : slice_get wire.hops place ≡ Some hop
  pub goes_on : FollowsHop planned hop next

module _ (planned : PlannedBoard) (sound : IsSound planned) (number : ℕ) (wire : Wire) (there : slice_get planned.plan.wires number ≡ Some wire) where
  -- there is a first one
  pub first_hop : FirstHop planned wire
  first_hop =
      let found = stands_below wire.hops 0 (routed planned sound number wire there).some in
      record { hop = found.0; at = found.1; begins = begins planned sound number wire there found.0 found.1 }

  -- there is a last one
  pub last_hop : LastHop planned wire
  last_hop =
      let some : 0 < length wire.hops = (routed planned sound number wire there).some in
      let found = stands_below wire.hops (length wire.hops - 1) (omega (arith, some)) in
      let last : length wire.hops - 1 + 1 ≡ length wire.hops = omega (arith, some) in
      record { place = length wire.hops - 1; hop = found.0; at = found.1; last = last; ends = ends planned sound number wire there (length wire.hops - 1) found.0 found.1 last }

  -- there is one before each that isn't the first
  pub hop_before : (place : ℕ) (next : Hop) → slice_get wire.hops (place + 1) ≡ Some next → HopBefore planned wire place next
  hop_before place next after =
      let inside = slice_get_within wire.hops (place + 1) next after in
      let found = stands_below wire.hops place (omega (arith, inside)) in
      record { hop = found.0; at = found.1; goes_on = goes_on planned sound number wire there place found.0 next found.1 after }
