-- Clashes, hop by hop.
use Rattle.std.specs.Prelude.{◌≡◌, ℕ, ◌++◌, List, [], ◌∷◌, Option, None, option_map}
use Rattle.std.specs.Option.{option_or}
use Rattle.std.specs.HashMap as hash
use Rattle.vw_plan.specs.declared.wire.Hop.{Hop}
use Rattle.vw_check.specs.declared.fault.PlanFault.{PlanFault}
use Rattle.vw_check.specs.declared.fault.PlanFault.TheVariants.{PinClash}
use Rattle.vw_check.specs.HopFaults.{PlacedHop, first_sharing, hops_placed}
use Rattle.vw_check.specs.Steps.Tables.{HasFirstHops, PinKey, user_in}

-- the first clash of some hops with each other or with those before them
abbrev pub clash_behind : List PlacedHop → List PlacedHop → Option PlanFault
clash_behind before [] = None
clash_behind before (later ∷ hops) =
    option_or (option_map (λ earlier. PinClash earlier.wire earlier.number later.wire later.number) (first_sharing before later.hop))
    (clash_behind (before ++ later ∷ []) hops)

-- a hop has taken its pin: the one that had it before is found, and where there is none, the pins of the hops so far are
-- known with this one
abbrev pub GivesPin : {S : Type 0} → ℕ → ℕ → Hop → hash.HashMap PinKey (ℕ × ℕ) S → hash.HashMap PinKey (ℕ × ℕ) S → Option (ℕ × ℕ) → Type 0
GivesPin wire number hop before after earlier = (earlier ≡ user_in before hop)
    × (earlier ≡ None → (placed : List PlacedHop) → HasFirstHops placed before → HasFirstHops (placed ++ record { wire = wire; number = number; hop = hop } ∷ []) after)

-- what is found in the hops of a wire, where a table has the pins of the hops before it; where nothing is found, it has those
-- of the wire's hops too afterwards
abbrev pub IsClashIn : {S : Type 0} → ℕ → List Hop → hash.HashMap PinKey (ℕ × ℕ) S → hash.HashMap PinKey (ℕ × ℕ) S → Option PlanFault → Type 0
IsClashIn wire hops before after found = (placed : List PlacedHop) → HasFirstHops placed before
    → (found ≡ clash_behind placed (hops_placed wire 0 hops)) × (found ≡ None → HasFirstHops (placed ++ hops_placed wire 0 hops) after)
