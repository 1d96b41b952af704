-- what is written, and the places that are left
use Rattle.std.proofs.Common.{◌≡◌, ◌++◌, ℕ, length, flat_map, reverse}
use Rattle.std.specs.Prelude.{codes, decimal}
use Rattle.vw_net_faults.proofs.print.push_places.Given as goal

abbrev pub invariant-loop-place : goal.invariant-loop-place
invariant-loop-place l = l.text.items ++ flat_map (λ (place : ℕ). decimal place ++ codes "/") (reverse l.places.items) ≡ l.initial.text.items ++ flat_map (λ (place : ℕ). decimal place ++ codes "/") (reverse l.initial.places.items)

abbrev pub decreases-loop-place : goal.decreases-loop-place
decreases-loop-place l = length l.places.items
