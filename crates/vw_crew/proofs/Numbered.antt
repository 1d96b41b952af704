-- Groups are numbered in their order.
use Rattle.std.proofs.Common.{◌≡◌, ◌+◌, ◌∷◌, ℕ, suc, List, [], length, slice_get, ap₂, refl, Some, arith}
use Rattle.std.specs.List.{range_with_len}
use Rattle.vw_prog.specs.declared.job.Job.{Job}
use Rattle.vw_crew.specs.Groups.{IsFirstGroup, SeenGroup, group_numbers}

from_on : (groups : List SeenGroup) (from : ℕ) → ((place : ℕ) (group : SeenGroup) → slice_get groups place ≡ Some group → group.number ≡ from + place) → group_numbers groups ≡ range_with_len from (length groups)
from_on [] from each = refl
from_on (group ∷ groups) from each = ap₂ (λ (first : ℕ) (rest : List ℕ). first ∷ rest) (omega (arith, each 0 group refl)) (from_on groups (from + 1) (λ place other is. omega (arith, each (suc place) other is)))

-- the first groups of a job are
pub are_numbered : (job : Job) (count : ℕ) (groups : List SeenGroup) → ((number : ℕ) (group : SeenGroup) → slice_get groups number ≡ Some group → IsFirstGroup job count number group) → group_numbers groups ≡ range_with_len 0 (length groups)
are_numbered job count groups each = from_on groups 0 (λ place group is. omega (arith, (each place group is).number_is))
