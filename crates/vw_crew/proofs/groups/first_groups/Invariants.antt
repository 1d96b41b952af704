use Rattle.std.proofs.Common.{◌≡◌, ℕ, length, slice_get, Some}
use Rattle.vw_crew.specs.Groups.{IsFirstGroup, SeenGroup}
use Rattle.vw_crew.proofs.groups.first_groups.Given as goal

abbrev pub invariant-loop-number : goal.invariant-loop-number
invariant-loop-number g l = record {
  count : length l.groups.items ≡ l.number;
  each : (number : ℕ) (group : SeenGroup) → slice_get l.groups.items number ≡ Some group → IsFirstGroup l.fn.job l.fn.count number group;
}
