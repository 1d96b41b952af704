-- the rest decides
use Rattle.std.proofs.Common.{◌≡◌, nat_le, drop}
use Rattle.std.specs.List.{list_all}
use Rattle.vw_plan_tests.proofs.boards.may_be_chips.Given as goal

abbrev pub invariant-loop-chip : goal.invariant-loop-chip
invariant-loop-chip l = list_all (λ chip. nat_le 1 chip) (drop l.chip-index l.chips) ≡ list_all (λ chip. nat_le 1 chip) l.chips
