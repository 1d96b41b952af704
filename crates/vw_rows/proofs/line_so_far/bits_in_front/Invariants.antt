-- bits so far
use Rattle.std.proofs.Common.{◌≡◌, ◌==◌, ◌||◌, true, take}
use Rattle.std.specs.List.{list_all}
use Rattle.vw_rows.proofs.line_so_far.bits_in_front.Given as goal

abbrev pub invariant-loop-at : goal.invariant-loop-at
invariant-loop-at l = list_all (λ b. b == 48 || b == 49) (take l.at l.piece) ≡ true
