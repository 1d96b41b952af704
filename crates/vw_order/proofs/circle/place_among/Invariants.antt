-- it isn't there so far
use Rattle.std.proofs.Common.{◌≡◌, ◌+◌, ◌==◌, drop}
use Rattle.std.specs.List.{position_or_len}
use Rattle.vw_order.proofs.circle.place_among.Given as goal

abbrev pub invariant-loop-place : goal.invariant-loop-place
invariant-loop-place l =
    l.place + position_or_len (λ other. other == l.number) (drop l.place l.numbers) ≡ position_or_len (λ other. other == l.number) l.numbers
