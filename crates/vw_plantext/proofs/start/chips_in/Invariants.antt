-- the chips so far
use Rattle.std.proofs.Common.{◌≡◌, ◌<◌, ◌^◌, take, All}
use Rattle.vw_plantext.proofs.start.chips_in.Given as goal

abbrev pub invariant-loop-number : goal.invariant-loop-number
invariant-loop-number l = (l.chips.items ≡ take l.number-index l.numbers) × All (λ chip. chip < 2 ^ 32) l.chips.items
