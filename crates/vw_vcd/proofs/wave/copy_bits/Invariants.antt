-- the bits so far, and those that stood there
use Rattle.std.proofs.Common.{◌≡◌, length, take}
use Rattle.vw_vcd.proofs.wave.copy_bits.Given as goal

abbrev pub invariant-loop-i : goal.invariant-loop-i
invariant-loop-i l = record { size : length l.to ≡ length l.from; front : take l.i l.to ≡ take l.i l.from }
