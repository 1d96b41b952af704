-- the turns so far, and those of the rest
use Rattle.std.proofs.Common.{◌≡◌, ◌≤◌, ◌+◌, drop}
use Rattle.vw_prog.specs.Unfolded.{turns_of}
use Rattle.vw_prog.proofs.unfolding.turns_of.Given as goal

abbrev pub invariant-loop-one : goal.invariant-loop-one
invariant-loop-one l = record { made : l.turns + turns_of l.place (drop l.one-index l.ops) ≡ turns_of l.place l.ops; few : l.turns ≤ l.one-index }
