-- the values after the gates that are left, and how many there are
use Rattle.std.proofs.Common.{◌≡◌, drop, length}
use Rattle.vw_sim.specs.Steps.Tables.{with_steps}
use Rattle.vw_sim.proofs.kept.run_all.Given as goal

abbrev pub invariant-loop-step : goal.invariant-loop-step
invariant-loop-step g l = record { left : with_steps g.row.N (drop l.step-index l.steps) l.values ≡ with_steps g.row.N l.steps l.initial.values; size : length l.values ≡ length l.initial.values }
