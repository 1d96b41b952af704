-- the outlets so far, and those that are left
use Rattle.std.proofs.Common.{◌≡◌, ◌≤◌, ◌++◌, drop, None}
use Rattle.vw_emit_text.specs.Outlets.{outlets_behind}
use Rattle.vw_emit_text.proofs.outlet.in_turn.Given as goal

abbrev pub invariant-loop-place : goal.invariant-loop-place
invariant-loop-place l = (l.list.items ++ outlets_behind l.before l.number (drop l.place l.hops) ≡ outlets_behind None 0 l.hops) × (l.number ≤ l.place)
