-- the entries of the gates so far, and those of the rest
use Rattle.std.proofs.Common.{◌≡◌, ◌++◌, drop}
use Rattle.vw_ready.specs.LeadTables.{planned_in}
use Rattle.vw_prog.specs.Timetable.{gate_entries}
use Rattle.vw_prog.proofs.build.list_gates.Given as goal

abbrev pub invariant-loop-place : goal.invariant-loop-place
invariant-loop-place l = l.entries.items ++ gate_entries (planned_in l.wired) l.place (drop l.place l.wired.ordered.now.order) ≡ l.fn.entries.items ++ gate_entries (planned_in l.wired) 0 l.wired.ordered.now.order
