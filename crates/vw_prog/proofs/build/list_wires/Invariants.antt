-- the entries of the wires so far, and those of the rest
use Rattle.std.proofs.Common.{◌≡◌, ◌++◌, drop}
use Rattle.vw_prog.specs.Timetable.{wire_entries}
use Rattle.vw_prog.proofs.build.list_wires.Given as goal

abbrev pub invariant-loop-wire : goal.invariant-loop-wire
invariant-loop-wire l = l.entries.items ++ wire_entries l.links (drop l.wire-index l.wires) ≡ l.fn.entries.items ++ wire_entries l.links l.wires
