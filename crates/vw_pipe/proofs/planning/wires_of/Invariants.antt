-- the wires so far, and those of the rest
use Rattle.std.proofs.Common.{◌≡◌, ◌+◌, ◌++◌, drop, length}
use Rattle.vw_pipe.specs.Steps.Leads.{wires_of}
use Rattle.vw_pipe.proofs.planning.wires_of.Given as goal

abbrev pub invariant-loop-sent : goal.invariant-loop-sent
invariant-loop-sent l = record {
  count : length l.wires.items + length l.sent-iterator.rest.items ≡ length l.routes;
  done : l.wires.items ++ wires_of (drop (length l.wires.items) l.routes) l.sent-iterator.rest.items ≡ wires_of l.routes l.fn.hops.items;
}
