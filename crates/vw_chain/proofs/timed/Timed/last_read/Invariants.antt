-- the last so far is one of them, and none so far is later
use Rattle.std.proofs.Common.{◌≤◌, ◌<◌, ℕ, get_or, IsTrue}
use Rattle.vw_net.specs.Order.{is_among}
use Rattle.vw_plan.specs.Lead.{lead}
use Rattle.vw_chain.specs.Timing.{IsNet, planned_of}
use Rattle.vw_chain.proofs.timed.Timed.last_read.Given as goal

abbrev pub invariant-loop-net : goal.invariant-loop-net
invariant-loop-net l = record {
  among : IsTrue (is_among l.nets l.last);
  net : IsNet l.self l.last;
  past : (place : ℕ) → place < l.net-index → lead (planned_of l.self) l.node (get_or l.nets place 0) ≤ lead (planned_of l.self) l.node l.last;
}
