-- the lists so far are empty
use Rattle.std.proofs.Common.{◌≡◌, ℕ, [], get_or, length}
use Rattle.vw_prog.specs.Coding.{owned_of}
use Rattle.vw_prog.proofs.owners.no_latches.Given as goal

abbrev pub invariant-loop : goal.invariant-loop
invariant-loop l = record {
  count : length (owned_of l.lists.items) ≡ l.counter;
  each : (node : ℕ) → get_or (owned_of l.lists.items) node [] ≡ [];
}
