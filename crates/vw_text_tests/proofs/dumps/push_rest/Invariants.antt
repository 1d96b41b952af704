-- each clock so far was seen, and the signals are as many as at first
use Rattle.std.proofs.Common.{◌≡◌, length}
use Rattle.vw_text_tests.proofs.dumps.push_rest.Given as goal

abbrev pub invariant-loop : goal.invariant-loop
invariant-loop l = record { seen : l.wave.clock ≡ l.counter; signals : length l.row ≡ l.wave.signals }
