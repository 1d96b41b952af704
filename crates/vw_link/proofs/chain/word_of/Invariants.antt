use Rattle.std.proofs.Common.{◌≡◌, length, slice_get}
use Rattle.vw_link.specs.Chains.{IsNear, lifts_of, lift_words}
use Rattle.vw_link.proofs.chain.word_of.Given as goal

abbrev pub invariant-loop-rest : goal.invariant-loop-rest
invariant-loop-rest l = IsNear l.link l.number (length (lift_words l.link (lifts_of l.rest))) (lifts_of l.from) l.counted × (slice_get (lift_words l.link (lifts_of l.from)) l.number ≡ slice_get (lift_words l.link (lifts_of l.chain)) l.number)
