use Rattle.std.proofs.Common.{◌≡◌, ◌∙◌, ap, ℕ, drop, arith}
use Rattle.vw_ready.specs.Pairs.{first_pair, pair_in}
use Rattle.vw_ready.proofs.FirstPairs.{pair_put}
use Rattle.vw_ready.proofs.pairs.PairTable.of.Goals as goal

-- the pair that is put in comes before those that are there
pub loop-place-preserved : goal.loop-place-preserved
loop-place-preserved c = λ one other. pair_put c.args.pairs.now c.loop-place.place c.loop-place-test.true c.loop-place.auto.place one other (pair_in c.loop-place.places one other) (pair_in c.insert.new.self one other) (c.loop-place.invariant one other) (c.in_ok-insert.ensures.updates.0 (one, other))

-- at the front all pairs are in
pub returns : goal.returns
returns c = λ one other.
    let none : c.loop-place.place ≡ 0 = omega arith in
    c.loop-place.invariant one other ∙ ap (λ (place : ℕ). first_pair place (drop place c.args.pairs.now) one other) none
