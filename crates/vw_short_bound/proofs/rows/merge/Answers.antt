use Rattle.std.proofs.Common.{◌≡◌, ◌<◌, ◌∙◌, inr, ⊎_elim, bit_or, length, min, refl, slice_index, rules, arith}
use Rattle.std.proofs.lemmas.List.{length-set}
use Rattle.vw_short_bound.proofs.BitRows.{or_has}
use Rattle.vw_short_bound.proofs.rows.merge.Goals as goal

pub loop-index-preserved : goal.loop-index-preserved
loop-index-preserved c =
    let row = c.loop-index.row in
    let others = c.args.other.now in
    let index = c.loop-index.index in
    let words : c.min-words.result ≡ min (length c.args.row.now) (length others) = search rules in
    let within : index < length row = omega (arith, words, c.loop-index-test.true, c.loop-index.invariant.long) in
    record {
      long = length-set row index (bit_or (slice_index row index) (slice_index others index)) ∙ c.loop-index.invariant.long;
      bits = λ at is. ⊎_elim (λ own. c.loop-index.invariant.bits at own) (λ other. inr other) (or_has row index (slice_index others index) others within refl at is);
    }
