use Rattle.std.proofs.Common.{◌<◌, ◌∙◌, Bool, false, List, length, get_or, ap, arith}
use Rattle.std.proofs.lemmas.List.{length-set}
use Rattle.vw_fault.proofs.Lanes.{bit_further}
use Rattle.vw_fault.proofs.group.state_words.Goals as goal

-- one bit more
pub loop-place-preserved : goal.loop-place-preserved
loop-place-preserved c =
    let bits = c.args.bits.now in
    let place = c.loop-place.place in
    let words = c.loop-place.words in
    let inside : place < length bits = omega (arith, c.loop-place-test.true, ap (λ (list : List Bool). length list) c.as_slice-bits.ensures) in
    record {
      size = ap length c.set.ensures ∙ length-set words place c.spread.result ∙ c.loop-place.invariant.size;
      bits = λ lane low.
          let is = c.spread.ensures lane low ∙ ap (λ (list : List Bool). get_or list place false) c.as_slice-bits.ensures in
          bit_further lane words c.set.new.self bits place c.spread.result (omega (arith, inside, c.loop-place.invariant.size)) inside c.set.ensures is (c.loop-place.invariant.bits lane low);
    }
