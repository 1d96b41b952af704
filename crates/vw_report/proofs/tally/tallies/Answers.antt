use Rattle.std.proofs.Common.{◌≡◌, ◌<◌, ◌∙◌, ◌+◌, ℕ, List, length, get_or, set, ap, sym, subst, arith}
use Rattle.std.specs.Global.{Vec}
use Rattle.std.proofs.lemmas.List.{get_or_default}
use Rattle.vw_report.proofs.Tallies.{AreTalliesSoFar, count_small, counted, passed_over}
use Rattle.vw_report.proofs.tally.tallies.Goals as goal
use Rattle.vw_report.proofs.tally.tallies.Goals.{then-place-len, else-place-len}

pub overflow_add-index_mut : goal.overflow_add-index_mut
overflow_add-index_mut c =
    let numbers = c.args.numbers.items in
    let listed : c.deref-number-items.result.now ≡ numbers = c.deref-number-items.ensures.value in
    let place = c.loop-number.number-index in
    let one = get_or c.deref-number-items.result.now place 0 in
    let within : place < length numbers = rw listed at c.loop-number-test.true in
    let is : one ≡ get_or numbers place one = ap (λ (list : List ℕ). get_or list place 0) listed ∙ get_or_default numbers place 0 one within in
    let counts = c.loop-number.counts.items in
    let below : one < c.args.limit = omega (arith, c.if-place-len.true, c.len.ensures, c.loop-number.invariant.each, c.loop-number.counts.ok) in
    let small = count_small numbers c.args.limit place one counts within is c.loop-number.invariant below in
    let value : c.index_mut.result.now ≡ get_or counts one 0 = c.index_mut.ensures.value ∙ get_or_default counts one c.index_mut.result.now 0 (omega (arith, below, c.loop-number.invariant.each)) in
    omega (arith, small, value, c.args.numbers.ok, c.args.numbers.small)

pub loop-number-preserved : goal.loop-number-preserved
loop-number-preserved c =
    let numbers = c.args.numbers.items in
    let limit = c.args.limit in
    let listed : c.deref-number-items.result.now ≡ numbers = c.deref-number-items.ensures.value in
    let place = c.loop-number.number-index in
    let one = get_or c.deref-number-items.result.now place 0 in
    let within : place < length numbers = rw listed at c.loop-number-test.true in
    let is : one ≡ get_or numbers place one = ap (λ (list : List ℕ). get_or list place 0) listed ∙ get_or_default numbers place 0 one within in
    let counts = c.loop-number.counts.items in
    elim c.if-place-len.branch [
      | then-place-len w ↦ counted numbers limit place one counts within is c.loop-number.invariant c.if-place-len.counts.items (omega (arith, w.if-place-len.true, c.len.ensures, c.loop-number.invariant.each, c.loop-number.counts.ok))
          (ap (λ (vec : Vec ℕ). vec.items) w.counts-is ∙ ap (λ (value : ℕ). set counts one (value + 1)) (w.index_mut.ensures.value ∙ get_or_default counts one w.index_mut.result.now 0 (omega (arith, w.if-place-len.true, c.len.ensures, c.loop-number.counts.ok))))
      | else-place-len w ↦ subst (λ (vec : Vec ℕ). AreTalliesSoFar numbers limit (place + 1) vec.items) (sym w.counts-is) (passed_over numbers limit place one counts within is c.loop-number.invariant (omega (arith, w.if-place-len.false, c.len.ensures, c.loop-number.invariant.each, c.loop-number.counts.ok)))
    ]
