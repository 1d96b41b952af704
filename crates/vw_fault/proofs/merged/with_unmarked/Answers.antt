use Rattle.std.proofs.Common.{◌+◌, ◌++◌, ◌||◌, ◌∙◌, not, ℕ, false, List, drop, get_or, filter, ap, sym, arith}
use Rattle.std.proofs.lemmas.List.{append-nil, drop_all, drop_more}
use Rattle.vw_fault.specs.declared.open.Open.{Open}
use Rattle.vw_fault.specs.Steps.Reaching.{is_marked}
use Rattle.vw_fault.proofs.Marks.{past_left, past_revealed, past_unmarked}
use Rattle.vw_fault.proofs.merged.with_unmarked.Goals as goal
use Rattle.vw_fault.proofs.merged.with_unmarked.Goals.{then-is_at+in_ok-push-2, else-is_at}

-- a fault of a net that isn't marked
pub loop-fault-preserved-then-not-is_marked : goal.loop-fault-preserved-then-not-is_marked
loop-fault-preserved-then-not-is_marked c =
    let keep = λ (fault : Open). is_marked c.args.marks.now fault.net in
    let faults = c.args.faults.now in
    let place = c.loop-fault.fault-index in
    let fault = get_or faults place (record { net = 0; bit = false }) in
    let rest = drop (place + 1) faults in
    let cut = drop_more faults place (record { net = 0; bit = false }) c.loop-fault-test.true in
    record {
      passed = omega (arith, c.loop-fault.invariant.passed);
      each = λ test are.
          let old = c.loop-fault.invariant.each test are in
          let now = past_unmarked keep test fault rest c.args.left.now c.loop-fault.all.items _ c.loop-fault.next
          (old.0 ∙ ap (λ (list : List Open). filter test (filter keep list)) cut)
          (ap (λ (list : List Open). c.loop-fault.all.items ++ filter (λ (one : Open). not (keep one) || test one) list) (sym cut) ∙ old.1) (sym c.is_marked.ensures ∙ c.if-not-is_marked.true) in
          (now.0, ap (λ (list : List Open). list ++ filter (λ (one : Open). not (keep one) || test one) rest) c.in_ok-push.ensures.items ∙ now.1);
    }

-- a fault of a net that is marked: it is left, or it was revealed
pub loop-fault-preserved : goal.loop-fault-preserved
loop-fault-preserved c =
    let keep = λ (fault : Open). is_marked c.args.marks.now fault.net in
    let faults = c.args.faults.now in
    let place = c.loop-fault.fault-index in
    let fault = get_or faults place (record { net = 0; bit = false }) in
    let rest = drop (place + 1) faults in
    let cut = drop_more faults place (record { net = 0; bit = false }) c.loop-fault-test.true in
    let marked = sym c.is_marked.ensures ∙ c.if-not-is_marked.false in
    elim c.if-is_at.branch [
      | then-is_at+in_ok-push-2 w ↦
          record {
            passed = omega (arith, c.loop-fault.invariant.passed, w.next-is);
            each = λ test are.
                let old = c.loop-fault.invariant.each test are in
                let here = rw w.if-is_at.true at c.is_at.ensures.yes in
                let now = past_left keep test fault rest c.args.left.now c.loop-fault.all.items _ c.loop-fault.next
                (old.0 ∙ ap (λ (list : List Open). filter test (filter keep list)) cut)
                (ap (λ (list : List Open). c.loop-fault.all.items ++ filter (λ (one : Open). not (keep one) || test one) list) (sym cut) ∙ old.1) marked here in (
                  ap (λ (at : ℕ). drop at c.args.left.now) w.next-is ∙ now.0,
                  ap (λ (list : List Open). list ++ filter (λ (one : Open). not (keep one) || test one) rest) (ap (λ v. v.items) w.all-is ∙ w.in_ok-push-2.ensures.items) ∙ now.1,
                );
          }
      | else-is_at w ↦
          record {
            passed = omega (arith, c.loop-fault.invariant.passed, w.next-is);
            each = λ test are.
                let old = c.loop-fault.invariant.each test are in
                let other = rw w.if-is_at.false at c.is_at.ensures.no in
                let now = past_revealed keep test fault rest c.args.left.now c.loop-fault.all.items _ c.loop-fault.next
                (old.0 ∙ ap (λ (list : List Open). filter test (filter keep list)) cut)
                (ap (λ (list : List Open). c.loop-fault.all.items ++ filter (λ (one : Open). not (keep one) || test one) list) (sym cut) ∙ old.1) marked other in (
                  ap (λ (at : ℕ). drop at c.args.left.now) w.next-is ∙ now.0,
                  ap (λ (list : List Open). list ++ filter (λ (one : Open). not (keep one) || test one) rest) (ap (λ v. v.items) w.all-is) ∙ now.1,
                );
          }
    ]

-- all of them
pub returns : goal.returns
returns c = λ test are.
    let listed = λ (one : Open). not (is_marked c.args.marks.now one.net) || test one in
    let end = drop_all c.loop-fault.fault-index c.args.faults.now c.loop-fault-test.false in
    sym (append-nil c.loop-fault.all.items) ∙ ap (λ (list : List Open). c.loop-fault.all.items ++ filter listed list) (sym end) ∙ (c.loop-fault.invariant.each test are).1
