use Rattle.std.proofs.Common.{arith, length-drop}
use Rattle.std.proofs.lemmas.List.{take_rest}
use Rattle.vw_outside.proofs.PiecesWritten.{appended_further}
use Rattle.vw_outside.proofs.sink.put_all.Goals as goal

pub loop-done-preserved : goal.loop-done-preserved
loop-done-preserved g c =
    let taken = rw (take_rest c.args.bytes.now c.loop-done.done) at c.in_ok-done.ensures.done in
    record {
      within = omega (arith, length-drop c.loop-done.done c.args.bytes.now, c.in_ok-done.ensures.within);
      seen = appended_further _ _ _ c.args.bytes.now c.loop-done.done c.in_ok-done.field-0 c.loop-done.invariant.seen taken;
    }
