use Rattle.std.proofs.Common.{◌<◌, List, Bool, [], get_or, length, ap, ◌∙◌, arith}
use Rattle.std.proofs.lemmas.List.{get_or-set_same, length-set}
use Rattle.vw_answer.proofs.LatchRows.{latches_put}
use Rattle.vw_answer.proofs.rows.put_latches.Goals as goal

pub loop-i-preserved : goal.loop-i-preserved
loop-i-preserved c =
    let rows = c.loop-i.latches in
    let within : c.args.clock < length rows = omega (arith, c.requires.clock, c.loop-i.invariant.count) in
    record {
      left = latches_put c.args.numbers.now c.args.bits.now c.loop-i.i _ _ c.args.clock rows c.set.new.self c.loop-i-test.true (omega (arith, c.loop-i-test.true, c.requires.bits)) within c.set.ensures ∙ c.loop-i.invariant.left;
      count = ap (λ (all : List (List Bool)). length all) c.set.ensures ∙ length-set rows c.args.clock _ ∙ c.loop-i.invariant.count;
      wide = ap (λ (all : List (List Bool)). length (get_or all c.args.clock [])) c.set.ensures ∙ ap (λ (row : List Bool). length row) (get_or-set_same rows c.args.clock _ [] within) ∙ length-set (get_or rows c.args.clock []) _ _ ∙ c.loop-i.invariant.wide;
    }
