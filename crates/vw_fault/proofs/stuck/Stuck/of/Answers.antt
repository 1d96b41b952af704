use Rattle.std.proofs.Common.{◌<◌, ◌∙◌, false, arith}
use Rattle.std.proofs.lemmas.Option.{slice_get-get_or, slice_get_within}
use Rattle.vw_fault.proofs.Masks.{plain_further, put_further}
use Rattle.vw_fault.proofs.stuck.Stuck.of.Goals as goal

-- one fault more
pub loop-lane-preserved : goal.loop-lane-preserved
loop-lane-preserved c =
    let old = c.loop-lane.invariant in
    let faults = c.args.faults.now in
    let place = c.loop-lane.lane in
    let low : place < 64 = omega (arith, c.loop-lane-test.true, c.requires.few) in
    let here = slice_get-get_or faults place (record { net = 0; bit = false }) c.loop-lane-test.true in
    record {
      kept = c.put.ensures.kept ∙ old.kept;
      forced = c.put.ensures.forced ∙ old.forced;
      put = put_further c.loop-lane.stuck c.put.new.self faults place _ here c.put.ensures.found c.requires.few old.plain low old.put;
      plain = plain_further c.loop-lane.stuck c.put.new.self faults place _ here c.put.ensures.found c.requires.few old.plain;
    }

-- all of them
pub returns-clause-found : goal.returns-clause-found
returns-clause-found c = λ lane fault is. c.loop-lane.invariant.put lane fault (omega (arith, slice_get_within c.args.faults.now lane fault is, c.loop-lane-test.false)) is
