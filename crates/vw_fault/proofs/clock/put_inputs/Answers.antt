use Rattle.std.proofs.Common.{◌<◌, ◌∙◌, length, ap, arith}
use Rattle.std.proofs.lemmas.List.{length-set}
use Rattle.vw_fault.specs.Steps.Lanes.{find_in}
use Rattle.vw_fault.proofs.Lanes.{input_further}
use Rattle.vw_fault.proofs.clock.put_inputs.Goals as goal

-- one input more
pub loop-net-preserved : goal.loop-net-preserved
loop-net-preserved c =
    let place = c.loop-net.net in
    let within : place < length c.loop-net.words = omega (arith, c.loop-net-test.true, c.loop-net.invariant.nets, c.requires.nets) in
    record {
      nets = ap length c.set.ensures ∙ length-set c.loop-net.words place c.found.result ∙ c.loop-net.invariant.nets;
      inputs = λ lane low.
          let is = c.found.ensures lane ∙ ap (find_in c.args.stuck.now lane place) (c.spread.ensures lane low) in
          input_further (find_in c.args.stuck.now lane) lane c.loop-net.words c.set.new.self c.args.row.now place c.found.result within c.set.ensures is (c.loop-net.invariant.inputs lane low);
    }
