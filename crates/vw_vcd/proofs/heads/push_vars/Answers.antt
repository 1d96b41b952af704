use Rattle.std.proofs.Common.{◌∙◌}
use Rattle.vw_vcd.proofs.WaveParts.{vars_more}
use Rattle.vw_vcd.proofs.heads.push_vars.Goals as goal

pub loop-number-preserved : goal.loop-number-preserved
loop-number-preserved c =
    vars_more c.args.nets.now c.loop-number.number c.index-nets-number.result c.as_slice.result.now c.loop-number.text.items c.push_var.new.text.items _
    c.loop-number-test.true (c.as_slice.ensures ∙ c.index-nets-number.is) c.in_ok-push_var.ensures c.loop-number.invariant
