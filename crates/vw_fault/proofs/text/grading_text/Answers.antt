use Rattle.std.proofs.Common.{◌∙◌, List, length, ap, arith}
use Rattle.vw_fault.specs.declared.open.Open.{Open}
use Rattle.vw_fault.proofs.Texts.{open_few, open_named}
use Rattle.vw_fault.proofs.text.grading_text.Goals as goal

-- each net has a name
pub text_of-requires-clause-named : goal.text_of-requires-clause-named
text_of-requires-clause-named g c =
    open_named c.args.ordered.now.flat c.args.start.now c.args.rows.now (length c.args.names.now) c.deref.result.now c.requires.names (c.deref.ensures.value ∙ c.in_ok-left.ensures)

-- and two faults
pub text_of-requires-clause-few : goal.text_of-requires-clause-few
text_of-requires-clause-few g c =
    omega (arith, ap (λ (list : List Open). length list) (c.deref.ensures.value ∙ c.in_ok-left.ensures), open_few c.args.ordered.now.flat c.args.start.now c.args.rows.now, c.requires.names)
