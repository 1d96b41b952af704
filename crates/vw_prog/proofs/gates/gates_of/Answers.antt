use Rattle.vw_prog.proofs.NarrowedGates.{are_four, are_six, are_two}
use Rattle.vw_prog.proofs.gates.gates_of.Goals as goal

pub returns-then-are_within : goal.returns-then-are_within
returns-then-are_within c = are_two c.args.gates.now c.in_ok-narrow_gates.field-0 c.in_ok-narrow_gates.ensures c.if-are_within.ensures

pub returns-then-are_within-2 : goal.returns-then-are_within-2
returns-then-are_within-2 c = are_four c.args.gates.now c.in_ok-narrow_gates-2.field-0 c.in_ok-narrow_gates-2.ensures c.if-are_within-2.ensures

pub returns : goal.returns
returns c = are_six c.args.gates.now c.in_ok-narrow_gates-3.field-0 c.in_ok-narrow_gates-3.ensures
