use Rattle.std.proofs.Common.{◌≡◌, ◌∷◌, ◌++◌, length, true, ap, length-append, rules, arith}
use Rattle.vw_plantext.specs.Steps.Bodies.{body_state, is_complete}
use Rattle.vw_plantext.proofs.ReadSoFar.{fault_line, fault_no_further, read_further}
use Rattle.vw_plantext.proofs.LastLine.{spelled_at_end, fault_at_end}
use Rattle.vw_plantext.proofs.plan_text.read_lines.Goals as goal

pub returns-then-is_complete-clause-spelled : goal.returns-then-is_complete-clause-spelled
returns-then-is_complete-clause-spelled c =
    let complete : is_complete (body_state c.loop-line.body) ≡ true = search rules in
    spelled_at_end c.args.bytes.now (body_state c.loop-line.body) c.loop-line.rest.now c.loop-line.number c.loop-line.invariant.to complete c.in-Some.line.now c.in-Some.after.now c.in-Some.ensures.cut c.end_of.result c.end_of.ensures.ends

pub returns-then-is_complete-clause-fault : goal.returns-then-is_complete-clause-fault
returns-then-is_complete-clause-fault c =
    let complete : is_complete (body_state c.loop-line.body) ≡ true = search rules in
    fault_at_end c.args.bytes.now (body_state c.loop-line.body) c.loop-line.rest.now c.loop-line.number c.loop-line.invariant.to complete c.in-Some.line.now c.in-Some.after.now c.in-Some.ensures.cut c.end_of.result c.end_of.ensures.fault

pub returns-in_default-2-clause-fault : goal.returns-in_default-2-clause-fault
returns-in_default-2-clause-fault c =
    let refuses = rw c.in_default-2.is at c.in_ok-taken.ensures in
    fault_line c.args.bytes.now (body_state c.loop-line.body) c.loop-line.rest.now c.loop-line.number c.loop-line.invariant.to c.in-Some.line.now c.in-Some.after.now c.in-Some.ensures.cut refuses

pub loop-line-preserved : goal.loop-line-preserved
loop-line-preserved c =
    let takes = rw c.in-Some-2.is at c.in_ok-taken.ensures in
    let shorter : length c.loop-line.rest.now ≡ length (c.in-Some.line.now ++ 10 ∷ c.in-Some.after.now) = ap length c.in-Some.ensures.cut.whole in
    record {
      to = read_further c.args.bytes.now (body_state c.loop-line.body) c.loop-line.rest.now c.loop-line.number c.loop-line.invariant.to c.in-Some.line.now c.in-Some.after.now (body_state c.in-Some-2.taken) (body_state c.in_ok-body-2.body) c.in-Some.ensures.cut takes c.in_ok-body-2.ensures;
      small = omega (arith, shorter, length-append c.in-Some.line.now (10 ∷ c.in-Some.after.now), c.loop-line.invariant.small);
    }

pub returns-clause-fault : goal.returns-clause-fault
returns-clause-fault c = fault_no_further c.args.bytes.now (body_state c.loop-line.body) c.loop-line.rest.now c.loop-line.number c.loop-line.invariant.to c.in_default.ensures.none
