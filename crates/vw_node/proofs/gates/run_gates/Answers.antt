use Rattle.std.proofs.Common.{◌≤◌, ◌∙◌, List, length, ap, subst, sym, All, arith, rules}
use Rattle.std.specs.List.{slice_range}
use Rattle.vw_prog.specs.SeenGates.{SeenGate}
use Rattle.vw_node.specs.Slots.{ReadsWithin, with_gates}
use Rattle.vw_node.proofs.SeenRanges.{seen_four, seen_six, seen_two}
use Rattle.vw_node.proofs.gates.run_gates.Goals as goal

-- ---- room for two

pub run_part-requires : goal.run_part-requires
run_part-requires c =
    let same = seen_two c.args.gates.now c.in-Two.list c.deref.result.now c.in-Two.is c.deref.ensures.value in
    (search rules, (omega arith, (c.requires.order, (subst (λ (list : List SeenGate). c.args.end ≤ length list) same c.requires.end, (subst (λ (list : List SeenGate). All (ReadsWithin (length c.args.slots.now)) (slice_range list c.args.first c.args.end)) same c.requires.within, c.requires.room)))))

pub returns-in-Two : goal.returns-in-Two
returns-in-Two c =
    let same = seen_two c.args.gates.now c.in-Two.list c.deref.result.now c.in-Two.is c.deref.ensures.value in
    c.run_part.ensures ∙ ap (λ (list : List SeenGate). with_gates c.args.slot (slice_range list c.args.first c.args.end) c.args.slots.now) (sym same)

-- ---- room for four

pub run_part-requires-in-Four : goal.run_part-requires-in-Four
run_part-requires-in-Four c =
    let same = seen_four c.args.gates.now c.in-Four.list c.deref-in-Four.result.now c.in-Four.is c.deref-in-Four.ensures.value in
    (search rules, (omega arith, (c.requires.order, (subst (λ (list : List SeenGate). c.args.end ≤ length list) same c.requires.end, (subst (λ (list : List SeenGate). All (ReadsWithin (length c.args.slots.now)) (slice_range list c.args.first c.args.end)) same c.requires.within, c.requires.room)))))

pub returns-in-Four : goal.returns-in-Four
returns-in-Four c =
    let same = seen_four c.args.gates.now c.in-Four.list c.deref-in-Four.result.now c.in-Four.is c.deref-in-Four.ensures.value in
    c.run_part-in-Four.ensures ∙ ap (λ (list : List SeenGate). with_gates c.args.slot (slice_range list c.args.first c.args.end) c.args.slots.now) (sym same)

-- ---- room for six

pub run_part-requires-in-Six : goal.run_part-requires-in-Six
run_part-requires-in-Six c =
    let same = seen_six c.args.gates.now c.in-Six.list c.deref-in-Six.result.now c.in-Six.is c.deref-in-Six.ensures.value in
    (search rules, (omega arith, (c.requires.order, (subst (λ (list : List SeenGate). c.args.end ≤ length list) same c.requires.end, (subst (λ (list : List SeenGate). All (ReadsWithin (length c.args.slots.now)) (slice_range list c.args.first c.args.end)) same c.requires.within, c.requires.room)))))

pub returns-in-Six : goal.returns-in-Six
returns-in-Six c =
    let same = seen_six c.args.gates.now c.in-Six.list c.deref-in-Six.result.now c.in-Six.is c.deref-in-Six.ensures.value in
    c.run_part-in-Six.ensures ∙ ap (λ (list : List SeenGate). with_gates c.args.slot (slice_range list c.args.first c.args.end) c.args.slots.now) (sym same)
