use Rattle.std.proofs.Common.{◌∙◌, List, length, ap, subst, sym, All, arith, rules}
use Rattle.vw_prog.specs.SeenGates.{SeenGate}
use Rattle.vw_node.specs.Slots.{ReadsWithin, with_gates}
use Rattle.vw_node.proofs.SeenRanges.{range_long, range_seen}
use Rattle.vw_node.proofs.gates.run_part.Goals as goal

pub run_all-requires : goal.run_all-requires
run_all-requires g c =
    let gates = c.args.gates.now in
    let same = range_seen g.row.N gates c.args.first c.args.end in
    (search rules, (c.requires.few, (subst (All (ReadsWithin (length c.args.slots.now))) same c.requires.within, omega (arith, c.requires.room, range_long g.row.N gates c.args.first c.args.end c.requires.order c.requires.end))))

pub returns : goal.returns
returns g c = c.run_all.ensures ∙ ap (λ (list : List SeenGate). with_gates c.args.slot list c.args.slots.now) (sym (range_seen g.row.N c.args.gates.now c.args.first c.args.end))
