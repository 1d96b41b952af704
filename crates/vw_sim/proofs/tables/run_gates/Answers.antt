use Rattle.std.proofs.Common.{◌≡◌, ◌+◌, ◌-◌, length, take, drop, get_or, slice_get, ap, sym, ◌∙◌, arith, rules}
use Rattle.std.proofs.lemmas.List.{length-set, take_all}
use Rattle.vw_net.specs.Cover.{cover_value}
use Rattle.vw_net.proofs.Orders.{length-order}
use Rattle.vw_net.proofs.ReadyNets.{all_ready, order_gate}
use Rattle.vw_sim.specs.Steps.Values.{bits_at}
use Rattle.vw_sim.proofs.Gates.{more_have_values}
use Rattle.vw_sim.proofs.KeptGates.{gate_there, length-steps, steps-within}
use Rattle.vw_sim.proofs.Runs.{length-with_steps, part_have}
use Rattle.vw_sim.proofs.WideGates.{next_at, none_at}
use Rattle.vw_sim.proofs.tables.run_gates.Goals as goal

-- the gates up to the next wide one are kept, and so are those behind the last
pub run_part-requires : goal.run_part-requires
run_part-requires g c =
    let ordered = c.args.ordered.now in
    let next = next_at g.row.N ordered.flat.cells ordered.order c.args.wide.now c.loop-place.made c.loop-place.place-index c.loop-place-test.true c.loop-place.invariant.left in
    let many = length-steps g.row.N ordered.flat.inputs ordered.flat.cells ordered.order c.args.steps.now c.requires.steps in
    let within = steps-within ordered.is_order ordered.flat.cells_fit g.row.N (length c.loop-place.values) c.args.steps.now c.requires.steps (c.loop-place.invariant.nets ∙ c.requires.nets) in
    (search rules, (c.requires.room, (next.from, (omega (arith, next.within, many), within))))

pub run_part-requires-2 : goal.run_part-requires-2
run_part-requires-2 g c =
    let ordered = c.args.ordered.now in
    let many = length-steps g.row.N ordered.flat.inputs ordered.flat.cells ordered.order c.args.steps.now c.requires.steps in
    let within = steps-within ordered.is_order ordered.flat.cells_fit g.row.N (length c.loop-place.values) c.args.steps.now c.requires.steps (c.loop-place.invariant.nets ∙ c.requires.nets) in
    (search rules, (c.requires.room, (omega (arith, c.loop-place.invariant.made, many), (omega arith, within))))

-- a wide gate stands in the order
pub run_wide-requires-clause-place : goal.run_wide-requires-clause-place
run_wide-requires-clause-place g c =
    let ordered = c.args.ordered.now in
    let next = next_at g.row.N ordered.flat.cells ordered.order c.args.wide.now c.loop-place.made c.loop-place.place-index c.loop-place-test.true c.loop-place.invariant.left in
    next.within

pub run_wide-requires-clause-nets : goal.run_wide-requires-clause-nets
run_wide-requires-clause-nets g c =
    let part = take (get_or c.args.wide.now c.loop-place.place-index 0 - c.loop-place.made) (drop c.loop-place.made c.args.steps.now) in
    ap length c.run_part.ensures ∙ length-with_steps g.row.N part c.loop-place.values ∙ c.loop-place.invariant.nets ∙ c.requires.nets

-- there are no more gates than cells
pub overflow_add-made : goal.overflow_add-made
overflow_add-made g c =
    let ordered = c.args.ordered.now in
    let next = next_at g.row.N ordered.flat.cells ordered.order c.args.wide.now c.loop-place.made c.loop-place.place-index c.loop-place-test.true c.loop-place.invariant.left in
    omega (arith, next.within, length-order ordered.flat.inputs ordered.flat.cells ordered.order ordered.is_order, ordered.flat.few_cells)

-- the gates before the wide one have their values, and then it has its own
pub loop-place-preserved : goal.loop-place-preserved
loop-place-preserved g c =
    let ordered = c.args.ordered.now in
    let old = c.loop-place.invariant in
    let made = c.loop-place.made in
    let place = get_or c.args.wide.now c.loop-place.place-index 0 in
    let next = next_at g.row.N ordered.flat.cells ordered.order c.args.wide.now made c.loop-place.place-index c.loop-place-test.true old.left in
    let there = gate_there (slice_get ordered.flat.cells (get_or ordered.order place 0)) (order_gate ordered.is_order place next.within) in
    let written = c.run_wide.ensures there.ins there.cover there.is in
    let part = take (place - made) (drop made c.args.steps.now) in
    let size : length c.run_part.new.values ≡ length c.args.values.now = ap length c.run_part.ensures ∙ length-with_steps g.row.N part c.loop-place.values ∙ old.nets in
    let bit = cover_value there.cover (bits_at c.run_part.new.values there.ins) in
    record {
      nets = ap length written ∙ length-set c.run_part.new.values (ordered.flat.inputs + get_or ordered.order place 0) bit ∙ size;
      made = omega (arith, next.within);
      left = sym next.rest_is;
      values = λ value starts its.
          let have = part_have ordered.is_order ordered.flat.cells_fit g.row.N c.requires.room value its c.args.steps.now c.loop-place.values c.run_part.new.values made place c.requires.steps c.run_part.ensures next.from (omega (arith, next.within)) (old.nets ∙ c.requires.nets) next.narrow (old.values value starts its) in
          more_have_values ordered.is_order place next.within there.ins there.cover there.is value c.run_part.new.values c.run_wide.new.values (omega (arith, size, c.requires.nets)) written (its _ there.ins there.cover there.is) have;
    }

pub returns-clause-nets : goal.returns-clause-nets
returns-clause-nets g c =
    let made = c.loop-place.made in
    let part = take (length c.args.steps.now - made) (drop made c.args.steps.now) in
    ap length c.run_part-2.ensures ∙ length-with_steps g.row.N part c.loop-place.values ∙ c.loop-place.invariant.nets

-- behind the last wide gate there is room for all, and every net is ready when the whole order is done
pub returns-clause-values : goal.returns-clause-values
returns-clause-values g c = λ value starts its net within.
    let ordered = c.args.ordered.now in
    let old = c.loop-place.invariant in
    let made = c.loop-place.made in
    let many = length-steps g.row.N ordered.flat.inputs ordered.flat.cells ordered.order c.args.steps.now c.requires.steps in
    let narrow = none_at g.row.N ordered.flat.cells ordered.order c.args.wide.now made c.loop-place.place-index (omega (arith, c.loop-place-test.false)) old.left in
    let have = part_have ordered.is_order ordered.flat.cells_fit g.row.N c.requires.room value its c.args.steps.now c.loop-place.values c.run_part-2.new.values made (length c.args.steps.now) c.requires.steps c.run_part-2.ensures (omega (arith, old.made, many)) (omega (arith, many)) (old.nets ∙ c.requires.nets) (λ k low. narrow k (omega (arith, low, many))) (old.values value starts its) in
    let all : take (length c.args.steps.now) ordered.order ≡ ordered.order = take_all (length c.args.steps.now) ordered.order (omega (arith, many)) in
    have net (rw all (all_ready ordered.is_order net (omega (arith, within, returns-clause-nets g c, c.requires.nets))))
