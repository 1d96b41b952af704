use Rattle.std.proofs.Common.{◌≡◌, ◌<◌, ◌-◌, ℕ, List, length, get_or, reverse, ap, subst, inl, arith}
use Rattle.vw_net.proofs.ReadyNets.{order_gate, order_within}
use Rattle.vw_plan.specs.PlannedBoard.{home}
use Rattle.vw_chain.specs.Chains.{IsWay}
use Rattle.vw_chain.specs.Steps.{IsLastRead, chip_at, net_of}
use Rattle.vw_chain.specs.Timing.{planned_of}
use Rattle.vw_chain.proofs.BackReady.{ends_first, read_ready}
use Rattle.vw_chain.proofs.GateReads.{its_home, last_net}
use Rattle.vw_chain.proofs.timed.Timed.back_to_first.Goals as goal

pub waits-requires-clause-number : goal.waits-requires-clause-number
waits-requires-clause-number c =
    let planned = planned_of c.args.self.now in
    let order = planned.ordered.order in
    let place = c.loop-place.place - 1 in
    let same : get_or c.order-order.result.now place 0 ≡ get_or order place 0 = ap (λ (list : List ℕ). get_or list place 0) c.order-order.ensures in
    omega (arith, order_within planned.ordered.is_order place (omega (arith, ap length c.order-order.ensures, c.loop-place.auto.place, c.loop-place-test.true)), same)

pub returns-clause-first : goal.returns-clause-first
returns-clause-first c = ends_first (planned_of c.args.self.now) c.loop-place.place c.loop-place.first (omega (arith, c.loop-place-test.false)) c.loop-place.invariant.ready

pub loop-place-preserved-then-waits : goal.loop-place-preserved-then-waits
loop-place-preserved-then-waits c =
    let planned = planned_of c.args.self.now in
    let order = planned.ordered.order in
    let place = c.loop-place.place - 1 in
    let number = get_or c.order-order.result.now place 0 in
    let within : place < length order = omega (arith, ap length c.order-order.ensures, c.loop-place.auto.place, c.loop-place-test.true) in
    let same : number ≡ get_or order place 0 = ap (λ (list : List ℕ). get_or list place 0) c.order-order.ensures in
    let its : IsLastRead planned (get_or order place 0) c.in_ok-first.first = subst (λ (one : ℕ). IsLastRead planned one c.in_ok-first.first) same c.in_ok-first.ensures.read in
    let at_gate : (net node : ℕ) → c.loop-place.first ≡ net → home planned net ≡ node → (to at : ℕ) → IsWay planned (reverse c.loop-place.steps.items) c.loop-place.first (home planned c.loop-place.first) to at
    → IsWay planned (reverse c.loop-place.steps.items) net node to at =
    λ net node is here to at way. subst (λ (one : ℕ). IsWay planned (reverse c.loop-place.steps.items) net one to at) here
    (subst (λ (one : ℕ). IsWay planned (reverse c.loop-place.steps.items) one (home planned one) to at) is way) in
    record {
      net = last_net planned (get_or order place 0) (order_gate planned.ordered.is_order place within) c.in_ok-first.first its;
      ready = inl (read_ready planned place c.in_ok-first.first within its);
      way = λ to at way. c.in_ok-first.ensures.way to at (at_gate (net_of planned number) (chip_at planned number) c.if-waits.ensures.late.0 (its_home planned number) to at (c.loop-place.invariant.way to at way));
    }
