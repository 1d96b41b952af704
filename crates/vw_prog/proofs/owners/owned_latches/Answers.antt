use Rattle.std.proofs.Common.{◌≡◌, ◌+◌, ◌++◌, ◌∷◌, [], ◌∙◌, ℕ, List, length, get_or, eqb, slice_get, if◌then◌else◌, Some, ap, refl, sym, arith}
use Rattle.std.specs.Global.{Vec}
use Rattle.vw_net.specs.declared.cell.Cell.{Cell}
use Rattle.vw_net.specs.declared.flat.Flat.{Flat}
use Rattle.vw_net.specs.declared.ordered.Ordered.{Ordered}
use Rattle.vw_net.specs.Order.{is_latch}
use Rattle.vw_net.specs.Steps.Bits.{one_if}
use Rattle.vw_plan.specs.declared.plan.Plan.{Plan}
use Rattle.vw_plan.specs.PlannedBoard.{planned_board}
use Rattle.vw_prog.specs.declared.owners.OwnLatch.{OwnLatch}
use Rattle.vw_prog.specs.Coding.{owned_of}
use Rattle.vw_prog.proofs.CellOps.{cell_there}
use Rattle.vw_prog.proofs.OwnedLatches.{counted, few_latches, gate_keeps, latch_given}
use Rattle.vw_prog.proofs.owners.owned_latches.Goals as goal
use Rattle.vw_prog.proofs.owners.owned_latches.Goals.{in-Latch+in_ok-give, in_default}

pub overflow_add-latches : goal.overflow_add-latches
overflow_add-latches c = omega (arith, c.loop-number.invariant.latches, few_latches c.args.checked.now.ordered.flat c.loop-number.number)

pub loop-number-preserved : goal.loop-number-preserved
loop-number-preserved c =
    let checked = c.args.checked.now in
    let planned = planned_board checked.ordered checked.board checked.plan in
    let number = c.loop-number.number in
    let cell = c.cell-item.result in
    let flat : c.flat-flat.result.now ≡ checked.ordered.flat = c.flat-flat.ensures ∙ ap (λ (ordered : Ordered). ordered.flat) c.ordered.ensures in
    let cells = c.cells-cell-items.ensures ∙ ap (λ (one : Flat). one.cells) flat in
    let at : slice_get checked.ordered.flat.cells number ≡ Some cell = cell_there c.cells-cell-items.result.now checked.ordered.flat.cells number cell cells c.loop-number-test.true c.cell-item.is in
    elim c.match-cell.branch [
      | in-Latch+in_ok-give w ↦
          let chip = get_or c.chip_of-chip_of.result.now number 0 in
          let latch : OwnLatch = record { net = w.inputs.result + number; taken = w.in-Latch.d; number = c.loop-number.latches } in
          let chip_is = ap (λ (list : List ℕ). get_or list number 0) (c.chip_of-chip_of.ensures ∙ ap (λ (plan : Plan). plan.chip_of) c.plan.ensures) in
          let net_is = ap (λ (inputs : ℕ). inputs + number) (w.inputs.ensures ∙ ap (λ (one : Flat). one.inputs) flat) in
          record {
            count = ap (λ (v : Vec (Vec OwnLatch)). length (owned_of v.items)) w.lists-is ∙ w.in_ok-give.ensures.count ∙ c.loop-number.invariant.count;
            latches = omega (arith, w.latches-is, c.loop-number.invariant.latches, counted planned number cell at, ap (λ (one : Cell). one_if (is_latch (Some one))) w.in-Latch.is);
            each = λ node low.
                ap (λ (v : Vec (Vec OwnLatch)). get_or (owned_of v.items) node []) w.lists-is
                ∙ w.in_ok-give.ensures.each node (omega (arith, low, c.loop-number.invariant.count))
                ∙ ap (λ (items : List OwnLatch). if eqb chip node then items ++ latch ∷ [] else items) (c.loop-number.invariant.each node low)
                ∙ sym (latch_given planned number cell at w.in-Latch.d w.in-Latch.init chip latch w.in-Latch.is chip_is net_is refl c.loop-number.invariant.latches node);
          }
      | in_default w ↦
          let none = ap (λ (one : Cell). is_latch (Some one)) w.in_default.is in
          record {
            count = ap (λ (v : Vec (Vec OwnLatch)). length (owned_of v.items)) w.lists-is ∙ c.loop-number.invariant.count;
            latches = omega (arith, w.latches-is, c.loop-number.invariant.latches, counted planned number cell at, ap one_if none);
            each = λ node low. ap (λ (v : Vec (Vec OwnLatch)). get_or (owned_of v.items) node []) w.lists-is ∙ c.loop-number.invariant.each node low ∙ sym (gate_keeps planned number cell at none node);
          }
    ]
