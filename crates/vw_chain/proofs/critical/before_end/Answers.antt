use Rattle.std.proofs.Common.{◌≡◌, ◌∙◌, ◌+◌, ℕ, List, [], ◌∷◌, Some, length, get_or, refl, ap, sym, subst, reverse, arith}
use Rattle.std.proofs.lemmas.Option.{get_or_from_slice_get}
use Rattle.vw_net.specs.declared.cell.Cell.TheVariants.{Latch}
use Rattle.vw_net.proofs.FittingCells.{cell_fits}
use Rattle.vw_net.proofs.Orders.{at_among}
use Rattle.vw_plan.specs.declared.wire.Wire.{Wire}
use Rattle.vw_plan.specs.PlannedBoard.{PlannedBoard, home}
use Rattle.vw_plan.proofs.ReadNets.{read_or_needed}
use Rattle.vw_chain.specs.declared.chain.End.{End}
use Rattle.vw_chain.specs.declared.chain.End.TheVariants as end
use Rattle.vw_chain.specs.Chains.{IsWaitedFor, IsWay}
use Rattle.vw_chain.specs.Steps.{EndsSo, IsThere}
use Rattle.vw_chain.specs.Timing.{planned_of}
use Rattle.vw_chain.proofs.Ways.{wire_way}
use Rattle.vw_chain.proofs.critical.before_end.Goals as goal

-- what is waited for, by what the end is
waited : (planned : PlannedBoard) (end same : End) → end ≡ same → (last : ℕ) × EndsSo planned last (Some end) → (last : ℕ) × EndsSo planned last (Some same)
waited planned end same is so = (so.0, subst (λ (one : End). EndsSo planned so.0 (Some one)) is so.1)

pub back_home-requires-clause-net : goal.back_home-requires-clause-net
back_home-requires-clause-net c =
    let planned = planned_of c.args.timed.now in
    let flat = planned.ordered.flat in
    let its = waited planned c.args.end (end.Latch c.in-Latch.number c.in-Latch.reads) c.in-Latch.is c.requires in
    (cell_fits (flat.inputs + length flat.cells) flat.cells c.in-Latch.number (Latch c.in-Latch.reads its.1.2.0) flat.cells_fit its.1.2.1).1 0 0 (omega arith)

pub back_home-requires-clause-there : goal.back_home-requires-clause-there
back_home-requires-clause-there c =
    let planned = planned_of c.args.timed.now in
    let its = waited planned c.args.end (end.Latch c.in-Latch.number c.in-Latch.reads) c.in-Latch.is c.requires in
    subst (λ (node : ℕ). IsThere planned node c.in-Latch.reads) (ap (λ (chips : List ℕ). get_or chips c.in-Latch.number 0) (sym c.chip_of.ensures))
    (read_or_needed planned.ordered.flat planned.plan.chip_of c.in-Latch.number c.in-Latch.reads (Latch c.in-Latch.reads its.1.2.0) c.args.timed.now.sound.one_chip_each.each its.1.2.1 (at_among (c.in-Latch.reads ∷ []) 0 0 (omega arith)))

pub returns-in_ok-back_home-in-Latch-clause-net : goal.returns-in_ok-back_home-in-Latch-clause-net
returns-in_ok-back_home-in-Latch-clause-net c =
    let planned = planned_of c.args.timed.now in
    let flat = planned.ordered.flat in
    let its = waited planned c.args.end (end.Latch c.in-Latch.number c.in-Latch.reads) c.in-Latch.is c.requires in
    (cell_fits (flat.inputs + length flat.cells) flat.cells c.in-Latch.number (Latch c.in-Latch.reads its.1.2.0) flat.cells_fit its.1.2.1).1 0 0 (omega arith)

pub returns-in_ok-push-in-Wire-clause-way : goal.returns-in_ok-push-in-Wire-clause-way
returns-in_ok-push-in-Wire-clause-way c net node last so to at way =
    let planned = planned_of c.args.timed.now in
    let its : IsWaitedFor planned (end.Wire c.in-Wire.number) net node last = subst (λ (one : End). IsWaitedFor planned one net node last) c.in-Wire.is so in
    let wire = its.0 in
    let read : wire ≡ c.index-wires-number.result = sym (get_or_from_slice_get planned.plan.wires c.in-Wire.number wire c.index-wires-number.result its.1)
    ∙ ap (λ (wires : List Wire). get_or wires c.in-Wire.number c.index-wires-number.result) (sym c.wires.ensures) ∙ sym c.index-wires-number.is in
    let found : wire.net ≡ c.net.result = ap (λ (one : Wire). one.net) read ∙ sym c.net.ensures in
    let same : net ≡ c.net.result = sym its.2 ∙ found in
    wire_way planned c.args.steps.now.items c.push.new.self.items c.in-Wire.number wire c.net.result (home planned c.net.result) to at c.in_ok-push-in-Wire.ensures.items
    (record { there = its.1; its_net = found; from = refl })
    (subst (λ (one : ℕ). IsWay planned (reverse c.args.steps.now.items) c.net.result one to at) (sym its.3)
    (subst (λ (one : ℕ). IsWay planned (reverse c.args.steps.now.items) one node to at) same way))
