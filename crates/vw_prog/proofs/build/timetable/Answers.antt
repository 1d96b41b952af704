use Rattle.std.proofs.Common.{◌≡◌, ◌<◌, ◌+◌, ◌∙◌, length, ap, sym, subst, All}
use Rattle.vw_net.specs.declared.ordered.Ordered.{Ordered}
use Rattle.vw_plan.specs.declared.board.Board.{Board}
use Rattle.vw_plan.specs.declared.checked.Checked.{Checked}
use Rattle.vw_plan.specs.declared.plan.Plan.{Plan}
use Rattle.vw_plan.specs.declared.wire.Wire.{Wire}
use Rattle.vw_plan.specs.PlannedBoard.{PlannedBoard, planned_board}
use Rattle.vw_plan.specs.Sound.{IsSound}
use Rattle.vw_ready.specs.Pairs.{HasPairs}
use Rattle.vw_ready.specs.Wires.{wire_pairs}
use Rattle.vw_net.specs.Sorting.{sorted}
use Rattle.vw_prog.specs.Timetable.{comes_before, entries, timetable}
use Rattle.vw_prog.proofs.EntryOrder.{is_order, same_entry}
use Rattle.vw_plan.proofs.NeededWires.{wires_fine}
use Rattle.vw_net.proofs.SortedLists.{sorted_is}
use Rattle.vw_prog.proofs.build.timetable.Goals as goal

abbrev planned_in_checked : Checked → PlannedBoard
planned_in_checked checked = planned_board checked.ordered checked.board checked.plan

same_board : (checked : Checked) (ordered : Ordered) (board : Board) (plan : Plan) → ordered ≡ checked.ordered → board ≡ checked.board
    → plan ≡ checked.plan → planned_board ordered board plan ≡ planned_in_checked checked
same_board checked ordered board plan one two three = λ i. planned_board (one i) (two i) (three i)

each_cell : (checked : Checked) (ordered : Ordered) (plan : Plan) → ordered ≡ checked.ordered → plan ≡ checked.plan
    → length plan.chip_of ≡ length ordered.flat.cells
each_cell checked ordered plan one two = ap (λ (own : Plan). length own.chip_of) two ∙ checked.sound.one_chip_each.each ∙ sym (ap (λ (own : Ordered). length own.flat.cells) one)

its_nets : (checked : Checked) (ordered : Ordered) (plan : Plan) → ordered ≡ checked.ordered → plan ≡ checked.plan
    → All (λ wire. wire.net < ordered.flat.inputs + length ordered.flat.cells) plan.wires
its_nets checked ordered plan one two =
    subst (λ (own : Ordered). All (λ (wire : Wire). wire.net < own.flat.inputs + length own.flat.cells) plan.wires) (sym one)
    (subst (λ (own : Plan). All (λ (wire : Wire). wire.net < checked.ordered.flat.inputs + length checked.ordered.flat.cells) own.wires) (sym two) (wires_fine (planned_in_checked checked) checked.sound))

pub invariant_of-wired : goal.invariant_of-wired
invariant_of-wired c =
    let checked = c.args.checked.now in
    let plans : c.plan.result.now ≡ c.plan-2.result.now = c.plan.ensures ∙ sym c.plan-2.ensures in
    let boards : c.board.result.now ≡ c.board-2.result.now = c.board.ensures ∙ sym c.board-2.ensures in
    record {
      each = each_cell checked c.ordered.result.now c.plan-2.result.now c.ordered.ensures c.plan-2.ensures;
      nets = its_nets checked c.ordered.result.now c.plan-2.result.now c.ordered.ensures c.plan-2.ensures;
      has_wires = subst (λ (plan : Plan). HasPairs (wire_pairs plan.wires) c.in_ok-wires.wires.places) plans c.in_ok-wires.ensures;
      has_links = c.in_ok-links.ensures ∙ ap (λ (board : Board). board.links) boards;
    }

pub entries-requires : goal.entries-requires
entries-requires c = subst IsSound (sym (same_board c.args.checked.now c.ordered.result.now c.board-2.result.now c.plan-2.result.now c.ordered.ensures c.board-2.ensures c.plan-2.ensures)) c.args.checked.now.sound

pub returns : goal.returns
unfolding timetable
returns c =
    sorted_is comes_before is_order same_entry c.in_ok-list.list.items c.sort.new.self.items c.in_ok-sort.ensures.permutation c.in_ok-sort.ensures.sorted
    ∙ ap (sorted comes_before) (c.in_ok-list.ensures ∙ ap entries (same_board c.args.checked.now c.ordered.result.now c.board-2.result.now c.plan-2.result.now c.ordered.ensures c.board-2.ensures c.plan-2.ensures))
