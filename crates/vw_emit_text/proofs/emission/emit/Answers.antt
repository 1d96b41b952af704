use Rattle.std.proofs.Common.{◌≡◌, ◌∙◌, List, None, ap, ap₂, subst, sym}
use Rattle.vw_net.specs.declared.ordered.Ordered.{Ordered}
use Rattle.vw_plan.specs.PlannedBoard.{planned_board}
use Rattle.vw_plan.specs.Sound.{IsSound}
use Rattle.vw_plan.specs.declared.board.Board.{Board}
use Rattle.vw_plan.specs.declared.checked.Checked.{Checked}
use Rattle.vw_plan.specs.declared.link.Link.{Link}
use Rattle.vw_plan.specs.declared.plan.Plan.{Plan}
use Rattle.vw_plan.specs.declared.wire.Wire.{Wire}
use Rattle.vw_ready.specs.Pairs.{HasPairs}
use Rattle.vw_ready.specs.Wires.{wire_pairs}
use Rattle.vw_net.specs.Sorting.{sorted}
use Rattle.vw_emit_text.specs.declared.numbered_hop.NumberedHop.{NumberedHop}
use Rattle.vw_emit_text.specs.Outlets.{hops_of_wires, leaves_before, outlets_behind}
use Rattle.vw_emit_text.proofs.emission.emit.Goals as goal

same_board : (checked : Checked) (ordered : Ordered) (board : Board) (plan : Plan) → ordered ≡ checked.ordered → board ≡ checked.board
    → plan ≡ checked.plan → planned_board ordered board plan ≡ planned_board checked.ordered checked.board checked.plan
same_board checked ordered board plan one two three =
    ap₂ (λ (own : Ordered) (links : Board). planned_board own links plan) one two ∙ ap (planned_board checked.ordered checked.board) three

pub invariant_of-emitter : goal.invariant_of-emitter
invariant_of-emitter c =
    let plans : c.plan.result.now ≡ c.plan-3.result.now = c.plan.ensures ∙ sym c.plan-3.ensures in
    let later : c.plan-2.result.now ≡ c.plan-3.result.now = c.plan-2.ensures ∙ sym c.plan-3.ensures in
    let links : c.in_ok-links.links ≡ c.board-2.result.now.links = c.in_ok-links.ensures ∙ ap (λ (board : Board). board.links) (c.board.ensures ∙ sym c.board-2.ensures) in
    let wires : c.wires.result.now ≡ c.plan-3.result.now.wires = c.wires.ensures ∙ ap (λ (plan : Plan). plan.wires) later in
    record {
      sound = subst IsSound (sym (same_board c.args.checked.now c.ordered.result.now c.board-2.result.now c.plan-3.result.now c.ordered.ensures c.board-2.ensures c.plan-3.ensures)) c.args.checked.now.sound;
      has_wires = subst (λ (plan : Plan). HasPairs (wire_pairs plan.wires) c.in_ok-wires.wires.places) plans c.in_ok-wires.ensures;
      hops_are = c.as_slice-2.ensures.value ∙ c.in_ok-hops.ensures ∙ ap₂ (λ (one : List Link) (other : List Wire). hops_of_wires one 0 other) links wires;
      outlets_are = c.as_slice-3.ensures.value ∙ c.in_ok-by_pins.ensures ∙ ap (λ (hops : List NumberedHop). outlets_behind None 0 (sorted leaves_before hops)) (c.as_slice.ensures.value ∙ sym c.as_slice-2.ensures.value);
    }
