use Rattle.std.proofs.Common.{◌≡◌, ◌≤◌, ◌+◌, ◌∙◌, ℕ, List, ap, length, get_or, replicate, arith}
use Rattle.std.proofs.lemmas.List.{length_push}
use Rattle.std.proofs.lemmas.List.Elements.{All-nil, All-push}
use Rattle.vw_plan.specs.Chips.{IsChip}
use Rattle.vw_part.specs.declared.load.Load.{Load}
use Rattle.vw_part.proofs.KeptDeals.{IsEmptyLoad, empty_gains, empty_load}
use Rattle.vw_part.proofs.deal.Deal.empty.Goals as goal

pub loop-chip-preserved : goal.loop-chip-preserved
loop-chip-preserved c =
    let cell_nets = c.args.cell_nets.now in
    let loads = c.loop-chip.loads.items in
    let load = c.in_ok-load.load in
    let one : IsEmptyLoad cell_nets load = record { cells = c.in_ok-load.ensures.cells; held = c.in_ok-load.ensures.held; met = c.in_ok-load.ensures.met ∙ ap (λ (many : ℕ). replicate many 0) c.cells-cells.ensures } in
    let all = All-push (IsEmptyLoad cell_nets) loads load c.loop-chip.invariant.0 one in
    (rw c.in_ok-push.ensures.items all, ap (λ (loads : List Load). length loads) c.in_ok-push.ensures.items ∙ length_push loads load ∙ omega arith)

pub invariant_of-result : goal.invariant_of-result
invariant_of-result c =
    let cell_nets = c.args.cell_nets.now in
    let none = c.in_ok-chip_of.ensures.items in
    let frees : c.in_ok-freed.freed.counts.items ≡ replicate (length cell_nets.of_cells.items) 0 = c.in_ok-freed.ensures ∙ ap (λ (many : ℕ). replicate many 0) c.cells-cells.ensures in
    let nodes : length c.loop-chip.loads.items ≡ c.args.board.now.chips + 1 = omega (arith, c.loop-chip.invariant.1, c.chips-chip-end.ensures) in
    let empty = λ (chip : ℕ) (default : Load) (low : chip ≤ c.args.board.now.chips). c.loop-chip.invariant.0 chip default (omega (arith, nodes, low)) in
    record {
      is = record {
        few = omega (arith, ap (λ (chips : List ℕ). length chips) none);
        chips = rw none (All-nil (IsChip c.args.board.now));
        room = λ chip. rw none (omega arith);
        nodes = nodes;
        held = λ chip default low. rw none (empty_load cell_nets chip (get_or c.loop-chip.loads.items chip default) (empty chip default low));
      };
      gains = λ chip default low. rw none (empty_gains cell_nets chip (get_or c.loop-chip.loads.items chip default) c.in_ok-freed.freed.counts.items (empty chip default low) frees);
    }
