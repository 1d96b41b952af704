-- each node has its latches among the cells so far
use Rattle.std.proofs.Common.{◌≡◌, ◌<◌, ◌&&◌, ℕ, suc, [], length, get_or, map, take, eqb}
use Rattle.std.specs.List.{filter, range_with_len}
use Rattle.vw_net.specs.Cells.{latch_count}
use Rattle.vw_net.specs.Order.{is_latch}
use Rattle.vw_plan.specs.Nets.{driving_cell}
use Rattle.vw_plan.specs.PlannedBoard.{home, planned_board}
use Rattle.vw_prog.specs.Coding.{own_latch, owned_of}
use Rattle.vw_prog.proofs.owners.owned_latches.Given as goal

abbrev pub invariant-loop-number : goal.invariant-loop-number
invariant-loop-number l =
    let planned = planned_board l.checked.ordered l.checked.board l.checked.plan in
    let flat = l.checked.ordered.flat in
    record {
      count : length (owned_of l.lists.items) ≡ suc l.checked.board.chips;
      latches : l.latches ≡ latch_count (take l.number flat.cells);
      each : (node : ℕ) → node < suc l.checked.board.chips → get_or (owned_of l.lists.items) node []
          ≡ map (own_latch flat) (filter (λ net. is_latch (driving_cell flat net) && eqb (home planned net) node) (range_with_len flat.inputs l.number));
    }
