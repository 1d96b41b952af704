use Rattle.std.proofs.Common.{◌≡◌, ◌<◌, ◌+◌, ◌∙◌, ℕ, List, [], length, get_or, ap, arith}
use Rattle.std.proofs.lemmas.List.{get_or_default}
use Rattle.vw_part.specs.Steps.CellNets.{times_among}
use Rattle.vw_part.proofs.NetCells.{all_turned, more_cells}
use Rattle.vw_part.proofs.Shares.{at}
use Rattle.vw_part.proofs.net_cells.NetCells.of.Goals as goal

-- one more cell is listed
pub loop-cell-preserved : goal.loop-cell-preserved
loop-cell-preserved c =
    let of_cells = c.args.of_cells.now in
    let many = c.loop-cell.cell in
    let within : many < length of_cells = omega arith in
    let own : c.as_slice.result.now ≡ get_or of_cells many [] = c.as_slice.ensures ∙ c.index-of_cells-cell.is ∙ get_or_default of_cells many c.index-of_cells-cell.result [] within in
    record {
      long = c.in_ok-list.ensures.long ∙ c.loop-cell.invariant.long;
      turned = λ net default cell below.
          let more = c.in_ok-list.ensures.each net default cell (omega (arith, c.loop-cell.invariant.long, below)) in
          more_cells (λ other. times_among (get_or of_cells other []) net) many cell _ _ (c.loop-cell.invariant.turned net default cell below) (more ∙ ap (λ (nets : List ℕ). times_among (get_or c.loop-cell.net_cells.of_nets.items net default).items cell + at many (times_among nets net) cell) own);
    }

pub returns : goal.returns
returns c = record {
  long = c.loop-cell.invariant.long;
  each = λ net default below. all_turned c.args.of_cells.now net c.loop-cell.cell _ (omega arith) (λ cell. c.loop-cell.invariant.turned net default cell below);
}
