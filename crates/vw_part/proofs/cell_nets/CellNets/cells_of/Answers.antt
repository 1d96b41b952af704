use Rattle.std.proofs.Common.{◌≡◌, ◌∙◌, List, ℕ, ap, sym, subst}
use Rattle.std.specs.Global.{Vec}
use Rattle.vw_part.specs.Steps.CellNets.{AreCellsOf}
use Rattle.vw_part.proofs.cell_nets.CellNets.cells_of.Goals as goal

-- they are those that stand at the net's number
pub returns : goal.returns
returns c =
    let listed = c.index.result.now in
    let found = ap (λ (cells : Vec ℕ). cells.items) c.index.ensures in
    let same : c.as_slice.result.now ≡ listed.items = c.as_slice.ensures.value in
    subst (λ (cells : List ℕ). AreCellsOf c.args.self.now.of_cells.items c.args.net cells) (sym (same ∙ found)) (c.args.self.now.turned.each c.args.net listed c.requires)
