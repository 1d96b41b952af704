use Rattle.std.proofs.Common.{◌≡◌, List, ℕ, eqb, subst, sym}
use Rattle.std.specs.List.{dedup}
use Rattle.std.proofs.lemmas.List.Filters.{dedup_is}
use Rattle.vw_part.specs.Steps.CellNets.{AreNetsOf}
use Rattle.vw_part.proofs.CellNets.{kept_once}
use Rattle.vw_part.proofs.cell_nets.nets_of_cell.Goals as goal

-- sorted, and each kept once
pub returns : goal.returns
returns c =
    let once : c.dedup.new.self.items ≡ dedup eqb c.sort.new.self.items = dedup_is eqb c.sort.new.self.items c.dedup.new.self.items c.dedup.ensures.filtered in
    subst (λ (nets : List ℕ). AreNetsOf c.args.own c.args.cell.now nets) (sym c.of.ensures) (kept_once c.args.own c.args.cell.now c.in_ok-nets.nets.items c.push.new.self.items c.sort.new.self.items c.dedup.new.self.items c.in_ok-nets.ensures c.in_ok-push.ensures.items c.in_ok-sort.ensures.permutation c.in_ok-sort.ensures.sorted once)
