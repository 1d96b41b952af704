use Rattle.std.proofs.Common.{◌≡◌, sym, ◌∙◌, ap, arith}
use Rattle.vw_design.specs.Limits.{cell_count}
use Rattle.vw_design.specs.Preorder.{instances, cells}
use Rattle.vw_design.proofs.PairedLists.{AllZip-length}
use Rattle.vw_instances.specs.Tables.{IsCellSite}
use Rattle.vw_elab.proofs.elaborated.Elaborated.cells.Goals as goal

-- there are as many entries as cells, which are within the limit
counted : (c : goal.After-len) → c.len.result ≡ cell_count c.args.self.now
counted c =
    let design = c.self.inside.design in
    c.len.ensures ∙ sym (AllZip-length (IsCellSite (instances design)) (cells design) c.self.inside.parts.cells c.self.invariant.parts.cells) ∙ ap cell_count c.self.view_is

pub overflow_cast-result : goal.overflow_cast-result
overflow_cast-result c = omega (arith, counted c, c.self.invariant.accepted.models.small.cells, ap cell_count c.self.view_is)

pub returns : goal.returns
returns c = counted c
