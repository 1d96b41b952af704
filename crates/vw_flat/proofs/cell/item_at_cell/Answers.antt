use Rattle.std.proofs.Common.{◌∙◌, ap}
use Rattle.std.proofs.lemmas.Option.{slice_get_within}
use Rattle.vw_design.specs.declared.design.Design.{Design}
use Rattle.vw_design.specs.Preorder.{instances}
use Rattle.vw_flat.proofs.Items.{IsModelAt, cell_is, item_read}
use Rattle.vw_flat.proofs.cell.item_at_cell.Goals.{After-models}
use Rattle.vw_flat.proofs.cell.item_at_cell.Goals as goal

-- the instance of the cell
pub instance-instance-requires : goal.instance-instance-requires
instance-instance-requires c =
    let is = cell_is c.args.elaborated.now c.args.cell c.requires in
    slice_get_within (instances c.args.elaborated.now) c.site-site.result.instance is.site.path (c.site-site.ensures is.site is.at).instance_is

-- its model
read : (c : After-models) → IsModelAt c.args.elaborated.now c.args.cell c.site-site.result c.instance-instance.result.model c.models.result.now
read c =
    item_read c.args.elaborated.now c.args.cell c.requires c.site-site.result c.site-site.ensures c.instance-instance.result c.instance-instance.ensures c.models.result.now
    (c.models.ensures ∙ ap (λ (d : Design). d.models) c.design.ensures)

pub bounds-models-instance : goal.bounds-models-instance
bounds-models-instance c = (read (goal.at.bounds-models-instance c).After-models).within

-- the item there
pub bounds-items-site : goal.bounds-items-site
bounds-items-site c =
    ((read (goal.at.bounds-items-site c).After-models).items c.index-models-instance.result c.index-models-instance.is c.items.result.now c.items.ensures).within

pub returns : goal.returns
returns c =
    ((read (goal.at.returns c).After-models).items c.index-models-instance.result c.index-models-instance.is c.items.result.now c.items.ensures).same c.index-items-site.result c.index-items-site.is
