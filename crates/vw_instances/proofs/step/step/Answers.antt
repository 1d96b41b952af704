use Rattle.std.proofs.Common.{◌∙◌, sym}
use Rattle.vw_instances.proofs.ListedCounts.{are_small}
use Rattle.vw_instances.proofs.StepCases.{ends, cell_step, cell_falls, instance_step, instance_falls}
use Rattle.vw_instances.proofs.step.step.Goals as goal

pub list_cell-requires : goal.list_cell-requires
list_cell-requires c = let small = are_small _ c.requires.small _ _ _ _ c.requires.walk in small.item

pub place-requires-clause-item : goal.place-requires-clause-item
place-requires-clause-item c = let small = are_small _ c.requires.small _ _ _ _ c.requires.walk in small.item

pub place-requires-clause-before : goal.place-requires-clause-before
place-requires-clause-before c = let small = are_small _ c.requires.small _ _ _ _ c.requires.walk in small.before

pub place-requires-clause-cells : goal.place-requires-clause-cells
place-requires-clause-cells c = let small = are_small _ c.requires.small _ _ _ _ c.requires.walk in small.cells

pub returns-in-End-clause-walk : goal.returns-in-End-clause-walk
returns-in-End-clause-walk c = ends _ _ c.args.targets.now.are c.requires.models_known c.requires.small _ _ _ _ c.requires.walk (sym c.coming.ensures ∙ c.in-End.is)

pub returns-in-Cell-clause-walk : goal.returns-in-Cell-clause-walk
returns-in-Cell-clause-walk c =
    cell_step _ _ c.args.targets.now.are c.requires.models_known c.requires.small _ _ _ _ c.requires.walk _ _ _ _ (sym c.coming.ensures ∙ c.in-Cell.is) c.list_cell.ensures.instances c.list_cell.ensures.cells
    c.list_cell.ensures.frames

pub returns-in-Cell-clause-falls : goal.returns-in-Cell-clause-falls
returns-in-Cell-clause-falls c =
    cell_falls _ _ c.args.targets.now.are c.requires.models_known c.requires.small _ _ _ _ c.requires.walk c.list_cell.result _ _ _ (returns-in-Cell-clause-walk c) c.list_cell.ensures.instances c.list_cell.ensures.cells
    c.list_cell.ensures.frames

pub returns-in-Place-clause-walk : goal.returns-in-Place-clause-walk
returns-in-Place-clause-walk c =
    instance_step _ _ c.args.targets.now.are c.requires.models_known c.requires.small _ _ _ _ c.requires.walk _ _ _ _ c.in-Place.model (sym c.coming.ensures ∙ c.in-Place.is) c.place.ensures.cells c.place.ensures.instances
    c.place.ensures.frames

pub returns-in-Place-clause-falls : goal.returns-in-Place-clause-falls
returns-in-Place-clause-falls c =
    instance_falls _ _ c.args.targets.now.are c.requires.models_known c.requires.small _ _ _ _ c.requires.walk c.place.result _ _ _ c.in-Place.model (returns-in-Place-clause-walk c) c.place.ensures.cells c.place.ensures.instances
    c.place.ensures.frames
