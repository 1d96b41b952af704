use Rattle.std.proofs.Common.{◌≡◌, ◌∙◌, length, arith}
use Rattle.vw_design.specs.Preorder.{sites, paths_of}
use Rattle.vw_design.specs.Limits.{binding_weight}
use Rattle.vw_design.specs.Counts.{placed_one, cell_one, weight_of_root, height_of_root}
use Rattle.vw_design.proofs.Weights.{design_weighs, instances_weigh, cells_weigh}
use Rattle.vw_design.proofs.Heights.{design_reaches}
use Rattle.vw_design.proofs.laws.counts.counts_are_weights.Goals as goal

-- level by level, and in an instance item by item
pub returns-clause-instances : goal.returns-clause-instances
unfolding weight_of_root
returns-clause-instances c = λ design root is.
    let weighs : length (paths_of (sites design)) ≡ weight_of_root design placed_one root.name = instances_weigh (sites design) ∙ design_weighs design placed_one root is in
    omega (arith, weighs)

pub returns-clause-bindings : goal.returns-clause-bindings
unfolding weight_of_root
returns-clause-bindings c = λ design root is. design_weighs design binding_weight root is

pub returns-clause-cells : goal.returns-clause-cells
unfolding weight_of_root
returns-clause-cells c = λ design root is. cells_weigh (sites design) ∙ design_weighs design cell_one root is

pub returns-clause-depth : goal.returns-clause-depth
unfolding height_of_root
returns-clause-depth c = λ design root is. design_reaches design root is
