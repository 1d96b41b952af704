use Rattle.std.proofs.Common.{[], arith}
use Rattle.vw_design.proofs.Sizes.{few_columns}
use Rattle.vw_design.specs.Clocks.{inputs_of, columns}
use Rattle.vw_design.specs.Paths.{model_at}
use Rattle.vw_elab.proofs.PortColumns.{columns_count}
use Rattle.vw_elab.proofs.elaborated.Elaborated.columns.Goals as goal

-- the columns are within the limit of inputs
pub overflow_cast-result : goal.overflow_cast-result
overflow_cast-result c =
    let design = c.self.inside.design in
    let numbers = c.self.inside.columns in
    let counted = columns_count (inputs_of (model_at design [])) (columns design) numbers.inputs c.self.invariant.columns.inputs in
    omega (arith, c.len.ensures, counted, few_columns design, c.self.invariant.accepted.models.small.inputs)
