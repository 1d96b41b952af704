-- The quantities of a design as they are counted, with an end.
use Rattle.std.specs.Prelude.{◌≡◌, ℕ, suc, min, [], ◌∷◌, find, nat_lt, Option}
use Rattle.vw_design.specs.declared.design.Design.{Design}
use Rattle.vw_design.specs.Limits.{Counted, inputs, outputs, placed, bindings, gates_and_latches, levels, limit_of, input_count, output_count, instance_count, binding_count, cell_count, greatest_depth}
use Rattle.vw_instances.specs.declared.totals.QuantityTotals.{QuantityTotals}
use Rattle.vw_instances.specs.Steps.Counting.{most}

-- one of them
abbrev pub total_of : QuantityTotals → Counted → ℕ
total_of totals inputs = totals.inputs
total_of totals outputs = totals.outputs
total_of totals placed = totals.instances
total_of totals bindings = totals.bindings
total_of totals gates_and_latches = totals.cells
total_of totals levels = totals.depth

-- the first that is above its limit
abbrev pub first_above : QuantityTotals → Option Counted
first_above totals = find (λ counted. nat_lt (limit_of counted) (total_of totals counted)) (inputs ∷ outputs ∷ placed ∷ bindings ∷ gates_and_latches ∷ levels ∷ [])

-- they are those of the design; the depth has no end, since there are fewer than 2 ^ 32 models
pub record AreTotals (design : Design) (totals : QuantityTotals) : Type 0 where
  pub inputs : totals.inputs ≡ input_count design
  pub outputs : totals.outputs ≡ output_count design
  pub instances : totals.instances ≡ min (suc most) (instance_count design)
  pub bindings : totals.bindings ≡ min most (binding_count design)
  pub cells : totals.cells ≡ min most (cell_count design)
  pub depth : totals.depth ≡ greatest_depth design
