-- How large a design is, over all its instances, and the limits of that. The limits are this project's choice.
use Rattle.std.specs.Prelude.{ℕ, zero, ◌+◌, ◌≤◌, not, List, [], ◌∷◌, length, map, filter, find, Option, nat_lt}
use Rattle.vw_design.specs.declared.item.Item.{Item}
use Rattle.vw_design.specs.declared.item.Item.TheVariants.{Names, Latch, Sub}
use Rattle.vw_design.specs.declared.design.Design.{Design}
use Rattle.vw_design.specs.Distinct.{has_name}
use Rattle.vw_net.specs.Lists.{greatest}
use Rattle.vw_design.specs.Paths.{Path, model_at, model_outputs}
use Rattle.vw_design.specs.Preorder.{Site, sites, instances, cells}
use Rattle.vw_design.specs.Clocks.{inputs_of, clocks_of}
use Rattle.vw_net.specs.declared.limits.TheConstants.{MOST_INPUTS, MOST_CELLS, MOST_DESIGN_OUTPUTS}
use Rattle.vw_design.specs.declared.limits.TheConstants.{MOST_INSTANCES, MOST_BINDINGS, MOST_DEPTH}

-- the number of inputs of the root that it doesn't declare as clocks
abbrev pub input_count : Design → ℕ
input_count design = length (filter (λ name. not (has_name (clocks_of (model_at design [])) name)) (inputs_of (model_at design [])))

-- the number of outputs of the root
abbrev pub output_count : Design → ℕ
output_count design = length (model_outputs (model_at design []))

-- the number of instances, the root counted
abbrev pub instance_count : Design → ℕ
instance_count design = length (instances design)

-- the sum over all sites of what an item weighs
abbrev pub weight_of : (Item → ℕ) → List Site → ℕ
weight_of weight [] = zero
weight_of weight (site ∷ list) = weight site.item + weight_of weight list

-- the number of bindings of an item
abbrev pub binding_weight : Item → ℕ
binding_weight (Names line ins out cover) = 0
binding_weight (Latch line d q edge control init) = 0
binding_weight (Sub line model binds) = length binds

-- the number of bindings of all placed models, over all instances
abbrev pub binding_count : Design → ℕ
binding_count design = weight_of binding_weight (sites design)

-- the number of gates and latches, over all instances
abbrev pub cell_count : Design → ℕ
cell_count design = length (cells design)

-- the depth of an instance, the root being 1
abbrev pub depth_at : Path → ℕ
depth_at path = length path + 1

-- how deep the deepest instance lies
abbrev pub greatest_depth : Design → ℕ
greatest_depth design = greatest (map depth_at (instances design))

-- no quantity is above its limit
pub record IsSmall (design : Design) : Type 0 where
  pub inputs : input_count design ≤ MOST_INPUTS
  pub outputs : output_count design ≤ MOST_DESIGN_OUTPUTS
  pub instances : instance_count design ≤ MOST_INSTANCES
  pub bindings : binding_count design ≤ MOST_BINDINGS
  pub cells : cell_count design ≤ MOST_CELLS
  pub depth : greatest_depth design ≤ MOST_DEPTH

-- the quantities with a limit
pub data Counted : Type 0 where
  inputs : Counted
  outputs : Counted
  placed : Counted
  bindings : Counted
  gates_and_latches : Counted
  levels : Counted

abbrev pub count_of : Design → Counted → ℕ
count_of design inputs = input_count design
count_of design outputs = output_count design
count_of design placed = instance_count design
count_of design bindings = binding_count design
count_of design gates_and_latches = cell_count design
count_of design levels = greatest_depth design

abbrev pub limit_of : Counted → ℕ
limit_of inputs = MOST_INPUTS
limit_of outputs = MOST_DESIGN_OUTPUTS
limit_of placed = MOST_INSTANCES
limit_of bindings = MOST_BINDINGS
limit_of gates_and_latches = MOST_CELLS
limit_of levels = MOST_DEPTH

-- 18: the first quantity above its limit
abbrev pub too_big : Design → Option Counted
too_big design = find (λ counted. nat_lt (limit_of counted) (count_of design counted)) (inputs ∷ outputs ∷ placed ∷ bindings ∷ gates_and_latches ∷ levels ∷ [])
