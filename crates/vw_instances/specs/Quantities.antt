-- Quantities with a limit, and what they are called.
use Rattle.std.specs.Prelude.{ℕ, List, codes}
use Rattle.vw_design.specs.Limits.{Counted, inputs, outputs, placed, bindings, gates_and_latches, levels}
use Rattle.vw_instances.specs.declared.quantity.Quantity.{Quantity}
use Rattle.vw_instances.specs.declared.quantity.Quantity.TheVariants.{Inputs, Outputs, Instances, Bindings, Cells, Depth}

-- which of the quantities of a design it is
abbrev pub counted_of : Quantity → Counted
counted_of Inputs = inputs
counted_of Outputs = outputs
counted_of Instances = placed
counted_of Bindings = bindings
counted_of Cells = gates_and_latches
counted_of Depth = levels

-- its word in messages
abbrev pub quantity_word : Quantity → List ℕ
quantity_word Inputs = codes "inputs"
quantity_word Outputs = codes "outputs"
quantity_word Instances = codes "instances"
quantity_word Bindings = codes "bindings"
quantity_word Cells = codes "cells"
quantity_word Depth = codes "depth"
