-- The models of a design as numbers that read each other: each reads those that it places.
use Rattle.std.specs.Prelude.{◌==◌, [], length, slice_get, slice_index_or}
use Rattle.vw_design.specs.declared.design.Design.{Design}
use Rattle.vw_design.specs.ModelNumbers.{is_reached_model}
use Rattle.vw_order.specs.Graphs.{Graph}
use Rattle.vw_models.specs.Steps.Reach.{Targets}

-- the root has to be reached, and the reached models count
abbrev pub graph_of_models : Design → Targets → Graph
graph_of_models design targets = record {
  count = length design.models;
  starts = λ number. number == 0;
  counts = λ number. is_reached_model design (slice_get design.models number);
  reads = λ number. slice_index_or targets number [];
}
