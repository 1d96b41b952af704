-- The quantities of a design, from the counts of its root.
use Rattle.std.proofs.Common.{◌≡◌, ◌<◌, ◌+◌, ℕ, suc, min, true, List, [], ◌∷◌, length, filter, not, nat_lt, Option, Some, slice_index_or, sym, ◌∙◌, ap, arith}
use Rattle.std.proofs.lemmas.Bool.{ltb-true, lt-ltb}
use Rattle.std.specs.Cmp.{both_ways}
use Rattle.vw_design.specs.declared.item.Item.{Item}
use Rattle.vw_design.specs.declared.model.Model.{Model}
use Rattle.vw_design.specs.declared.design.Design.{Design}
use Rattle.vw_design.specs.Distinct.{has_name}
use Rattle.vw_design.specs.Limits.{Counted, inputs, outputs, placed, bindings, gates_and_latches, levels, limit_of, count_of, too_big, input_count, output_count, instance_count, binding_count, cell_count, greatest_depth, binding_weight}
use Rattle.vw_design.specs.Counts.{placed_one, cell_one, items_weight, model_weight}
use Rattle.vw_design.specs.Paths.{Word, model_at, model_named, items_of, model_outputs}
use Rattle.vw_design.specs.ModelFaults.{is_reached}
use Rattle.vw_design.specs.Clocks.{inputs_of, clocks_of}
use Rattle.vw_design.specs.Preorder.{sites, paths_of}
use Rattle.vw_design.proofs.ReachedFromRoot.{reached_at}
use Rattle.vw_design.proofs.Heights.{design_reaches}
use Rattle.vw_design.proofs.Weights.{design_weighs, instances_weigh, cells_weigh, capped_weight, heights}
use Rattle.vw_design.proofs.ModelNumbers.{place_of_model}
use Rattle.vw_design.proofs.FilteredLists.{find_same}
use Rattle.vw_instances.specs.declared.measure.Measure.TheVariants.{Instances, Bindings, Cells, Levels}
use Rattle.vw_instances.specs.declared.totals.QuantityTotals.{QuantityTotals}
use Rattle.vw_instances.specs.Steps.Counting.{most, count_in, AreCounts, IsRanked}
use Rattle.vw_instances.specs.Steps.Quantified.{total_of, first_above, AreTotals}
use Rattle.vw_instances.proofs.RootCounts.{exact_levels}

module _ (design : Design) (root : Model) (is : model_at design [] ≡ Some root) (ranked : IsRanked design) where
  reached : is_reached design root.name ≡ true
  reached = reached_at design [] root is

  deep : ranked.rank root.name < 65 + length design.models
  deep = omega (arith, ranked.low root.name reached)

  at_root : (counts : List ℕ) (found : ℕ) → found ≡ slice_index_or counts 0 0 → found ≡ count_in design counts root.name
  at_root counts found same = same ∙ ap (λ (n : ℕ). slice_index_or counts n 0) (sym (place_of_model design 0 root is))

  weighs : (weight : Item → ℕ) (counts : List ℕ) → ((name : Word) → is_reached design name ≡ true → count_in design counts name ≡ min most (items_weight weight (count_in design counts) (items_of (model_named design.models name))))
      → count_in design counts root.name ≡ min most (model_weight design weight (65 + length design.models) root.name)
  weighs weight counts counted = capped_weight design (is_reached design) ranked.rank ranked.ranking weight most (count_in design counts) counted (65 + length design.models) root.name reached deep

  pub instances_are : (counts : List ℕ) → AreCounts design Instances counts → (found : ℕ) → found ≡ slice_index_or counts 0 0 → 1 + found ≡ min (suc most) (instance_count design)
  instances_are counts are found same =
      let all : length (paths_of (sites design)) ≡ model_weight design placed_one (65 + length design.models) root.name = instances_weigh (sites design) ∙ design_weighs design placed_one root is in
      omega (arith, all, at_root counts found same, weighs placed_one counts are.counted)

  pub bindings_are : (counts : List ℕ) → AreCounts design Bindings counts → (found : ℕ) → found ≡ slice_index_or counts 0 0 → found ≡ min most (binding_count design)
  bindings_are counts are found same = at_root counts found same ∙ weighs binding_weight counts are.counted ∙ ap (min most) (sym (design_weighs design binding_weight root is))

  pub cells_are : (counts : List ℕ) → AreCounts design Cells counts → (found : ℕ) → found ≡ slice_index_or counts 0 0 → found ≡ min most (cell_count design)
  cells_are counts are found same = at_root counts found same ∙ weighs cell_one counts are.counted ∙ ap (min most) (sym (cells_weigh (sites design) ∙ design_weighs design cell_one root is))

  pub depth_is : (counts : List ℕ) → AreCounts design Levels counts → (found : ℕ) → found ≡ slice_index_or counts 0 0 → 1 + found ≡ greatest_depth design
  depth_is counts are found same =
      let high = heights design (is_reached design) ranked.rank ranked.ranking (count_in design counts) (exact_levels design counts are ranked) (65 + length design.models) root.name reached deep in
      ap (λ (n : ℕ). 1 + n) (at_root counts found same ∙ high) ∙ sym (design_reaches design root is)

  pub inputs_are : (found : ℕ) → found ≡ length (filter (λ name. not (has_name root.clocks name)) root.inputs) → found ≡ input_count design
  inputs_are found same = same ∙ sym (ap (λ (m : Option Model). length (filter (λ (name : Word). not (has_name (clocks_of m) name)) (inputs_of m))) is)

  pub outputs_are : (found : List Word) → found ≡ root.outputs → length found ≡ output_count design
  outputs_are found same = ap (λ (l : List Word). length l) same ∙ sym (ap (λ (m : Option Model). length (model_outputs m)) is)

-- a count with an end is above a limit below that end where the count is
above_same : (limit end count : ℕ) → limit < end → nat_lt limit (min end count) ≡ nat_lt limit count
above_same limit end count low = both_ways (nat_lt limit (min end count)) (nat_lt limit count)
    (λ there. lt-ltb limit count (omega (arith, ltb-true limit (min end count) there)))
    (λ back. lt-ltb limit (min end count) (omega (arith, low, ltb-true limit count back)))

module _ (design : Design) (totals : QuantityTotals) (are : AreTotals design totals) where
  each_same : (counted : Counted) → nat_lt (limit_of counted) (total_of totals counted) ≡ nat_lt (limit_of counted) (count_of design counted)
  each_same inputs = ap (nat_lt 4096) are.inputs
  each_same outputs = ap (nat_lt 4096) are.outputs
  each_same placed = ap (nat_lt 65536) are.instances ∙ above_same 65536 (suc most) (instance_count design) (omega arith)
  each_same bindings = ap (nat_lt 1048576) are.bindings ∙ above_same 1048576 most (binding_count design) (omega arith)
  each_same gates_and_latches = ap (nat_lt 65536) are.cells ∙ above_same 65536 most (cell_count design) (omega arith)
  each_same levels = ap (nat_lt 64) are.depth

  pub first_is : first_above totals ≡ too_big design
  first_is = find_same (λ (counted : Counted). nat_lt (limit_of counted) (total_of totals counted)) (λ (counted : Counted). nat_lt (limit_of counted) (count_of design counted)) each_same
      (inputs ∷ outputs ∷ placed ∷ bindings ∷ gates_and_latches ∷ levels ∷ [])
