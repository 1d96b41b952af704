-- Values of nets at levels: the case in which each net is found as it is.
use Rattle.std.proofs.Common.{◌≡◌, ◌≤◌, ◌+◌, ◌-◌, ℕ, zero, suc, Bool, true, false, List, length, take, map, slice_get, slice_index_or, nat_lt, if◌then◌else◌, ap, refl, sym, ◌∙◌, Some}
use Rattle.std.proofs.Math.Path.{fun_ext}
use Rattle.vw_net.specs.declared.cell.Cell.TheVariants.{Gate}
use Rattle.vw_net.specs.declared.cover.Cover.{Cover}
use Rattle.vw_net.specs.declared.flat.Flat.{Flat}
use Rattle.vw_net.specs.Cells.{latch_count}
use Rattle.vw_net.specs.Cover.{cover_value}
use Rattle.vw_net.specs.FoundValue.{found_level, found_value, as_it_is}
use Rattle.vw_net.specs.Order.{IsOrder, is_latch}
use Rattle.vw_net.specs.Value.{driven_value, level_value, net_value}
use Rattle.vw_net.proofs.FoundLevels.{found_level-past_cells, found_value-gate, found_value-input, found_value-latch}

module _ (flat : Flat) (row state : List Bool) where
  -- where each net is found as it is, what is found is its value
  pub plain_level : (level net : ℕ) → found_level as_it_is level flat row state net ≡ level_value level flat row state net
  plain_level zero net = refl
  plain_level (suc level) net =
      let number = net - flat.inputs in
      ap (λ (value : ℕ → Bool). if nat_lt net flat.inputs then slice_index_or row net false else driven_value value state (latch_count (take number flat.cells)) (slice_get flat.cells number)) (fun_ext (plain_level level))

  pub plain_value : (net : ℕ) → found_value as_it_is flat row state net ≡ net_value flat row state net
  unfolding found_value net_value
  plain_value net = plain_level (length flat.cells + 1) net

  -- the value of an input's net
  pub net_value-input : (net : ℕ) → nat_lt net flat.inputs ≡ true → net_value flat row state net ≡ slice_index_or row net false
  net_value-input net input = sym (plain_value net) ∙ found_value-input as_it_is flat row state net input

  -- the value of a latch's net
  pub net_value-latch : (number : ℕ) → is_latch (slice_get flat.cells number) ≡ true → net_value flat row state (flat.inputs + number) ≡ slice_index_or state (latch_count (take number flat.cells)) false
  net_value-latch number latch = sym (plain_value (flat.inputs + number)) ∙ found_value-latch as_it_is flat row state number latch

module _ (flat : Flat) (order : List ℕ) (is_order : IsOrder flat.inputs flat.cells order) (row state : List Bool) where
  -- following more drivers in a row than there are cells changes no value
  pub level_value-past_cells : (level net : ℕ) → length flat.cells + 1 ≤ level → level_value level flat row state net ≡ net_value flat row state net
  level_value-past_cells level net past =
      sym (plain_level flat row state level net) ∙ found_level-past_cells as_it_is flat order is_order row state level net past ∙ plain_value flat row state net

  -- a gate's net has its table's value of the values of the nets that it reads
  pub net_value-gate : (number : ℕ) (ins : List ℕ) (cover : Cover) → slice_get flat.cells number ≡ Some (Gate ins cover) → net_value flat row state (flat.inputs + number) ≡ cover_value cover (map (net_value flat row state) ins)
  net_value-gate number ins cover gate =
      sym (plain_value flat row state (flat.inputs + number)) ∙ found_value-gate as_it_is flat order is_order row state number ins cover gate
      ∙ ap (λ (value : ℕ → Bool). cover_value cover (map value ins)) (fun_ext (plain_value flat row state))
