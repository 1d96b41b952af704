-- The values of nets in a clock of a job, from those in the clock before it.
use Rattle.std.proofs.Common.{◌≡◌, ◌<◌, ◌+◌, ◌-◌, ◌∷◌, ℕ, zero, suc, Bool, true, false, List, [], length, map, take, nat_lt, slice_get, slice_index_or, if◌then◌else◌, ap, refl, ◌∙◌, Some, None, arith}
use Rattle.vw_net.specs.declared.cell.Cell.{Cell}
use Rattle.vw_net.specs.declared.cell.Cell.TheVariants.{Gate, Latch}
use Rattle.vw_net.specs.declared.cell.Init.{Init}
use Rattle.vw_net.specs.declared.cover.Cover.{Cover}
use Rattle.vw_net.specs.declared.flat.Flat.{Flat}
use Rattle.vw_net.specs.Cells.{latch_count, latch_inputs}
use Rattle.vw_net.specs.Cover.{cover_value}
use Rattle.vw_net.specs.History.{next_state, state_after}
use Rattle.vw_net.specs.Value.{driven_value, level_value, net_value}
use Rattle.vw_net.proofs.Levels.{net_value-gate}
use Rattle.vw_plan.specs.Nets.{driving_cell}
use Rattle.vw_prog.specs.declared.job.Job.{Job}
use Rattle.vw_prog.specs.Scripts.{state_at, value_at}

-- the bit that the step before gave a latch
latch_next : (f : ℕ → Bool) (cells : List Cell) (number d : ℕ) (init : Init) → slice_get cells number ≡ Some (Latch d init)
    → slice_index_or (map f (latch_inputs cells)) (latch_count (take number cells)) false ≡ f d
latch_next f [] number d init is = cc
latch_next f (Gate ins cover ∷ cells) zero d init is = cc
latch_next f (Latch own first ∷ cells) zero d init is = let same : own ≡ d = cc in ap f same
latch_next f (Gate ins cover ∷ cells) (suc number) d init is = latch_next f cells number d init is
latch_next f (Latch own first ∷ cells) (suc number) d init is = latch_next f cells number d init is

-- the state after one row more
state_more : (flat : Flat) (state : List Bool) (rows : List (List Bool)) (clock : ℕ) → clock < length rows
    → state_after flat state (take (suc clock) rows) ≡ next_state flat (slice_index_or rows clock []) (state_after flat state (take clock rows))
state_more flat state [] clock within = absurd (omega (arith, within))
state_more flat state (row ∷ rows) zero within = refl
state_more flat state (row ∷ rows) (suc clock) within = state_more flat (next_state flat row state) rows clock (omega (arith, within))

module _ (job : Job) where
  abbrev flat : Flat
  flat = job.checked.ordered.flat

  -- an input has its bit of the row
  pub value-input : (clock net : ℕ) → nat_lt net flat.inputs ≡ true → value_at job clock net ≡ slice_index_or (slice_index_or job.rows clock []) net false
  unfolding value_at net_value
  value-input clock net input =
      let level : length flat.cells + 1 ≡ suc (length flat.cells) = omega arith in
      ap (λ (many : ℕ). level_value many flat (slice_index_or job.rows clock []) (state_at job clock) net) level
      ∙ ap (λ (is : Bool). if is then slice_index_or (slice_index_or job.rows clock []) net false else driven_value (level_value (length flat.cells) flat (slice_index_or job.rows clock []) (state_at job clock)) (state_at job clock) (latch_count (take (net - flat.inputs) flat.cells)) (slice_get flat.cells (net - flat.inputs))) input

  -- a latch has its bit of the state
  pub value-latch : (clock net d : ℕ) (init : Init) → driving_cell flat net ≡ Some (Latch d init)
      → value_at job clock net ≡ slice_index_or (state_at job clock) (latch_count (take (net - flat.inputs) flat.cells)) false
  unfolding value_at net_value
  value-latch clock net d init is =
      let level : length flat.cells + 1 ≡ suc (length flat.cells) = omega arith in
      let row = slice_index_or job.rows clock [] in
      let state = state_at job clock in
      let number = latch_count (take (net - flat.inputs) flat.cells) in
      let value = level_value (length flat.cells) flat row state in
      ap (λ (many : ℕ). level_value many flat row state net) level ∙ by row state number value (nat_lt net flat.inputs) is where
        by : (row state : List Bool) (number : ℕ) (value : ℕ → Bool) (input : Bool)
            → (if input then None else slice_get flat.cells (net - flat.inputs)) ≡ Some (Latch d init)
            → (if input then slice_index_or row net false else driven_value value state number (slice_get flat.cells (net - flat.inputs))) ≡ slice_index_or state number false
        by row state number value true at = cc
        by row state number value false at = ap (driven_value value state number) at

  -- and after a step the value that its input had before
  pub value-stepped : (clock net d : ℕ) (init : Init) → driving_cell flat net ≡ Some (Latch d init) → clock < length job.rows
      → value_at job (clock + 1) net ≡ value_at job clock d
  unfolding value_at
  value-stepped clock net d init is within =
      let later : clock + 1 ≡ suc clock = omega arith in
      let number = net - flat.inputs in
      value-latch (clock + 1) net d init is
      ∙ ap (λ (state : List Bool). slice_index_or state (latch_count (take number flat.cells)) false) (ap (λ (many : ℕ). state_at job many) later ∙ state_more flat job.start job.rows clock within)
      ∙ latch_next (net_value flat (slice_index_or job.rows clock []) (state_at job clock)) flat.cells number d init (cell (nat_lt net flat.inputs) is) where
        cell : (input : Bool) → (if input then None else slice_get flat.cells (net - flat.inputs)) ≡ Some (Latch d init)
            → slice_get flat.cells (net - flat.inputs) ≡ Some (Latch d init)
        cell true at = cc
        cell false at = at

  -- a gate has its table's value
  pub value-gate : (clock gate : ℕ) (ins : List ℕ) (cover : Cover) → slice_get flat.cells gate ≡ Some (Gate ins cover)
      → value_at job clock (flat.inputs + gate) ≡ cover_value cover (map (value_at job clock) ins)
  unfolding value_at
  value-gate clock gate ins cover is = net_value-gate job.checked.ordered.flat job.checked.ordered.order job.checked.ordered.is_order (slice_index_or job.rows clock []) (state_at job clock) gate ins cover is
