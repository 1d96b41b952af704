-- The nets that latches take, and what they take.
use Rattle.std.proofs.Common.{◌≡◌, ◌<◌, ◌+◌, ℕ, zero, suc, Bool, false, List, [], ◌∷◌, length, take, map, slice_get, slice_index_or, Some, ap, refl, All}
use Rattle.std.proofs.lemmas.List.Elements.{All-cons, All-head, All-nil, All-tail, All-weaker}
use Rattle.std.proofs.lemmas.Option.{none-some, same_Some}
use Rattle.vw_net.specs.declared.cell.Cell.{Cell}
use Rattle.vw_net.specs.declared.cell.Cell.TheVariants.{Gate, Latch}
use Rattle.vw_net.specs.declared.cell.Init.{Init}
use Rattle.vw_net.specs.declared.flat.Flat.{Flat}
use Rattle.vw_net.specs.Cells.{IsWellFormed, latch_count, latch_inputs}
use Rattle.vw_net.specs.History.{next_state}
use Rattle.vw_net.specs.Value.{net_value}
use Rattle.vw_net.proofs.DrivenValues.{map_agree}

-- the nets that latches take are below the number of nets
pub latch_inputs-within : (nets : ℕ) (cells : List Cell) → All (IsWellFormed nets) cells → All (λ net. net < nets) (latch_inputs cells)
latch_inputs-within nets [] fit = All-nil (λ net. net < nets)
latch_inputs-within nets (Gate ins cover ∷ cells) fit = latch_inputs-within nets cells (All-tail (IsWellFormed nets) (Gate ins cover) cells fit)
latch_inputs-within nets (Latch d init ∷ cells) fit =
    let here = All-head (IsWellFormed nets) (Latch d init) cells fit in
    let rest = latch_inputs-within nets cells (All-tail (IsWellFormed nets) (Latch d init) cells fit) in
    All-cons (λ net. net < nets) d (latch_inputs cells) (All-head (λ net. net < nets) d [] here.1) rest

-- where each net has its value, the bits of the nets that latches take are the state after the clock
pub next_state-from_values : (flat : Flat) (row state : List Bool) (value : ℕ → Bool) → ((net : ℕ) → net < flat.inputs + length flat.cells → value net ≡ net_value flat row state net) → map value (latch_inputs flat.cells) ≡ next_state flat row state
next_state-from_values flat row state value have =
    let nets = flat.inputs + length flat.cells in
    map_agree value (net_value flat row state) (latch_inputs flat.cells) (All-weaker (λ net. net < nets) (λ net. value net ≡ net_value flat row state net) have (latch_inputs flat.cells) (latch_inputs-within nets flat.cells flat.cells_fit))

-- the latch at a cell takes the net that stands there
latch_input_at : (cells : List Cell) (number d : ℕ) (init : Init) → slice_get cells number ≡ Some (Latch d init) → slice_get (latch_inputs cells) (latch_count (take number cells)) ≡ Some d
latch_input_at [] number d init here = absurd (none-some (Latch d init) here)
latch_input_at (cell ∷ cells) zero d init here = rw (same_Some cell (Latch d init) here) refl
latch_input_at (Gate ins cover ∷ cells) (suc number) d init here = latch_input_at cells number d init here
latch_input_at (Latch e other ∷ cells) (suc number) d init here = latch_input_at cells number d init here

-- so its bit after a clock is the value of that net
pub next_state-latch : (flat : Flat) (row state : List Bool) (number d : ℕ) (init : Init) → slice_get flat.cells number ≡ Some (Latch d init) → slice_index_or (next_state flat row state) (latch_count (take number flat.cells)) false ≡ net_value flat row state d
next_state-latch flat row state number d init here = mapped_at (net_value flat row state) (latch_inputs flat.cells) (latch_count (take number flat.cells)) d (latch_input_at flat.cells number d init here) where
  mapped_at : (value : ℕ → Bool) (nets : List ℕ) (place net : ℕ) → slice_get nets place ≡ Some net → slice_index_or (map value nets) place false ≡ value net
  mapped_at value [] place net is = absurd (none-some net is)
  mapped_at value (first ∷ nets) zero net is = ap value (same_Some first net is)
  mapped_at value (first ∷ nets) (suc place) net is = mapped_at value nets place net is
