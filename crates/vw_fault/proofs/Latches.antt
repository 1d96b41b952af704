-- The nets of latches in a lane, as they are put into their places.
use Rattle.std.proofs.Common.{◌≡◌, ◌≤◌, ◌<◌, ◌+◌, ◌-◌, ◌||◌, ◌∙◌, ℕ, Bool, true, false, not, List, ◌∷◌, length, take, drop, get_or, set, slice_get, nat_lt, Some, ap, sym, ⊎_elim, arith}
use Rattle.std.proofs.lemmas.Bool.{cases_eq, false≢true, le-ltb}
use Rattle.std.proofs.lemmas.Grind.{get_or-set_at}
use Rattle.std.proofs.lemmas.List.{drop_more, get_or-set_other}
use Rattle.std.proofs.lemmas.Option.{slice_get_within, get_or_from_slice_get}
use Rattle.vw_net.specs.declared.cell.Cell.{Cell}
use Rattle.vw_net.specs.declared.cell.Cell.TheVariants.{Gate, Latch}
use Rattle.vw_net.specs.declared.cell.Init.{Init}
use Rattle.vw_net.specs.declared.cover.Cover.{Cover}
use Rattle.vw_net.specs.Cells.{latch_count}
use Rattle.vw_net.specs.Order.{is_latch}
use Rattle.vw_net.proofs.Counts.{latch_count-take_drop}

-- the cells from a place on begin with the cell there
drop_cell : (cells : List Cell) (place : ℕ) (cell : Cell) → slice_get cells place ≡ Some cell → drop place cells ≡ cell ∷ drop (place + 1) cells
drop_cell cells place cell here = drop_more cells place cell (slice_get_within cells place cell here) ∙ ap (λ (first : Cell). first ∷ drop (place + 1) cells) (get_or_from_slice_get cells place cell cell here)

-- past a cell, so many latches are left
pub left_past_gate : (cells : List Cell) (place latch later : ℕ) (ins : List ℕ) (cover : Cover)
    → slice_get cells place ≡ Some (Gate ins cover) → later ≡ latch → latch + latch_count (drop place cells) ≡ latch_count cells
    → later + latch_count (drop (place + 1) cells) ≡ latch_count cells
left_past_gate cells place latch later ins cover here same left = omega (arith, left, same, ap latch_count (drop_cell cells place (Gate ins cover) here))

pub left_past_latch : (cells : List Cell) (place latch later d : ℕ) (init : Init) → slice_get cells place ≡ Some (Latch d init)
    → later ≡ latch + 1 → latch + latch_count (drop place cells) ≡ latch_count cells
    → later + latch_count (drop (place + 1) cells) ≡ latch_count cells
left_past_latch cells place latch later d init here next left = omega (arith, left, next, ap latch_count (drop_cell cells place (Latch d init) here))

-- the latch at a place has the number of latches before it
pub latch_number : (cells : List Cell) (place latch : ℕ) → latch + latch_count (drop place cells) ≡ latch_count cells → latch ≡ latch_count (take place cells)
latch_number cells place latch left = omega (arith, left, latch_count-take_drop place cells)

-- the nets of the latches before a place have what is found of them, and the other nets what they had
pub record ArePut (find : ℕ → Bool → Bool) (first : ℕ) (cells : List Cell) (state before values : List Bool) (place : ℕ) : Type 0 where
  pub bits : (number : ℕ) → number < place → is_latch (slice_get cells number) ≡ true
      → get_or values (first + number) false ≡ find (first + number) (get_or state (latch_count (take number cells)) false)
  pub rest : (net : ℕ) → (nat_lt net first || not (is_latch (slice_get cells (net - first)))) ≡ true → get_or values net false ≡ get_or before net false

module _ (find : ℕ → Bool → Bool) (first : ℕ) (cells : List Cell) (state before values : List Bool) (place : ℕ) (put : ArePut find first cells state before values place) where
  -- past a gate
  pub put_past_gate : (ins : List ℕ) (cover : Cover) (after : List Bool) → slice_get cells place ≡ Some (Gate ins cover) → after ≡ values
      → ArePut find first cells state before after (place + 1)
  put_past_gate ins cover after here same = rw same record { bits = bits; rest = put.rest } where
    bits : (number : ℕ) → number < place + 1 → is_latch (slice_get cells number) ≡ true
        → get_or values (first + number) false ≡ find (first + number) (get_or state (latch_count (take number cells)) false)
    bits number within its =
        let not_here = λ (same : number ≡ place). absurd (false≢true (sym (ap is_latch here) ∙ ap (λ (at : ℕ). is_latch (slice_get cells at)) (sym same) ∙ its)) in
        ⊎_elim not_here (λ other. put.bits number (omega arith) its) (cases_eq number place)

  -- past a latch, whose bit is written as it is found
  pub put_past_latch : (d : ℕ) (init : Init) (bit : Bool) (after : List Bool) → slice_get cells place ≡ Some (Latch d init)
      → first + length cells ≤ length values → bit ≡ find (first + place) (get_or state (latch_count (take place cells)) false)
      → after ≡ set values (first + place) bit → ArePut find first cells state before after (place + 1)
  put_past_latch d init bit after here fits is written = rw written record { bits = bits; rest = rest } where
    bits : (number : ℕ) → number < place + 1 → is_latch (slice_get cells number) ≡ true
        → get_or (set values (first + place) bit) (first + number) false ≡ find (first + number) (get_or state (latch_count (take number cells)) false)
    bits number within its =
        let inside : first + place < length values = omega (arith, slice_get_within cells place (Latch d init) here) in
        let if_here = λ (same : number ≡ place). get_or-set_at values (first + place) (first + number) bit false (omega arith) inside ∙ is ∙ ap (λ (at : ℕ). find (first + at) (get_or state (latch_count (take at cells)) false)) (sym same) in
        let if_before = λ (other : number ≡ place → ⊥). get_or-set_other values (first + place) (first + number) bit false (omega arith) ∙ put.bits number (omega arith) its in
        ⊎_elim if_here if_before (cases_eq number place)

    not_here : (net : ℕ) → (nat_lt net first || not (is_latch (slice_get cells (net - first)))) ≡ true → net ≡ first + place → ⊥
    not_here net other same =
        let no_input : nat_lt net first ≡ false = le-ltb net first (omega arith) in
        let its_number : net - first ≡ place = omega arith in
        let is_its = ap (λ (at : ℕ). is_latch (slice_get cells at)) its_number ∙ ap is_latch here in
        false≢true (rw (no_input, is_its) at other)

    rest : (net : ℕ) → (nat_lt net first || not (is_latch (slice_get cells (net - first)))) ≡ true
        → get_or (set values (first + place) bit) net false ≡ get_or before net false
    rest net other = get_or-set_other values (first + place) net bit false (not_here net other) ∙ put.rest net other
