-- Lists of values into which the bits of latches are put.
use Rattle.std.proofs.Common.{◌≡◌, ◌≤◌, ◌<◌, ◌+◌, ◌-◌, ◌||◌, ℕ, Bool, true, false, not, List, ◌∷◌, length, take, drop, get_or, set, slice_get, nat_lt, Some, ap, sym, ◌∙◌, ⊎_elim, arith}
use Rattle.std.proofs.lemmas.Bool.{cases_eq, false≢true, le-ltb}
use Rattle.std.proofs.lemmas.Grind.{get_or-set_at}
use Rattle.std.proofs.lemmas.List.{drop_more, get_or-set_other, length-set}
use Rattle.std.proofs.lemmas.Option.{slice_get_within, get_or_from_slice_get}
use Rattle.vw_net.specs.declared.cell.Cell.{Cell}
use Rattle.vw_net.specs.declared.cell.Cell.TheVariants.{Gate, Latch}
use Rattle.vw_net.specs.declared.cell.Init.{Init}
use Rattle.vw_net.specs.declared.cover.Cover.{Cover}
use Rattle.vw_net.specs.Cells.{latch_count}
use Rattle.vw_net.specs.Order.{is_latch}
use Rattle.vw_net.proofs.Counts.{latch_count-take_drop}

-- the cells from a place on begin with the cell there
drop-cell : (cells : List Cell) (place : ℕ) (cell : Cell) → slice_get cells place ≡ Some cell → drop place cells ≡ cell ∷ drop (place + 1) cells
drop-cell cells place cell here = drop_more cells place cell (slice_get_within cells place cell here) ∙ ap (λ (first : Cell). first ∷ drop (place + 1) cells) (get_or_from_slice_get cells place cell cell here)

-- the nets of the latches before a place have their bits, and the other nets what they had; so many latches were passed
pub record ArePut (first : ℕ) (cells : List Cell) (state before values : List Bool) (place latch : ℕ) : Type 0 where
  pub nets : length values ≡ length before
  pub left : latch + latch_count (drop place cells) ≡ latch_count cells
  pub bits : (number : ℕ) → number < place → is_latch (slice_get cells number) ≡ true → get_or values (first + number) false ≡ get_or state (latch_count (take number cells)) false
  pub rest : (net : ℕ) → (nat_lt net first || not (is_latch (slice_get cells (net - first)))) ≡ true → get_or values net false ≡ get_or before net false

module _ (first : ℕ) (cells : List Cell) (state before values : List Bool) (place latch : ℕ) (put : ArePut first cells state before values place latch) where
  -- past a gate
  pub put_past_gate : (ins : List ℕ) (cover : Cover) (after : List Bool) (later : ℕ) → slice_get cells place ≡ Some (Gate ins cover) → after ≡ values → later ≡ latch → ArePut first cells state before after (place + 1) later
  put_past_gate ins cover after later here same none_passed = rw (same, none_passed) record { nets = put.nets; left = omega (arith, put.left, ap latch_count (drop-cell cells place (Gate ins cover) here)); bits = bits; rest = put.rest } where
    bits : (number : ℕ) → number < place + 1 → is_latch (slice_get cells number) ≡ true → get_or values (first + number) false ≡ get_or state (latch_count (take number cells)) false
    bits number within its =
        let not_here = λ (same : number ≡ place). absurd (false≢true (sym (ap is_latch here) ∙ ap (λ (at : ℕ). is_latch (slice_get cells at)) (sym same) ∙ its)) in
        ⊎_elim not_here (λ other. put.bits number (omega arith) its) (cases_eq number place)

  -- past a latch, whose bit is written
  pub put_past_latch : (d : ℕ) (init : Init) (after : List Bool) (later : ℕ) → slice_get cells place ≡ Some (Latch d init) → first + length cells ≤ length values → after ≡ set values (first + place) (get_or state latch false) → later ≡ latch + 1 → ArePut first cells state before after (place + 1) later
  put_past_latch d init after later here fits written one_passed = rw (written, one_passed) record { nets = length-set values (first + place) (get_or state latch false) ∙ put.nets; left = left; bits = bits; rest = rest } where
    left : latch + 1 + latch_count (drop (place + 1) cells) ≡ latch_count cells
    left = omega (arith, put.left, ap latch_count (drop-cell cells place (Latch d init) here))

    bits : (number : ℕ) → number < place + 1 → is_latch (slice_get cells number) ≡ true → get_or (set values (first + place) (get_or state latch false)) (first + number) false ≡ get_or state (latch_count (take number cells)) false
    bits number within its =
        let its_latch : latch ≡ latch_count (take place cells) = omega (arith, put.left, latch_count-take_drop place cells) in
        let here_inside : first + place < length values = omega (arith, slice_get_within cells place (Latch d init) here) in
        let if_here = λ (same : number ≡ place). get_or-set_at values (first + place) (first + number) (get_or state latch false) false (omega arith) here_inside ∙ ap (λ (at : ℕ). get_or state at false) (its_latch ∙ ap (λ (at : ℕ). latch_count (take at cells)) (sym same)) in
        let if_before = λ (other : number ≡ place → ⊥). get_or-set_other values (first + place) (first + number) (get_or state latch false) false (omega arith) ∙ put.bits number (omega arith) its in
        ⊎_elim if_here if_before (cases_eq number place)

    not_here : (net : ℕ) → (nat_lt net first || not (is_latch (slice_get cells (net - first)))) ≡ true → net ≡ first + place → ⊥
    not_here net other same =
        let no_input : nat_lt net first ≡ false = le-ltb net first (omega arith) in
        let its_number : net - first ≡ place = omega arith in
        let is_its = ap (λ (at : ℕ). is_latch (slice_get cells at)) its_number ∙ ap is_latch here in
        false≢true (rw (no_input, is_its) at other)

    rest : (net : ℕ) → (nat_lt net first || not (is_latch (slice_get cells (net - first)))) ≡ true → get_or (set values (first + place) (get_or state latch false)) net false ≡ get_or before net false
    rest net other = get_or-set_other values (first + place) net (get_or state latch false) false (not_here net other) ∙ put.rest net other
