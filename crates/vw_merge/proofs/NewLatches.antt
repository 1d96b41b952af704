-- Latches that are made one after the other, and cells of which none or each is a latch.
use Rattle.std.proofs.Common.{◌≡◌, ◌<◌, ◌+◌, ◌++◌, ◌∙◌, ℕ, zero, suc, Bool, true, List, [], ◌∷◌, length, map, take, get_or, slice_get, Option, Some, All, ap, ap₂, sym, refl, subst, true≢false, arith}
use Rattle.std.proofs.lemmas.List.{append-nil, length-append, map-append, take_more}
use Rattle.std.proofs.lemmas.List.Elements.{All-append, All-cons, All-head, All-nil, All-tail}
use Rattle.vw_net.specs.declared.cell.Cell.{Cell}
use Rattle.vw_net.specs.declared.cell.Cell.TheVariants.{Gate, Latch}
use Rattle.vw_net.specs.declared.cell.Init.{Init}
use Rattle.vw_net.specs.declared.cover.Cover.{Cover}
use Rattle.vw_net.specs.Cells.{latch_count, latch_inputs, start_value, start_values}
use Rattle.vw_net.specs.Order.{is_gate, is_latch}
use Rattle.vw_net.proofs.Counts.{latch_count-append}
use Rattle.vw_merge.specs.Merging.{AreLatchesOf, SameThere}

pub latch_inputs-append : (cells more : List Cell) → latch_inputs (cells ++ more) ≡ latch_inputs cells ++ latch_inputs more
latch_inputs-append [] more = refl
latch_inputs-append (Gate ins cover ∷ cells) more = latch_inputs-append cells more
latch_inputs-append (Latch d init ∷ cells) more = ap (λ (nets : List ℕ). d ∷ nets) (latch_inputs-append cells more)

pub start_values-append : (unknown : Bool) (cells more : List Cell) → start_values unknown (cells ++ more) ≡ start_values unknown cells ++ start_values unknown more
start_values-append unknown [] more = refl
start_values-append unknown (Gate ins cover ∷ cells) more = start_values-append unknown cells more
start_values-append unknown (Latch d init ∷ cells) more = ap (λ (bits : List Bool). start_value unknown init ∷ bits) (start_values-append unknown cells more)

-- ---- one cell more

module _ (front latches : List Cell) (to : List (Option ℕ)) (are : AreLatchesOf front to latches) where
  -- a gate has no latch in its place
  pub gate_passed : (ins : List ℕ) (cover : Cover) → AreLatchesOf (front ++ Gate ins cover ∷ []) to latches
  gate_passed ins cover = record {
    all = are.all;
    count = omega (arith, are.count, latch_count-append front (Gate ins cover ∷ []));
    starts = λ unknown. are.starts unknown ∙ sym (start_values-append unknown front (Gate ins cover ∷ []) ∙ append-nil (start_values unknown front));
    taken = λ value other there. are.taken value other there ∙ ap (map other) (sym (latch_inputs-append front (Gate ins cover ∷ []) ∙ append-nil (latch_inputs front)));
  }

  -- a latch has one that takes a net with the same value
  pub latch_made : (d net : ℕ) (init : Init) → ((value other : ℕ → Bool) → SameThere to value other → value net ≡ other d)
      → AreLatchesOf (front ++ Latch d init ∷ []) to (latches ++ Latch net init ∷ [])
  latch_made d net init same = record {
    all =
        let Is : Cell → Type 0 = λ cell. is_latch (Some cell) ≡ true in
        All-append Is latches (Latch net init ∷ []) are.all (All-cons Is (Latch net init) [] refl (All-nil Is));
    count = omega (arith, are.count, latch_count-append front (Latch d init ∷ []), length-append latches (Latch net init ∷ []));
    starts = λ unknown.
        start_values-append unknown latches (Latch net init ∷ [])
        ∙ ap (λ (bits : List Bool). bits ++ start_value unknown init ∷ []) (are.starts unknown)
        ∙ sym (start_values-append unknown front (Latch d init ∷ []));
    taken = λ value other there.
        ap (map value) (latch_inputs-append latches (Latch net init ∷ []))
        ∙ map-append value (latch_inputs latches) (net ∷ [])
        ∙ ap₂ (λ (bits : List Bool) (bit : Bool). bits ++ bit ∷ []) (are.taken value other there) (same value other there)
        ∙ sym (map-append other (latch_inputs front) (d ∷ []))
        ∙ ap (map other) (sym (latch_inputs-append front (Latch d init ∷ [])));
  }

-- no latch yet
pub no_latches : (to : List (Option ℕ)) → AreLatchesOf [] to []
no_latches to = record {
  all = All-nil (λ (cell : Cell). is_latch (Some cell) ≡ true);
  count = refl;
  starts = λ unknown. refl;
  taken = λ value other there. refl;
}

-- latches of the front with one cell more
pub moved : (cells : List Cell) (place : ℕ) (cell is : Cell) (to : List (Option ℕ)) (latches new : List Cell) → place < length cells → cell ≡ get_or cells place cell → cell ≡ is → new ≡ latches
    → AreLatchesOf (take place cells ++ is ∷ []) to latches → AreLatchesOf (take (place + 1) cells) to new
moved cells place cell is to latches new within read its same are =
    let front = take_more cells place cell within ∙ ap (λ (c : Cell). take place cells ++ c ∷ []) (sym read ∙ its) in
    subst (λ (list : List Cell). AreLatchesOf (take (place + 1) cells) to list) (sym same) (subst (λ (list : List Cell). AreLatchesOf list to latches) (sym front) are)

-- ---- latches and gates

-- each of some latches has its number, also with further cells behind
pub latches_before : (latches more : List Cell) (number : ℕ) → All (λ cell. is_latch (Some cell) ≡ true) latches → number < length latches
    → (is_latch (slice_get (latches ++ more) number) ≡ true) × (latch_count (take number (latches ++ more)) ≡ number)
latches_before [] more number all low = absurd (omega (arith, low))
latches_before (Gate ins cover ∷ latches) more number all low = absurd (true≢false (sym (All-head (λ (cell : Cell). is_latch (Some cell) ≡ true) (Gate ins cover) latches all)))
latches_before (Latch d init ∷ latches) more zero all low = (refl, refl)
latches_before (Latch d init ∷ latches) more (suc number) all low =
    let rest = latches_before latches more number (All-tail (λ (cell : Cell). is_latch (Some cell) ≡ true) (Latch d init) latches all) (omega (arith, low)) in
    (rest.0, ap (λ (n : ℕ). suc n) rest.1)

pub all_latches : (latches : List Cell) → All (λ cell. is_latch (Some cell) ≡ true) latches → latch_count latches ≡ length latches
all_latches [] all = refl
all_latches (Gate ins cover ∷ latches) all = absurd (true≢false (sym (All-head (λ (cell : Cell). is_latch (Some cell) ≡ true) (Gate ins cover) latches all)))
all_latches (Latch d init ∷ latches) all = ap (λ (n : ℕ). suc n) (all_latches latches (All-tail (λ (cell : Cell). is_latch (Some cell) ≡ true) (Latch d init) latches all))

-- gates have no latches among them
pub no_latch_among : (gates : List Cell) → All (λ cell. is_gate (Some cell) ≡ true) gates → (latch_inputs gates ≡ []) × (latch_count gates ≡ 0) × ((unknown : Bool) → start_values unknown gates ≡ [])
no_latch_among [] all = (refl, refl, λ unknown. refl)
no_latch_among (Gate ins cover ∷ gates) all = no_latch_among gates (All-tail (λ (cell : Cell). is_gate (Some cell) ≡ true) (Gate ins cover) gates all)
no_latch_among (Latch d init ∷ gates) all = absurd (true≢false (sym (All-head (λ (cell : Cell). is_gate (Some cell) ≡ true) (Latch d init) gates all)))
