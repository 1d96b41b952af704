-- What a cell reads is on its chip, or needed there.
use Rattle.std.proofs.Common.{◌≡◌, ◌∷◌, ◌&&◌, ◌||◌, ◌⊎◌, inl, inr, ℕ, zero, suc, true, false, not, List, [], length, eqb, slice_get, slice_index, Some, ap, sym, ◌∙◌, ⊎_elim, true≢false, eqb-true, eq-eqb, arith}
use Rattle.std.specs.List.{list_any, zip}
use Rattle.std.proofs.lemmas.Bool.{and_from, cases_Bool, or_left, or_right}
use Rattle.vw_net.specs.declared.cell.Cell.{Cell}
use Rattle.vw_net.specs.declared.flat.Flat.{Flat}
use Rattle.vw_net.specs.Cells.{read_nets}
use Rattle.vw_net.specs.Order.{is_among, read_nets_at}
use Rattle.vw_plan.specs.Nets.{is_needed, is_read_at, node_of}

-- a cell that reads a net has it read on its chip
pub read_there : (chips : List ℕ) (cells : List Cell) (number net : ℕ) → length chips ≡ length cells
    → is_among (read_nets_at (slice_get cells number)) net ≡ true
    → list_any (λ (placed : ℕ × Cell). eqb placed.0 (slice_index chips number) && is_among (read_nets placed.1) net) (zip chips cells) ≡ true
read_there [] [] number net long among = absurd (true≢false (sym among))
read_there [] (cell ∷ cells) number net long among = absurd (omega (arith, long))
read_there (chip ∷ chips) [] number net long among = absurd (omega (arith, long))
read_there (chip ∷ chips) (cell ∷ cells) zero net long among = or_left _ _ (and_from _ _ (eq-eqb chip chip (λ i. chip)) among)
read_there (chip ∷ chips) (cell ∷ cells) (suc number) net long among = or_right (eqb chip (slice_index chips number) && is_among (read_nets cell) net) _ (read_there chips cells number net (omega (arith, long)) among)

pub read_needed : (flat : Flat) (chip_of : List ℕ) (number net : ℕ) → length chip_of ≡ length flat.cells
    → is_among (read_nets_at (slice_get flat.cells number)) net ≡ true
    → (eqb (node_of flat chip_of net) (slice_index chip_of number) ≡ false) → is_needed flat chip_of net (slice_index chip_of number) ≡ true
read_needed flat chip_of number net each reads apart =
    and_from (not (eqb (node_of flat chip_of net) (slice_index chip_of number))) _ (ap not apart)
    (or_left (is_read_at flat chip_of net (slice_index chip_of number)) _ (read_there chip_of flat.cells number net each reads))

pub read_or_needed : (flat : Flat) (chip_of : List ℕ) (number net : ℕ) (cell : Cell) → length chip_of ≡ length flat.cells
    → slice_get flat.cells number ≡ Some cell → is_among (read_nets cell) net ≡ true
    → (node_of flat chip_of net ≡ slice_index chip_of number) ⊎ (is_needed flat chip_of net (slice_index chip_of number) ≡ true)
read_or_needed flat chip_of number net cell each is reads =
    let its : is_among (read_nets_at (slice_get flat.cells number)) net ≡ true = ap (λ found. is_among (read_nets_at found) net) is ∙ reads in
    ⊎_elim (λ own. inl (eqb-true (node_of flat chip_of net) (slice_index chip_of number) own)) (λ apart. inr (read_needed flat chip_of number net each its apart)) (cases_Bool (eqb (node_of flat chip_of net) (slice_index chip_of number)))

-- a net that an output has is the host's own, or needed there
pub output_or_needed : (flat : Flat) (chip_of : List ℕ) (net : ℕ) → is_among flat.outputs net ≡ true
    → (node_of flat chip_of net ≡ 0) ⊎ (is_needed flat chip_of net 0 ≡ true)
output_or_needed flat chip_of net shown =
    let if_own = λ (own : eqb (node_of flat chip_of net) 0 ≡ true). let whole : (node_of flat chip_of net ≡ 0) ⊎ (is_needed flat chip_of net 0 ≡ true) = inl (eqb-true (node_of flat chip_of net) 0 own) in whole in
    let if_apart = λ (apart : eqb (node_of flat chip_of net) 0 ≡ false).
    let needed = and_from (not (eqb (node_of flat chip_of net) 0)) (is_read_at flat chip_of net 0 || is_among flat.outputs net) (ap not apart) (or_right (is_read_at flat chip_of net 0) (is_among flat.outputs net) shown) in
    let whole : (node_of flat chip_of net ≡ 0) ⊎ (is_needed flat chip_of net 0 ≡ true) = inr needed in whole in
    ⊎_elim if_own if_apart (cases_Bool (eqb (node_of flat chip_of net) 0))
