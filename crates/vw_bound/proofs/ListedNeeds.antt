-- What is listed as a needed pair, and how cells are gone over.
use Rattle.std.proofs.Common.{◌≡◌, ◌<◌, ◌≤◌, ◌+◌, ℕ, zero, suc, true, List, [], ◌∷◌, length, max, drop, get_or, slice_get, eqb, ap, refl, sym, ◌∙◌, Some, ⊎_elim, true≢false, eq-eqb, All, arith}
use Rattle.std.specs.List.{list_any}
use Rattle.std.proofs.lemmas.Bool.{and_from, cases_lt, or_left, or_right}
use Rattle.std.proofs.lemmas.List.{drop_more}
use Rattle.std.proofs.lemmas.List.Elements.{All-head, All-tail}
use Rattle.std.proofs.lemmas.Option.{slice_get-get_or}
use Rattle.vw_net.specs.declared.cell.Cell.{Cell}
use Rattle.vw_net.specs.declared.flat.Flat.{Flat}
use Rattle.vw_net.specs.Lists.{greatest}
use Rattle.vw_plan.specs.declared.need.Need.{Need}
use Rattle.vw_plan.specs.Needs.{is_pair, needed_pairs}
use Rattle.vw_plan.specs.Nets.{is_needed}
use Rattle.vw_plan.proofs.NeededPairs.{any-needed_pairs, past_node}
use Rattle.vw_bound.specs.PlacedDesigns.{PlacedDesign}
use Rattle.vw_bound.specs.Times.{cell_due_by, cells_due_by}

-- a pair is its own
pub own_pair : (need : Need) → is_pair need.net need.to need ≡ true
own_pair need = and_from (eqb need.net need.net) (eqb need.to need.to) (eq-eqb need.net need.net refl) (eq-eqb need.to need.to refl)

any_at : (need : Need) (needs : List Need) (at : ℕ) → slice_get needs at ≡ Some need → list_any (is_pair need.net need.to) needs ≡ true
any_at need [] at is = cc
any_at need (first ∷ needs) zero is = let same : first ≡ need = cc in or_left (is_pair need.net need.to first) (list_any (is_pair need.net need.to) needs) (ap (is_pair need.net need.to) same ∙ own_pair need)
any_at need (first ∷ needs) (suc at) is = or_right (is_pair need.net need.to first) (list_any (is_pair need.net need.to) needs) (any_at need needs at is)

-- a listed pair is needed
pub listed_needed : (flat : Flat) (chip_of : List ℕ) (need : Need) (place : ℕ) → slice_get (needed_pairs flat chip_of) place ≡ Some need → is_needed flat chip_of need.net need.to ≡ true
listed_needed flat chip_of need place at = sym (any-needed_pairs flat chip_of need.net need.to) ∙ any_at need (needed_pairs flat chip_of) place at

greatest_low : (most : ℕ) (numbers : List ℕ) → All (λ number. number ≤ most) numbers → greatest numbers ≤ most
greatest_low most [] low = omega arith
greatest_low most (number ∷ numbers) low = omega (arith, All-head (λ (n : ℕ). n ≤ most) number numbers low, greatest_low most numbers (All-tail (λ (n : ℕ). n ≤ most) number numbers low))

-- and its node is one of the board
pub needs_on_board : (flat : Flat) (chip_of : List ℕ) (chips : ℕ) → All (λ chip. chip ≤ chips) chip_of → All (λ need. need.to ≤ chips) (needed_pairs flat chip_of)
needs_on_board flat chip_of chips low place default within =
    let need = get_or (needed_pairs flat chip_of) place default in
    let needed : is_needed flat chip_of need.net need.to ≡ true = listed_needed flat chip_of need place (slice_get-get_or (needed_pairs flat chip_of) place default within) in
    ⊎_elim (λ past. absurd (true≢false (sym needed ∙ past_node flat chip_of need.net need.to past))) (λ near. omega (arith, near, greatest_low chips chip_of low)) (cases_lt (greatest chip_of) need.to)

-- one cell more
pub cells_next : (placed : PlacedDesign) (soon_of : ℕ → ℕ) (cells : List Cell) (place : ℕ) (cell : Cell) (last due more all : ℕ) → place < length cells → cell ≡ get_or cells place cell
    → due ≡ cell_due_by placed soon_of place cell → more ≡ max last due
    → max last (cells_due_by placed soon_of place (drop place cells)) ≡ all → max more (cells_due_by placed soon_of (place + 1) (drop (place + 1) cells)) ≡ all
cells_next placed soon_of cells place cell last due more all within is is_due is_more so_far =
    let rest = drop (place + 1) cells in
    let left : cells_due_by placed soon_of place (drop place cells) ≡ max (cell_due_by placed soon_of place cell) (cells_due_by placed soon_of (place + 1) rest) =
    ap (cells_due_by placed soon_of place) (drop_more cells place cell within)
    ∙ ap (λ (first : Cell). max (cell_due_by placed soon_of place first) (cells_due_by placed soon_of (suc place) rest)) (sym is)
    ∙ ap (λ (next : ℕ). max (cell_due_by placed soon_of place cell) (cells_due_by placed soon_of next rest)) next_is in
    omega (arith, left, is_due, is_more, so_far)
  where
    next_is : suc place ≡ place + 1
    next_is = omega arith
