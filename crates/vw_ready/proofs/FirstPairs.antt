-- Tables of pairs, filled pair by pair.
use Rattle.std.proofs.Common.{◌≡◌, ◌<◌, ◌≤◌, ◌-◌, ◌&&◌, ℕ, suc, Bool, true, false, List, length, drop, get_or, eqb, cond, Option, Some, ap, ap₂, refl, sym, ◌∙◌, drop-cons, arith}
use Rattle.std.specs.Option.{option_or}
use Rattle.vw_net.proofs.Orders.{eqb_comm}
use Rattle.vw_net.specs.FirstFound.{found_if}
use Rattle.vw_ready.specs.Pairs.{first_pair, is_number_pair}

-- what is put in hides what was there, as the one at the front hides the rest
put_by : (same : Bool) (place : ℕ) (rest : Option ℕ) → cond same (Some place) rest ≡ option_or (found_if same place) rest
put_by true place rest = refl
put_by false place rest = refl

-- a pair in front of the others
pub pair_put : (pairs : List (ℕ × ℕ)) (left : ℕ) → 0 < left → left ≤ length pairs → (one other : ℕ) (old new : Option ℕ) → old ≡ first_pair left (drop left pairs) one other
    → new ≡ cond (eqb (get_or pairs (left - 1) (0, 0)).0 one && eqb (get_or pairs (left - 1) (0, 0)).1 other) (Some (left - 1)) old
    → new ≡ first_pair (left - 1) (drop (left - 1) pairs) one other
pair_put pairs left some within one other old new has is =
    let place = left - 1 in
    let here = get_or pairs place (0, 0) in
    let later : suc place ≡ left = omega arith in
    let step : first_pair place (drop place pairs) one other ≡ option_or (found_if (is_number_pair one other here) place) (first_pair (suc place) (drop (suc place) pairs) one other) = rw (drop-cons pairs place (0, 0) (omega arith)) refl in
    let turned : (eqb here.0 one && eqb here.1 other) ≡ is_number_pair one other here = ap₂ (λ (first second : Bool). first && second) (eqb_comm here.0 one) (eqb_comm here.1 other) in
    is ∙ ap₂ (λ (same : Bool) (rest : Option ℕ). cond same (Some place) rest) turned (has ∙ ap (λ (number : ℕ). first_pair number (drop number pairs) one other) (sym later))
    ∙ put_by (is_number_pair one other here) place (first_pair (suc place) (drop (suc place) pairs) one other) ∙ sym step
