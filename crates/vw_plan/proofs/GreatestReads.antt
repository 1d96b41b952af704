-- The greatest number of what a gate reads.
use Rattle.std.proofs.Common.{◌≡◌, ◌≤◌, ℕ, true, List, [], ◌∷◌, map, max, eqb, ap, refl, sym, ⊎_elim, true≢false, eqb-true, Option, Some, None, All, arith}
use Rattle.std.proofs.lemmas.Bool.{or_cases}
use Rattle.vw_net.specs.declared.cell.Cell.{Cell}
use Rattle.vw_net.specs.declared.cell.Cell.TheVariants.{Gate, Latch}
use Rattle.vw_net.specs.Lists.{greatest}
use Rattle.vw_net.specs.Order.{is_among, gate_inputs}
use Rattle.vw_net.proofs.DrivenValues.{map_agree}
use Rattle.vw_plan.specs.Nets.{greatest_read}

-- it depends on the nets that the gate reads, and on no other
pub greatest_read-agree : (one other : ℕ → ℕ) (cell : Option Cell) → All (λ net. one net ≡ other net) (gate_inputs cell)
    → greatest_read one cell ≡ greatest_read other cell
greatest_read-agree one other None agree = refl
greatest_read-agree one other (Some (Gate ins cover)) agree = ap greatest (map_agree one other ins agree)
greatest_read-agree one other (Some (Latch d init)) agree = refl

-- none of some numbers is above their greatest
among_greatest : (f : ℕ → ℕ) (nets : List ℕ) (net : ℕ) → is_among nets net ≡ true → f net ≤ greatest (map f nets)
among_greatest f [] net among = absurd (true≢false (sym among))
among_greatest f (first ∷ nets) net among =
    let if_first = λ (here : eqb first net ≡ true). let same : f first ≡ f net = ap f (eqb-true first net here) in let below : f net ≤ max (f first) (greatest (map f nets)) = omega (arith, same) in below in
    let if_later = λ (there : is_among nets net ≡ true). let below : f net ≤ max (f first) (greatest (map f nets)) = omega (arith, among_greatest f nets net there) in below in
    ⊎_elim if_first if_later (or_cases (eqb first net) (is_among nets net) among)

pub greatest_read-least : (f : ℕ → ℕ) (cell : Option Cell) (net : ℕ) → is_among (gate_inputs cell) net ≡ true → f net ≤ greatest_read f cell
greatest_read-least f None net among = absurd (true≢false (sym among))
greatest_read-least f (Some (Gate ins cover)) net among = among_greatest f ins net among
greatest_read-least f (Some (Latch d init)) net among = absurd (true≢false (sym among))

-- where each of some numbers is small, the greatest is
greatest_small : (f : ℕ → ℕ) (most : ℕ) → ((net : ℕ) → f net ≤ most) → (nets : List ℕ) → greatest (map f nets) ≤ most
greatest_small f most small [] = omega arith
greatest_small f most small (net ∷ nets) = omega (arith, small net, greatest_small f most small nets)

pub greatest_read-small : (f : ℕ → ℕ) (most : ℕ) → ((net : ℕ) → f net ≤ most) → (cell : Option Cell) → greatest_read f cell ≤ most
greatest_read-small f most small None = omega arith
greatest_read-small f most small (Some (Gate ins cover)) = greatest_small f most small ins
greatest_read-small f most small (Some (Latch d init)) = omega arith
