-- Numbers that stand in an order don't read each other in a circle.
use Rattle.std.proofs.Common.{◌≡◌, ◌<◌, ◌==◌, ℕ, true, List, [], ◌∷◌, ◌++◌, length, take, drop, get_or, sym, ◌∙◌, ap, subst, arith}
use Rattle.std.specs.List.{AllZip}
use Rattle.vw_net.proofs.Orders.{among_at}
use Rattle.vw_net.specs.Lists.{turned}
use Rattle.vw_net.specs.Order.{is_among}
use Rattle.vw_order.specs.Graphs.{Graph, ReadsAt, Reads}
use Rattle.vw_order.specs.Orders.{IsBehind}
use Rattle.vw_order.specs.Circles.{IsNumberCircle}
use Rattle.vw_order.proofs.Among.{place_among, at_place, front_among, front_position}
use Rattle.vw_order.proofs.Rounds.{turns}
use Rattle.vw_order.proofs.LeastFirst.{round_long, round_first}

module _ (graph : Graph) (order : List ℕ) (behind : IsBehind graph order) where
  -- what a number of the order reads is in it, before that number
  before : (number other : ℕ) → is_among order number ≡ true → Reads graph number other
      → (is_among order other ≡ true) × (place_among order other < place_among order number)
  before number other among reads =
      let at = at_place order number among in
      let front : is_among (take (place_among order number) order) other ≡ true =
      behind (place_among order number) reads.0 other at.0 (subst (λ (n : ℕ). ReadsAt graph n reads.0 other) (sym at.1) reads.1) in
      (front_among order (place_among order number) other front, front_position (λ (n : ℕ). n == other) order (place_among order number) front)

  -- along numbers of which each reads the next, places fall
  falls : (number : ℕ) (numbers : List ℕ) (last : ℕ) → is_among order number ≡ true
      → AllZip (Reads graph) (number ∷ numbers) (numbers ++ last ∷ []) → place_among order last < place_among order number
  falls number [] last among along = (before number last among along.0).1
  falls number (next ∷ numbers) last among along =
      let step = before number next among along.0 in omega (arith, step.1, falls next numbers last step.0 along.1)

  round_from_it : (numbers : List ℕ) (number : ℕ) → 0 < length numbers → get_or numbers 0 0 ≡ number → is_among order number ≡ true
      → AllZip (Reads graph) numbers (turned numbers) → ⊥
  round_from_it [] number some first among along = omega (arith, some)
  round_from_it (one ∷ numbers) number some first among along = omega (arith, falls one numbers one (ap (is_among order) first ∙ among) along)

  pub no_circle : (numbers : List ℕ) → IsNumberCircle graph numbers → (number : ℕ) → is_among order number ≡ true → is_among numbers number ≡ true → ⊥
  no_circle numbers circle number among there =
      let at = among_at numbers number there in
      round_from_it (drop at.0 numbers ++ take at.0 numbers) number (omega (arith, round_long numbers at.0 at.1, at.1)) (round_first numbers at.0 at.1 ∙ at.2) among
      (turns (Reads graph) at.0 numbers (omega (arith, at.1)) circle.each)
