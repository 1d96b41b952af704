-- Numbers of which each reads the next one, and circles of them.
use Rattle.std.proofs.Common.{◌≡◌, ◌≤◌, ◌+◌, ◌==◌, not, ℕ, zero, suc, Bool, true, false, cond, List, [], ◌∷◌, ◌++◌, length, length-append, take, drop, ◌⊎◌, inl, inr, ⊎_elim, refl, sym, ◌∙◌, ap, ap₂, subst, true≢false, append_assoc, append-nil, eqb, arith}
use Rattle.std.specs.List.{AllZip, IsDistinct, position_or_len}
use Rattle.std.proofs.lemmas.Bool.{eqb-true, or_cases}
use Rattle.std.proofs.lemmas.List.{drop-append-le, take-append-le}
use Rattle.std.proofs.lemmas.List.Elements.{AllZip-push}
use Rattle.vw_net.specs.Order.{is_among}
use Rattle.vw_net.specs.Lists.{turned}
use Rattle.vw_order.specs.Steps.Rounds.{round_from}
use Rattle.vw_order.specs.Graphs.{Graph, Reads}
use Rattle.vw_order.specs.Circles.{IsNumberCircle}
use Rattle.vw_order.specs.Steps.Searches.{IsReadChain}
use Rattle.vw_order.proofs.Among.{among_one, among_right, once_part}

module _ (graph : Graph) where
  -- one more, that the last one reads
  pub IsReadChain-push : (stack : List ℕ) (last next : ℕ) → IsReadChain graph (stack ++ last ∷ []) → Reads graph last next
      → IsReadChain graph ((stack ++ last ∷ []) ++ next ∷ [])
  IsReadChain-push [] last next leads reads = (reads, tt)
  IsReadChain-push (number ∷ []) last next leads reads = (leads.0, (reads, tt))
  IsReadChain-push (number ∷ second ∷ rest) last next leads reads = (leads.0, IsReadChain-push (second ∷ rest) last next leads.1 reads)

  -- without the last one
  pub IsReadChain-front : (stack : List ℕ) (last : ℕ) → IsReadChain graph (stack ++ last ∷ []) → IsReadChain graph stack
  IsReadChain-front [] last leads = tt
  IsReadChain-front (number ∷ []) last leads = tt
  IsReadChain-front (number ∷ second ∷ rest) last leads = (leads.0, IsReadChain-front (second ∷ rest) last leads.1)

  -- without some at the front
  pub IsReadChain-back : (front back : List ℕ) → IsReadChain graph (front ++ back) → IsReadChain graph back
  IsReadChain-back [] back leads = leads
  IsReadChain-back (number ∷ []) [] leads = tt
  IsReadChain-back (number ∷ []) (first ∷ back) leads = leads.1
  IsReadChain-back (number ∷ second ∷ rest) back leads = IsReadChain-back (second ∷ rest) back leads.1

  -- where the last one reads the first
  round_on : (number : ℕ) (rest : List ℕ) (last first : ℕ) → IsReadChain graph (number ∷ (rest ++ last ∷ [])) → Reads graph last first
      → AllZip (Reads graph) (number ∷ (rest ++ last ∷ [])) ((rest ++ last ∷ []) ++ first ∷ [])
  round_on number [] last first leads reads = (leads.0, (reads, tt))
  round_on number (next ∷ rest) last first leads reads = (leads.0, round_on next rest last first leads.1 reads)

  pub IsReadChain-round : (stack : List ℕ) (last first : ℕ) → (further : List ℕ) × (stack ++ last ∷ [] ≡ first ∷ further)
      → IsReadChain graph (stack ++ last ∷ []) → Reads graph last first
      → AllZip (Reads graph) (stack ++ last ∷ []) (turned (stack ++ last ∷ []))
  IsReadChain-round [] last first begins leads reads =
      let same : last ≡ first = cc (begins.1) in (subst (λ (n : ℕ). Reads graph last n) (sym same) reads, tt)
  IsReadChain-round (number ∷ stack) last first begins leads reads =
      let same : number ≡ first = cc (begins.1) in round_on number stack last number leads (subst (λ (n : ℕ). Reads graph last n) (sym same) reads)

-- the stack from the first place of a number on begins with it
abbrev pub Begins : ℕ → ℕ → List ℕ → List ℕ → Type 0
Begins number last stack from =
    (before : List ℕ) × (stack ++ last ∷ [] ≡ before ++ (from ++ last ∷ [])) × ((further : List ℕ) × (from ++ last ∷ [] ≡ number ∷ further))

begins_by : (number last first : ℕ) (stack : List ℕ) (is_it : Bool) → (first == number) ≡ is_it
    → (is_it ≡ true) ⊎ Begins number last stack (round_from number stack)
    → Begins number last (first ∷ stack) (drop (cond (not is_it) (1 + position_or_len (λ other. other == number) stack) 0) (first ∷ stack))
begins_by number last first stack true is rest = ([], refl, (stack ++ last ∷ [], ap (λ (n : ℕ). n ∷ (stack ++ last ∷ [])) (eqb-true first number is)))
begins_by number last first stack false is rest = ⊎_elim (λ wrong. absurd (true≢false (sym wrong))) later rest where
  later : Begins number last stack (round_from number stack)
      → Begins number last (first ∷ stack) (drop (1 + position_or_len (λ other. other == number) stack) (first ∷ stack))
  later begins =
      let one : suc (position_or_len (λ other. other == number) stack) ≡ 1 + position_or_len (λ other. other == number) stack = omega arith in
      subst (λ (n : ℕ). Begins number last (first ∷ stack) (drop n (first ∷ stack))) one
      (first ∷ begins.0, ap (λ (l : List ℕ). first ∷ l) begins.1, begins.2)

pub round_begins : (number last : ℕ) (stack : List ℕ) → is_among (stack ++ last ∷ []) number ≡ true → Begins number last stack (round_from number stack)
round_begins number last [] among = ([], refl, ([], ap (λ (n : ℕ). n ∷ []) (among_one last number among)))
round_begins number last (first ∷ stack) among =
    begins_by number last first stack (first == number) refl
    (⊎_elim (λ here. inl here) (λ there. inr (round_begins number last stack there)) (or_cases (first == number) (is_among (stack ++ last ∷ []) number) among))

-- where the last one reads one that is among them, they close a circle
pub closes : (graph : Graph) (stack : List ℕ) (last next : ℕ) → IsDistinct eqb (stack ++ last ∷ []) → IsReadChain graph (stack ++ last ∷ [])
    → Reads graph last next → is_among (stack ++ last ∷ []) next ≡ true
    → ((number : ℕ) → is_among (stack ++ last ∷ []) number ≡ true → graph.counts number ≡ true) → IsNumberCircle graph (round_from next stack ++ last ∷ [])
closes graph stack last next once leads reads among counted =
    let cut = round_begins next last stack among in
    record {
      some = omega (arith, length-append (round_from next stack) (last ∷ []));
      counted = λ number there.
          counted number (ap (λ (s : List ℕ). is_among s number) cut.1 ∙ among_right cut.0 (round_from next stack ++ last ∷ []) number there);
      once = once_part cut.0 (round_from next stack ++ last ∷ []) (subst (λ (s : List ℕ). IsDistinct eqb s) cut.1 once);
      each = IsReadChain-round graph (round_from next stack) last next cut.2 (IsReadChain-back graph cut.0 (round_from next stack ++ last ∷ []) (subst (λ (s : List ℕ). IsReadChain graph s) cut.1 leads)) reads;
    }

-- a circle from another one of its elements on
turn_once : {A : Type 0} → (R : A → A → Type 0) (x : A) (xs : List A) → AllZip R (x ∷ xs) (xs ++ x ∷ []) → AllZip R (xs ++ x ∷ []) (turned (xs ++ x ∷ []))
turn_once R x [] along = along
turn_once R x (y ∷ ys) along = AllZip-push R (y ∷ ys) (ys ++ x ∷ []) x y along.1 along.0

pub turns : {A : Type 0} → (R : A → A → Type 0) (start : ℕ) (circle : List A) → start ≤ length circle → AllZip R circle (turned circle)
    → AllZip R (drop start circle ++ take start circle) (turned (drop start circle ++ take start circle))
turns {A = A} R zero circle within along = subst (λ (l : List A). AllZip R l (turned l)) (sym (append-nil circle)) along
turns {A = A} R (suc start) [] within along = absurd (omega arith)
turns {A = A} R (suc start) (x ∷ xs) within along =
    let rest = turns R start (xs ++ x ∷ []) (omega (arith, within, length-append xs (x ∷ []))) (turn_once R x xs along) in
    let same : drop start (xs ++ x ∷ []) ++ take start (xs ++ x ∷ []) ≡ drop start xs ++ (x ∷ take start xs) =
    ap₂ (λ (a b : List A). a ++ b) (drop-append-le start xs (x ∷ []) (omega arith)) (take-append-le start xs (x ∷ []) (omega arith)) ∙ append_assoc (drop start xs) (x ∷ []) (take start xs) in
    subst (λ (l : List A). AllZip R l (turned l)) same rest
