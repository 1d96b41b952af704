-- Hops in order, in blocks: each has its number among those of its block.
use Rattle.std.proofs.Common.{◌≡◌, ◌∙◌, ◌++◌, ◌<◌, ◌&&◌, ◌==◌, not, ℕ, zero, suc, Bool, true, false, cond, List, [], ◌∷◌, Option, Some, None, ap, ap₂, refl, sym, eq-eqb, ne_eqb, arith}
use Rattle.std.specs.List.{AllByRecursion}
use Rattle.std.proofs.lemmas.Bool.{and_from, and_right}
use Rattle.vw_net.specs.Gathered.{gather}
use Rattle.vw_net.proofs.ListParts.{all_append}
use Rattle.vw_emit_text.specs.Outlets.{have_one_pin, head_hop, is_of_pin, outlets_behind}
use Rattle.vw_emit_text.specs.declared.numbered_hop.NumberedHop.{NumberedHop}
use Rattle.vw_emit_text.specs.declared.outlet.Outlet.{Outlet}

-- ---- hops that leave by different pins

-- two hops, in either order
pub record Apart (one other : NumberedHop) : Type 0 where
  pub there : have_one_pin one other ≡ false
  pub back : have_one_pin other one ≡ false

-- a hop that may be there, and the first of further ones
IsApart : Option NumberedHop → List NumberedHop → Type 0
IsApart before [] = Unit {0}
IsApart before (hop ∷ hops) = is_of_pin hop before ≡ false

-- behind hops of other pins it is as behind none
anew : (before : Option NumberedHop) (number : ℕ) (hops : List NumberedHop) → IsApart before hops
    → outlets_behind before number hops ≡ outlets_behind None 0 hops
unfolding IsApart
anew before number [] apart = refl
anew before number (hop ∷ hops) apart =
    ap (λ (own : Bool). whole (cond own number 0)) apart where
      whole : ℕ → List Outlet
      whole number = record { hop = hop; number = number; is_last = not (is_of_pin hop (head_hop hops)) } ∷ outlets_behind (Some hop) (suc number) hops

-- hops, and behind them hops of other pins
cut : (before : Option NumberedHop) (number : ℕ) (xs ys : List NumberedHop) → IsApart before ys → AllByRecursion (λ x. AllByRecursion (Apart x) ys) xs
    → outlets_behind before number (xs ++ ys) ≡ outlets_behind before number xs ++ outlets_behind None 0 ys
unfolding IsApart
cut before number [] ys first apart = anew before number ys first
cut before number (x ∷ xs) ys first apart =
    ap₂ (λ (last : Bool) (rest : List Outlet). record { hop = x; number = cond (is_of_pin x before) number 0; is_last = not last } ∷ rest)
    (next xs ys apart.0) (cut (Some x) (suc (cond (is_of_pin x before) number 0)) xs ys (behind ys apart.0) apart.1) where
      next : (some others : List NumberedHop) → AllByRecursion (Apart x) others → is_of_pin x (head_hop (some ++ others)) ≡ is_of_pin x (head_hop some)
      next [] [] all = refl
      next [] (y ∷ more) all = all.0.there
      next (z ∷ some) others all = refl

      behind : (others : List NumberedHop) → AllByRecursion (Apart x) others → IsApart (Some x) others
      behind [] all = tt
      behind (y ∷ others) all = all.0.back

-- hops by a number, where those of different numbers leave by different pins
pub in_blocks : (key : NumberedHop → ℕ) → ((x y : NumberedHop) → key x < key y → Apart x y) → (each : ℕ → List NumberedHop)
    → ((number : ℕ) → AllByRecursion (λ x. key x ≡ number) (each number))
    → (count : ℕ) → outlets_behind None 0 (gather each count) ≡ gather (λ number. outlets_behind None 0 (each number)) count
unfolding IsApart
in_blocks key apart each has zero = refl
in_blocks key apart each has (suc count) =
    cut None 0 (gather each count) (each count) (first (each count)) (pairs (gather each count) (below count))
    ∙ ap (λ (front : List Outlet). front ++ outlets_behind None 0 (each count)) (in_blocks key apart each has count) where
      first : (hops : List NumberedHop) → IsApart None hops
      first [] = tt
      first (hop ∷ hops) = refl

      weaker : (bound : ℕ) (xs : List NumberedHop) → AllByRecursion (λ x. key x < bound) xs → AllByRecursion (λ x. key x < suc bound) xs
      weaker bound [] all = tt
      weaker bound (x ∷ xs) all = (omega (arith, all.0), weaker bound xs all.1)

      last : (bound : ℕ) (xs : List NumberedHop) → AllByRecursion (λ x. key x ≡ bound) xs → AllByRecursion (λ x. key x < suc bound) xs
      last bound [] all = tt
      last bound (x ∷ xs) all = (omega (arith, all.0), last bound xs all.1)

      below : (bound : ℕ) → AllByRecursion (λ x. key x < bound) (gather each bound)
      below zero = tt
      below (suc bound) = all_append (λ x. key x < suc bound) (gather each bound) (each bound) (weaker bound (gather each bound) (below bound)) (last bound (each bound) (has bound))

      others : (x : NumberedHop) → key x < count → (ys : List NumberedHop) → AllByRecursion (λ y. key y ≡ count) ys → AllByRecursion (Apart x) ys
      others x less [] all = tt
      others x less (y ∷ ys) all = (apart x y (omega (arith, less, all.0)), others x less ys all.1)

      pairs : (xs : List NumberedHop) → AllByRecursion (λ x. key x < count) xs → AllByRecursion (λ x. AllByRecursion (Apart x) (each count)) xs
      pairs [] all = tt
      pairs (x ∷ xs) all = (others x all.0 (each count) (has count), pairs xs all.1)

-- of different links, and of different pins
pub link_apart : (x y : NumberedHop) → x.link < y.link → Apart x y
link_apart x y less =
    let one : (x.link == y.link) ≡ false = ne_eqb x.link y.link (λ same. omega (arith, same, less)) in
    let other : (y.link == x.link) ≡ false = ne_eqb y.link x.link (λ same. omega (arith, same, less)) in
    record { there = ap (λ (test : Bool). test && x.pin == y.pin) one; back = ap (λ (test : Bool). test && y.pin == x.pin) other }

pub pin_apart : (x y : NumberedHop) → x.pin < y.pin → Apart x y
pin_apart x y less =
    record {
      there = and_right (x.link == y.link) (x.pin == y.pin) (ne_eqb x.pin y.pin (λ same. omega (arith, same, less)));
      back = and_right (y.link == x.link) (y.pin == x.pin) (ne_eqb y.pin x.pin (λ same. omega (arith, same, less)));
    }

-- ---- the hops of one pin

abbrev pub is_end : List NumberedHop → Bool
is_end [] = true
is_end (hop ∷ hops) = false

-- numbered from a number on; the last one is marked
abbrev pub in_turn : ℕ → List NumberedHop → List Outlet
in_turn number [] = []
in_turn number (hop ∷ hops) = record { hop = hop; number = number; is_last = is_end hops } ∷ in_turn (suc number) hops

module _ (link pin : ℕ) where
  pub record IsOfPin (hop : NumberedHop) : Type 0 where
    pub over : hop.link ≡ link
    pub by : hop.pin ≡ pin

  one_pin : (x y : NumberedHop) → IsOfPin x → IsOfPin y → have_one_pin x y ≡ true
  one_pin x y one other =
      and_from (x.link == y.link) (x.pin == y.pin) (eq-eqb x.link y.link (one.over ∙ sym other.over)) (eq-eqb x.pin y.pin (one.by ∙ sym other.by))

  numbered : (before : Option NumberedHop) (number : ℕ)
      → ((hop : NumberedHop) → IsOfPin hop → cond (is_of_pin hop before) number 0 ≡ number) → (hops : List NumberedHop)
      → AllByRecursion IsOfPin hops
      → outlets_behind before number hops ≡ in_turn number hops
  numbered before number own [] all = refl
  numbered before number own (hop ∷ hops) all =
      ap behind (own hop all.0)
      ∙ ap₂ (λ (last : Bool) (rest : List Outlet). record { hop = hop; number = number; is_last = last } ∷ rest) (ends hops all.1)
      (numbered (Some hop) (suc number) (λ next is. ap (λ (test : Bool). cond test (suc number) 0) (one_pin next hop is all.0)) hops all.1) where
        behind : ℕ → List Outlet
        behind k = record { hop = hop; number = k; is_last = not (is_of_pin hop (head_hop hops)) } ∷ outlets_behind (Some hop) (suc k) hops

        ends : (more : List NumberedHop) → AllByRecursion IsOfPin more → not (is_of_pin hop (head_hop more)) ≡ is_end more
        ends [] every = refl
        ends (next ∷ more) every = ap not (one_pin hop next all.0 every.0)

  pub one_block : (hops : List NumberedHop) → AllByRecursion IsOfPin hops → outlets_behind None 0 hops ≡ in_turn 0 hops
  one_block hops all = numbered None 0 (λ hop is. refl) hops all
