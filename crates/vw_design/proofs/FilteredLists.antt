-- Lists that are filtered, values by numbers, and a number more.
use Rattle.std.proofs.Common.{eqb, find, ◌≡◌, ℕ, zero, suc, Bool, true, false, cond, List, [], ◌∷◌, length, map, take, Option, Some, None, slice_get, option_map, filter, refl, sym, ◌∙◌, ap, ap₂, true≢false}
use Rattle.std.specs.List.{IsDistinct, list_any}
use Rattle.std.proofs.lemmas.Bool.{cond-false}
use Rattle.std.proofs.lemmas.Option.{same_Some, none-some}
use Rattle.std.proofs.Math.Nat.{suc_inj}
use Rattle.vw_net.proofs.Lists.{differs}
use Rattle.vw_net.specs.FirstFound.{first_place}

module _ {A : Type 0} where
  -- a filter behind one that keeps more keeps what it keeps alone
  filter_by : (wide narrow : A → Bool) → ((x : A) → narrow x ≡ true → wide x ≡ true) → (x : A) (xs : List A) → filter narrow (filter wide xs) ≡ filter narrow xs
      → (kept : Bool) → wide x ≡ kept → filter narrow (cond kept (x ∷ filter wide xs) (filter wide xs)) ≡ filter narrow (x ∷ xs)
  filter_by wide narrow keeps x xs rest true is = ap (λ (ys : List A). cond (narrow x) (x ∷ ys) ys) rest
  filter_by wide narrow keeps x xs rest false is = rest ∙ sym (cond-false (narrow x) (x ∷ filter narrow xs) (filter narrow xs) (out (narrow x) refl)) where
    out : (b : Bool) → narrow x ≡ b → narrow x ≡ false
    out true passes = absurd (true≢false (sym (keeps x passes) ∙ is))
    out false fails = fails

  pub filter-filter : (wide narrow : A → Bool) → ((x : A) → narrow x ≡ true → wide x ≡ true) → (xs : List A) → filter narrow (filter wide xs) ≡ filter narrow xs
  filter-filter wide narrow keeps [] = refl
  filter-filter wide narrow keeps (x ∷ xs) = filter_by wide narrow keeps x xs (filter-filter wide narrow keeps xs) (wide x) refl

  -- the first place of an element that is kept, among those that are kept: as many as are kept before it
  kept_before : (keep : A → Bool) (k : ℕ) (xs : List A) → ℕ
  kept_before keep k xs = length (filter keep (take k xs))

  place_by : (passes keep : A → Bool) (y : A) (ys : List A) (k : ℕ) (x : A) → slice_get (y ∷ ys) k ≡ Some x → keep x ≡ true
      → (rest : (before : ℕ) → first_place passes ys ≡ Some before → slice_get ys before ≡ Some x → first_place passes (filter keep ys) ≡ Some (length (filter keep (take before ys))))
      → (b : Bool) → passes y ≡ b → (further : Option ℕ) → first_place passes ys ≡ further → cond b (Some 0) (option_map (λ at. suc at) further) ≡ Some k
      → (c : Bool) → keep y ≡ c → first_place passes (cond c (y ∷ filter keep ys) (filter keep ys)) ≡ Some (length (filter keep (take k (y ∷ ys))))
  place_by passes keep y ys zero x at kept rest true is further is_further found true keeps =
      ap (λ (b : Bool). cond b (Some 0) (option_map (λ place. suc place) (first_place passes (filter keep ys)))) is
  place_by passes keep y ys zero x at kept rest true is further is_further found false keeps = absurd (true≢false (sym kept ∙ ap keep (sym (same_Some y x at)) ∙ keeps))
  place_by passes keep y ys (suc k) x at kept rest true is further is_further found c keeps = absurd (zero_suc k (same_Some 0 (suc k) found)) where
    zero_suc : (k : ℕ) → 0 ≡ suc k → ⊥
    zero_suc k e = cc
  place_by passes keep y ys k x at kept rest false is None is_further found c keeps = absurd (none-some k found)
  place_by passes keep y ys zero x at kept rest false is (Some before) is_further found c keeps = absurd (suc_zero before (same_Some (suc before) 0 found)) where
    suc_zero : (k : ℕ) → suc k ≡ 0 → ⊥
    suc_zero k e = cc
  place_by passes keep y ys (suc k) x at kept rest false is (Some before) is_further found true keeps =
      let same : before ≡ k = suc_inj (same_Some (suc before) (suc k) found) in
      let there = rest before is_further (ap (slice_get ys) same ∙ at) in
      ap (λ (b : Bool). cond b (Some 0) (option_map (λ place. suc place) (first_place passes (filter keep ys)))) is
      ∙ ap (option_map (λ (place : ℕ). suc place)) there
      ∙ ap (λ (n : ℕ). Some (suc (length (filter keep (take n ys))))) same
      ∙ sym (ap (λ (b : Bool). Some (length (cond b (y ∷ filter keep (take k ys)) (filter keep (take k ys))))) keeps)
  place_by passes keep y ys (suc k) x at kept rest false is (Some before) is_further found false keeps =
      let same : before ≡ k = suc_inj (same_Some (suc before) (suc k) found) in
      let there = rest before is_further (ap (slice_get ys) same ∙ at) in
      there ∙ ap (λ (n : ℕ). Some (length (filter keep (take n ys)))) same
      ∙ sym (ap (λ (b : Bool). Some (length (cond b (y ∷ filter keep (take k ys)) (filter keep (take k ys))))) keeps)

  pub place_in_filter : (passes keep : A → Bool) (xs : List A) (k : ℕ) (x : A) → first_place passes xs ≡ Some k → slice_get xs k ≡ Some x → keep x ≡ true
      → first_place passes (filter keep xs) ≡ Some (length (filter keep (take k xs)))
  place_in_filter passes keep [] k x found at kept = absurd (none-some x at)
  place_in_filter passes keep (y ∷ ys) k x found at kept =
      place_by passes keep y ys k x at kept (λ before is there. place_in_filter passes keep ys before x is there kept) (passes y) refl (first_place passes ys) refl found (keep y) refl

module _ {A : Type 0} where
  -- values of things by their numbers
  pub map_numbered : {V : Type 0} (number : A → Option ℕ) (value : ℕ → V) (other : A → V) → ((x : A) (n : ℕ) → number x ≡ Some n → value n ≡ other x)
      → (xs : List A) (ns : List ℕ) → map number xs ≡ map (λ n. Some n) ns → map value ns ≡ map other xs
  map_numbered number value other agree [] [] are = refl
  map_numbered number value other agree [] (n ∷ ns) are = cc
  map_numbered number value other agree (x ∷ xs) [] are = cc
  map_numbered {V} number value other agree (x ∷ xs) (n ∷ ns) are =
      let first : number x ≡ Some n = cc in
      let rest : map number xs ≡ map (λ (m : ℕ). Some m) ns = cc in
      ap₂ (λ (v : V) (vs : List V). v ∷ vs) (agree x n first) (map_numbered number value other agree xs ns rest)

-- tests that agree find the same
pub find_same : {A : Type 0} (one other : A → Bool) → ((x : A) → one x ≡ other x) → (xs : List A) → find one xs ≡ find other xs
find_same one other same [] = refl
find_same one other same (x ∷ xs) = ap₂ (λ (b : Bool) (rest : Option _). cond b (Some x) rest) (same x) (find_same one other same xs)

-- one number more, where none stands twice
pub distinct_more : (number : ℕ) (numbers : List ℕ) → list_any (eqb number) numbers ≡ false → IsDistinct eqb numbers → IsDistinct eqb (number ∷ numbers)
unfolding IsDistinct
distinct_more number numbers none distinct = (differs number numbers none, distinct)
