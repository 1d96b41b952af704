-- Settings with names of their own: a word gives one of them at most.
use Rattle.std.proofs.Common.{◌≡◌, ◌==◌, ◌&&◌, ◌||◌, not, ℕ, zero, suc, Bool, true, false, List, [], ◌∷◌, ◌++◌, length, take, drop, cond, Option, Some, None, ◌⊎◌, inl, inr, ⊎_elim, refl, sym, ◌∙◌, ap, ap₂, arith, nat_eq, eq-eqb}
use Rattle.std.specs.Prelude.{IsTrue, codes, is_some, option_and_then}
use Rattle.std.specs.List.{Contains, list_any}
use Rattle.std.specs.Str.{bytes_eq}
use Rattle.std.proofs.lemmas.Bool.{eqb-true, and_parts}
use Rattle.std.proofs.lemmas.List.Folds.{list_any_at}
use Rattle.std.proofs.lemmas.Slice.Eq.{bytes_eq-Decides}
use Rattle.vw_words.specs.Forms.{Setting, is_value_of, behind_front, gives}
use Rattle.vw_words.specs.WordsOfForms.{has_equals, are_told_apart}
use Rattle.vw_words.proofs.WordsOfForms.{GiveOneEach}

-- a word is its front, and what stands behind it
front_and_rest : (front word rest : List ℕ) → behind_front front word ≡ Some rest → word ≡ front ++ rest
front_and_rest [] word rest is = (cc)
front_and_rest (b ∷ front) [] rest is = (cc)
front_and_rest (b ∷ front) (c ∷ word) rest is = by (nat_eq c b) refl is (front_and_rest front word rest) where
  by : (same : Bool) → nat_eq c b ≡ same → cond (same && bytes_eq (take (length front) word) front) (Some (drop (length front) word)) None ≡ Some rest
      → (behind_front front word ≡ Some rest → word ≡ front ++ rest) → c ∷ word ≡ b ∷ (front ++ rest)
  by true same is later = ap₂ (λ (x : ℕ) (xs : List ℕ). x ∷ xs) (eqb-true c b same) (later is)
  by false same is later = (cc)

either_false : (a b : Bool) → (a || b) ≡ false → (a ≡ false) × (b ≡ false)
either_false true b none = (cc)
either_false false b none = (refl, none)

-- two names without `=`, with `=` behind them
same_names : (a b s t : List ℕ) → has_equals a ≡ false → has_equals b ≡ false → a ++ 61 ∷ s ≡ b ++ 61 ∷ t → a ≡ b
same_names [] [] s t plain other same = refl
same_names [] (y ∷ b) s t plain other same =
    let head : y ≡ 61 = cc in
    let found : true ≡ false = sym (eq-eqb y 61 head) ∙ (either_false (y == 61) (has_equals b) other).0 in (cc)
same_names (x ∷ a) [] s t plain other same =
    let head : x ≡ 61 = cc in
    let found : true ≡ false = sym (eq-eqb x 61 head) ∙ (either_false (x == 61) (has_equals a) plain).0 in (cc)
same_names (x ∷ a) (y ∷ b) s t plain other same =
    let head : x ≡ y = cc in
    let tail : a ++ 61 ∷ s ≡ b ++ 61 ∷ t = cc in
    ap₂ (λ (z : ℕ) (zs : List ℕ). z ∷ zs) head (same_names a b s t (either_false (x == 61) (has_equals a) plain).1 (either_false (y == 61) (has_equals b) other).1 tail)

-- a word that gives a setting begins with its name and `=`
begins_so : (setting : Setting) (word : List ℕ) → IsTrue (gives setting word) → (text : List ℕ) × (word ≡ setting.name ++ 61 ∷ text)
begins_so setting word gives_it = by (behind_front setting.name word) refl gives_it where
  within : (rest : List ℕ) → behind_front setting.name word ≡ Some rest → (found : Option (List ℕ)) → behind_front (codes "=") rest ≡ found
      → is_some (option_and_then (λ text. cond (is_value_of setting.value text) (Some text) None) found) ≡ true → (text : List ℕ) × (word ≡ setting.name ++ 61 ∷ text)
  within rest name None is none = (cc)
  within rest name (Some text) is some =
      (text, front_and_rest setting.name word rest name ∙ ap (λ (later : List ℕ). setting.name ++ later) (front_and_rest (codes "=") rest text is))

  by : (found : Option (List ℕ)) → behind_front setting.name word ≡ found
      → is_some (option_and_then (λ text. cond (is_value_of setting.value text) (Some text) None) (option_and_then (behind_front (codes "=")) found)) ≡ true → (text : List ℕ) × (word ≡ setting.name ++ 61 ∷ text)
  by None is none = (cc)
  by (Some rest) is some = within rest is (behind_front (codes "=") rest) refl some

-- an element is the first one or a later one
first_or_later : (setting : Setting) (settings : List Setting) (found : Setting) → Contains (setting ∷ settings) found → (setting ≡ found) ⊎ Contains settings found
first_or_later setting settings found (zero, within, is) = inl is
first_or_later setting settings found (suc k, within, is) = inr (k, omega arith, is)

negated : (b : Bool) → not b ≡ true → b ≡ false
negated true is = (cc)
negated false is = refl

-- what is said of the first setting and of the others
record Apart (setting : Setting) (settings : List Setting) : Type 0 where
  pub plain : has_equals setting.name ≡ false
  pub alone : list_any (λ other. bytes_eq other.name setting.name) settings ≡ false
  pub others : are_told_apart settings ≡ true

apart_of : (setting : Setting) (settings : List Setting) → are_told_apart (setting ∷ settings) ≡ true → Apart setting settings
apart_of setting settings apart =
    let same = list_any (λ other. bytes_eq other.name setting.name) settings in
    let first = and_parts (not (has_equals setting.name)) (not same && are_told_apart settings) apart in
    let next = and_parts (not same) (are_told_apart settings) first.1 in
    record { plain = negated (has_equals setting.name) first.0; alone = negated same next.0; others = next.1 }

plain_name : (settings : List Setting) → are_told_apart settings ≡ true → (found : Setting) → Contains settings found → has_equals found.name ≡ false
plain_name [] apart found (k, within, is) = absurd (omega arith)
plain_name (setting ∷ settings) apart found among =
    let parts = apart_of setting settings apart in
    ⊎_elim (λ is. ap (λ (s : Setting). has_equals s.name) (sym is) ∙ parts.plain) (plain_name settings parts.others found) (first_or_later setting settings found among)

-- no later one has the name of the first
not_alone : (setting : Setting) (settings : List Setting) (other : Setting) → Apart setting settings → Contains settings other → other.name ≡ setting.name → ⊥
not_alone setting settings other parts (k, within, is) same =
    let test : Setting → Bool = λ one. bytes_eq one.name setting.name in
    let found : list_any test settings ≡ true = list_any_at test settings k other within (ap test is ∙ (bytes_eq-Decides other.name setting.name).1 same) in
    let both : true ≡ false = sym found ∙ parts.alone in (cc)

same_setting : (settings : List Setting) → are_told_apart settings ≡ true → (one other : Setting) → Contains settings one → Contains settings other → one.name ≡ other.name → one ≡ other
same_setting [] apart one other (k, within, is) among same = absurd (omega arith)
same_setting (setting ∷ settings) apart one other first second same =
    let parts = apart_of setting settings apart in
    by parts (same_setting settings parts.others one other) (first_or_later setting settings one first) (first_or_later setting settings other second) where
      by : Apart setting settings → (Contains settings one → Contains settings other → one.name ≡ other.name → one ≡ other)
          → (setting ≡ one) ⊎ Contains settings one → (setting ≡ other) ⊎ Contains settings other → one ≡ other
      by parts later (inl here) (inl there) = sym here ∙ there
      by parts later (inl here) (inr there) = absurd (not_alone setting settings other parts there (sym same ∙ ap (λ (s : Setting). s.name) (sym here)))
      by parts later (inr here) (inl there) = absurd (not_alone setting settings one parts here (same ∙ ap (λ (s : Setting). s.name) (sym there)))
      by parts later (inr here) (inr there) = later here there same

pub give_one_each : (settings : List Setting) → are_told_apart settings ≡ true → GiveOneEach settings
give_one_each settings apart word one other first second gives_one gives_other =
    let this = begins_so one word gives_one in
    let that = begins_so other word gives_other in
    same_setting settings apart one other first second
    (same_names one.name other.name this.0 that.0 (plain_name settings apart one first) (plain_name settings apart other second) (sym this.1 ∙ that.1))
