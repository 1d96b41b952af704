-- Words have a form where each part of it has its words.
use Rattle.std.proofs.Common.{◌≡◌, ◌<◌, ◌≤◌, ◌+◌, ◌&&◌, ℕ, zero, suc, Bool, true, false, nat_lt, List, [], ◌∷◌, ◌++◌, length, cond, get_or, refl, sym, ◌∙◌, ap, ap₂, subst, arith, append_assoc, append-nil, length-append, eq-eqb}
use Rattle.std.specs.Prelude.{IsTrue, Any, count_by}
use Rattle.std.specs.List.{All, AllZip, Contains}
use Rattle.std.proofs.lemmas.Bool.{eqb-true, le-leb, lt-ltb, leb-true, ltb-true, and_parts}
use Rattle.std.proofs.lemmas.List.Elements.{All-head, All-tail, All-cons, Contains-get_or}
use Rattle.std.proofs.lemmas.List.Folds.{list_any_at, Any-from_list_any}
use Rattle.std.proofs.lemmas.List.Sums.{sum_by-append, sum_by-cons}
use Rattle.vw_words.specs.Forms.{Place, suits, Setting, gives, Form}
use Rattle.vw_words.specs.Matched.{is_setting, matched_settings, matched, matched_by, has_form}
use Rattle.vw_words.specs.WordsOfForms.{AreWordsOf, HasWordsOf}

-- no word gives two settings
abbrev pub GiveOneEach : List Setting → Type 0
GiveOneEach settings =
    (word : List ℕ) (one other : Setting) → Contains settings one → Contains settings other → IsTrue (gives one word) → IsTrue (gives other word) → one ≡ other

-- one for a word that passes
abbrev one_if : (List ℕ → Bool) → List ℕ → ℕ
one_if p word = cond (p word) 1 0

counts : (p : List ℕ → Bool) (before : List (List ℕ)) (word : List ℕ) (words : List (List ℕ)) → count_by p (before ++ word ∷ words) ≡ count_by p before + (one_if p word + count_by p words)
counts p before word words = sum_by-append (one_if p) before (word ∷ words) ∙ ap (λ (n : ℕ). count_by p before + n) (sum_by-cons (one_if p) word words)

module _ (settings : List Setting) where
  -- each setting is given as often as it may, or less often
  abbrev pub AreFew : List (List ℕ) → Type 0
  AreFew words = All (λ setting. count_by (gives setting) words ≤ setting.times) settings

  abbrev pub GivesSome : List ℕ → Type 0
  GivesSome word = Any (λ setting. IsTrue (gives setting word)) settings

  -- a word gives a setting that may be given once more
  gives_more : (before : List (List ℕ)) (word : List ℕ) (words : List (List ℕ)) → GivesSome word → AreFew (before ++ word ∷ words) → is_setting settings before word ≡ true
  gives_more before word words (k, setting, within, at, gives_it) few =
      let here : count_by (gives setting) (before ++ word ∷ words) ≤ setting.times =
      subst (λ (s : Setting). count_by (gives s) (before ++ word ∷ words) ≤ s.times) at (few k setting within) in
      let one : one_if (gives setting) word ≡ 1 = ap (λ (b : Bool). cond b 1 0) gives_it in
      let room : count_by (gives setting) before < setting.times = omega (arith, here, one, counts (gives setting) before word words) in
      list_any_at (λ s. gives s word && nat_lt (count_by (gives s) before) s.times) settings k setting within
      (ap (λ (s : Setting). gives s word && nat_lt (count_by (gives s) before) s.times) at
      ∙ ap₂ (λ (a b : Bool). a && b) gives_it (lt-ltb (count_by (gives setting) before) setting.times room))

  pub all_matched : (before rest : List (List ℕ)) → All GivesSome rest → AreFew (before ++ rest) → matched_settings settings before rest ≡ length rest
  all_matched before [] each few = refl
  all_matched before (word ∷ words) each few =
      ap (λ (b : Bool). cond b (suc (matched_settings settings (before ++ word ∷ []) words)) zero) (gives_more before word words (All-head GivesSome word words each) few)
      ∙ ap suc (all_matched (before ++ word ∷ []) words (All-tail GivesSome word words each) (subst AreFew (sym (append_assoc before (word ∷ []) words)) few))

  pub front_matched : (places : List Place) (front rest : List (List ℕ)) → AllZip (λ place word. IsTrue (suits place word)) places front
      → matched places settings (front ++ rest) ≡ length front + matched_settings settings [] rest
  front_matched [] [] rest suit = omega arith
  front_matched [] (word ∷ front) rest suit = absurd suit
  front_matched (place ∷ places) [] rest suit = absurd suit
  front_matched (place ∷ places) (word ∷ front) rest suit =
      ap (λ (b : Bool). cond b (suc (matched places settings (front ++ rest))) zero) suit.0 ∙ ap suc (front_matched places front rest suit.1)
      ∙ (let e : suc (length front + matched_settings settings [] rest) ≡ length (word ∷ front) + matched_settings settings [] rest = omega arith in e)

-- as many words as places
as_many : (places : List Place) (front : List (List ℕ)) → AllZip (λ place word. IsTrue (suits place word)) places front → length places ≡ length front
as_many [] [] suit = refl
as_many [] (word ∷ front) suit = absurd suit
as_many (place ∷ places) [] suit = absurd suit
as_many (place ∷ places) (word ∷ front) suit = ap suc (as_many places front suit.1)

pub words_have_form : (form : Form) (front settings : List (List ℕ)) → AreWordsOf form front settings → has_form (front ++ settings) form ≡ true
words_have_form form front settings are =
    let count : matched_by form (front ++ settings) ≡ length front + length settings =
    front_matched form.settings form.places front settings are.places ∙ ap (λ (n : ℕ). length front + n) (all_matched form.settings [] settings are.each are.few) in
    let all : matched_by form (front ++ settings) ≡ length (front ++ settings) = count ∙ sym (length-append front settings) in
    let long : length form.places ≤ length (front ++ settings) = omega (arith, as_many form.places front are.places, length-append front settings) in
    ap₂ (λ (a b : Bool). a && b) (eq-eqb (matched_by form (front ++ settings)) (length (front ++ settings)) all) (le-leb (length form.places) (length (front ++ settings)) long)

-- words that are matched, in their parts
record Parts (settings : List Setting) (places : List Place) (words : List (List ℕ)) : Type 0 where
  pub front : List (List ℕ)
  pub rest : List (List ℕ)
  pub whole : words ≡ front ++ rest
  pub suit : AllZip (λ place word. IsTrue (suits place word)) places front
  pub same : matched_settings settings [] rest ≡ length rest

module _ (settings : List Setting) where
  one_before : (place : Place) (places : List Place) (word : List ℕ) (words : List (List ℕ)) → IsTrue (suits place word) → Parts settings places words → Parts settings (place ∷ places) (word ∷ words)
  one_before place places word words suit parts =
      record { front = word ∷ parts.front; rest = parts.rest; whole = ap (λ (later : List (List ℕ)). word ∷ later) parts.whole; suit = (suit, parts.suit); same = parts.same }

  parts_of : (places : List Place) (words : List (List ℕ)) → matched places settings words ≡ length words → length places ≤ length words → Parts settings places words
  parts_of [] words all long = record { front = []; rest = words; whole = refl; suit = tt; same = all }
  parts_of (place ∷ places) [] all long = absurd (omega arith)
  parts_of (place ∷ places) (word ∷ words) all long = by (suits place word) refl all (λ rest. parts_of places words rest (omega arith)) where
    by : (suit : Bool) → suits place word ≡ suit → cond suit (suc (matched places settings words)) zero ≡ suc (length words) → (matched places settings words ≡ length words → Parts settings places words) → Parts settings (place ∷ places) (word ∷ words)
    by true suit all later = one_before place places word words suit (later (omega arith))
    by false suit all later = absurd (omega arith)

  -- a word that gives a setting which may be given once more gives a setting
  some_given : (before : List (List ℕ)) (word : List ℕ) → is_setting settings before word ≡ true → GivesSome settings word
  some_given before word is_one =
      let found = Any-from_list_any (λ setting. gives setting word && nat_lt (count_by (gives setting) before) setting.times) settings is_one in
      (found.0, found.1, found.2, found.3, (and_parts _ _ found.4).0)

  module _ (one_each : GiveOneEach settings) where
    few_at : (before : List (List ℕ)) (word : List ℕ) (setting : Setting) → Contains settings setting → count_by (gives setting) before ≤ setting.times → is_setting settings before word ≡ true
        → count_by (gives setting) (before ++ word ∷ []) ≤ setting.times
    few_at before word setting among few is_one = by (gives setting word) refl where
      by : (gives_it : Bool) → gives setting word ≡ gives_it → count_by (gives setting) (before ++ word ∷ []) ≤ setting.times
      by true gives_it =
          let found = Any-from_list_any (λ other. gives other word && nat_lt (count_by (gives other) before) other.times) settings is_one in
          let parts = and_parts _ _ found.4 in
          let same : setting ≡ found.1 = one_each word setting found.1 among (found.0, found.2, found.3) gives_it parts.0 in
          let room : count_by (gives setting) before < setting.times =
          subst (λ (s : Setting). count_by (gives s) before < s.times) (sym same) (ltb-true _ _ parts.1) in
          let one : one_if (gives setting) word ≡ 1 = ap (λ (b : Bool). cond b 1 0) gives_it in
          omega (arith, room, one, counts (gives setting) before word [])
      by false gives_it =
          let none : one_if (gives setting) word ≡ 0 = ap (λ (b : Bool). cond b 1 0) gives_it in
          omega (arith, few, none, counts (gives setting) before word [])

    few_more : (before : List (List ℕ)) (word : List ℕ) → AreFew settings before → is_setting settings before word ≡ true → AreFew settings (before ++ word ∷ [])
    few_more before word few is_one k d within =
        few_at before word (get_or settings k d) (Contains-get_or settings k d within) (few k d within) is_one

    -- the words that are matched as settings each give one, and none too often
    are_settings : (before rest : List (List ℕ)) → AreFew settings before → matched_settings settings before rest ≡ length rest → All (GivesSome settings) rest × AreFew settings (before ++ rest)
    are_settings before [] few all = ((λ k d within. absurd (omega arith)), subst (AreFew settings) (sym (append-nil before)) few)
    are_settings before (word ∷ words) few all = by (is_setting settings before word) refl all (λ one rest. are_settings (before ++ word ∷ []) words (few_more before word few one) (omega arith)) where
      by : (one : Bool) → is_setting settings before word ≡ one → cond one (suc (matched_settings settings (before ++ word ∷ []) words)) zero ≡ suc (length words)
          → (is_setting settings before word ≡ true → matched_settings settings (before ++ word ∷ []) words ≡ length words → All (GivesSome settings) words × AreFew settings ((before ++ word ∷ []) ++ words))
          → All (GivesSome settings) (word ∷ words) × AreFew settings (before ++ word ∷ words)
      by true one all later =
          let rest = later one (omega arith) in
          (All-cons (GivesSome settings) word words (some_given before word one) rest.0, subst (AreFew settings) (append_assoc before (word ∷ []) words) rest.1)
      by false one all later = absurd (omega arith)

pub form_has_words : (form : Form) (words : List (List ℕ)) → GiveOneEach form.settings → has_form words form ≡ true → HasWordsOf form words
form_has_words form words one_each has =
    let parts = and_parts _ _ has in
    let split = parts_of form.settings form.places words (eqb-true _ _ parts.0) (leb-true _ _ parts.1) in
    let are = are_settings form.settings one_each [] split.rest (λ k d within. omega arith) split.same in
    (split.front, split.rest, split.whole, record { places = split.suit; each = are.0; few = are.1 })
