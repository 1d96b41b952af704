-- The first wrong word stands behind the longest front that some form has.
use Rattle.std.proofs.Common.{◌≡◌, ◌≤◌, ◌+◌, ◌&&◌, ℕ, zero, suc, Bool, true, false, List, [], ◌∷◌, ◌++◌, length, take, drop, cond, ◌⊎◌, inl, inr, ⊎_elim, refl, sym, ◌∙◌, ap, ap₂, subst, arith, length-append, eq-eqb}
use Rattle.std.specs.Prelude.{IsTrue}
use Rattle.std.specs.List.{All, Contains}
use Rattle.std.proofs.Math.Nat.{le-max_left, le-max_right, max-eq_left, max-eq_right}
use Rattle.std.proofs.lemmas.Bool.{eqb-true, le-leb, and_parts}
use Rattle.std.proofs.lemmas.List.{take-append-drop, length-take-le}
use Rattle.std.proofs.lemmas.List.Elements.{All-head, All-tail, All-contains}
use Rattle.vw_words.specs.FirstWrong.{IsFrontOfForm, IsFirstWrong, CanBeGiven}
use Rattle.vw_words.specs.Forms.{Place, suits, Setting, Form}
use Rattle.vw_words.specs.Matched.{is_setting, matched_settings, matched, matched_by, furthest, first_wrong}

-- there is a word for a place
abbrev CanStand : Place → Type 0
CanStand place = (word : List ℕ) × IsTrue (suits place word)

-- how far words are matched depends on those words alone
module _ (settings : List Setting) where
  settings_front : (before front rest other : List (List ℕ)) → length front ≤ matched_settings settings before (front ++ rest) → length front ≤ matched_settings settings before (front ++ other)
  settings_front before [] rest other all = omega arith
  settings_front before (word ∷ front) rest other all = by (is_setting settings before word) all (settings_front (before ++ word ∷ []) front rest other) where
    by : (one : Bool) → suc (length front) ≤ cond one (suc (matched_settings settings (before ++ word ∷ []) (front ++ rest))) zero
        → (length front ≤ matched_settings settings (before ++ word ∷ []) (front ++ rest) → length front ≤ matched_settings settings (before ++ word ∷ []) (front ++ other))
        → suc (length front) ≤ cond one (suc (matched_settings settings (before ++ word ∷ []) (front ++ other))) zero
    by true all later = let on = later (omega (arith, all)) in omega (arith, on)
    by false all later = absurd (omega (arith, all))

  matched_front : (places : List Place) (front rest other : List (List ℕ)) → length front ≤ matched places settings (front ++ rest) → length front ≤ matched places settings (front ++ other)
  matched_front [] front rest other all = settings_front [] front rest other all
  matched_front (place ∷ places) [] rest other all = omega arith
  matched_front (place ∷ places) (word ∷ front) rest other all = by (suits place word) all (matched_front places front rest other) where
    by : (suit : Bool) → suc (length front) ≤ cond suit (suc (matched places settings (front ++ rest))) zero
        → (length front ≤ matched places settings (front ++ rest) → length front ≤ matched places settings (front ++ other))
        → suc (length front) ≤ cond suit (suc (matched places settings (front ++ other))) zero
    by true all later = let on = later (omega (arith, all)) in omega (arith, on)
    by false all later = absurd (omega (arith, all))

  settings_within : (before words : List (List ℕ)) → matched_settings settings before words ≤ length words
  settings_within before [] = omega arith
  settings_within before (word ∷ words) = by (is_setting settings before word) (settings_within (before ++ word ∷ []) words) where
    by : (one : Bool) → matched_settings settings (before ++ word ∷ []) words ≤ length words → cond one (suc (matched_settings settings (before ++ word ∷ []) words)) zero ≤ suc (length words)
    by true later = omega (arith, later)
    by false later = omega arith

  matched_within : (places : List Place) (words : List (List ℕ)) → matched places settings words ≤ length words
  matched_within [] words = settings_within [] words
  matched_within (place ∷ places) [] = omega arith
  matched_within (place ∷ places) (word ∷ words) = by (suits place word) (matched_within places words) where
    by : (suit : Bool) → matched places settings words ≤ length words → cond suit (suc (matched places settings words)) zero ≤ suc (length words)
    by true later = omega (arith, later)
    by false later = omega arith

  -- words with which a front has a form
  record Completed (places : List Place) (front : List (List ℕ)) : Type 0 where
    pub more : List (List ℕ)
    pub all : matched places settings (front ++ more) ≡ length (front ++ more)
    pub long : length places ≤ length (front ++ more)

  completed : (places : List Place) (front rest : List (List ℕ)) → All CanStand places → length front ≤ matched places settings (front ++ rest) → Completed places front
  completed [] front rest can all =
      let on : length front ≤ matched [] settings (front ++ []) = matched_front [] front rest [] all in
      let within : matched [] settings (front ++ []) ≤ length (front ++ []) = matched_within [] (front ++ []) in
      record { more = []; all = omega (arith, on, within, length-append front []); long = omega arith }
  completed (place ∷ places) [] rest can all =
      let word = All-head CanStand place places can in
      let later = completed places [] [] (All-tail CanStand place places can) (omega arith) in
      record {
        more = word.0 ∷ later.more;
        all = ap (λ (b : Bool). cond b (suc (matched places settings later.more)) zero) word.1 ∙ ap suc later.all;
        long = omega (arith, later.long);
      }
  completed (place ∷ places) (word ∷ front) rest can all = by (suits place word) refl all (completed places front rest (All-tail CanStand place places can)) where
    by : (suit : Bool) → suits place word ≡ suit → suc (length front) ≤ cond suit (suc (matched places settings (front ++ rest))) zero
        → (length front ≤ matched places settings (front ++ rest) → Completed places front) → Completed (place ∷ places) (word ∷ front)
    by true is all later =
        let on = later (omega (arith, all)) in
        record {
          more = on.more;
          all = ap (λ (b : Bool). cond b (suc (matched places settings (front ++ on.more))) zero) is ∙ ap suc on.all;
          long = omega (arith, on.long);
        }
    by false is all later = absurd (omega (arith, all))

-- a front of a form's words is matched by it
front_is_matched : (form : Form) (front rest : List (List ℕ)) → IsFrontOfForm form front → length front ≤ matched_by form (front ++ rest)
front_is_matched form front rest is_front =
    let all : matched_by form (front ++ is_front.0) ≡ length (front ++ is_front.0) = eqb-true _ _ (and_parts _ _ is_front.1).0 in
    matched_front form.settings form.places front is_front.0 rest (omega (arith, all, length-append front is_front.0))

-- words that a form matches are a front of its words
matched_is_front : (form : Form) (front rest : List (List ℕ)) → CanBeGiven form → length front ≤ matched_by form (front ++ rest) → IsFrontOfForm form front
matched_is_front form front rest can all =
    let on = completed form.settings form.places front rest can all in
    (on.more, ap₂ (λ (a b : Bool). a && b) (eq-eqb _ _ on.all) (le-leb _ _ on.long))

-- an element is the first one or a later one
first_or_later : (form : Form) (forms : List Form) (found : Form) → Contains (form ∷ forms) found → (form ≡ found) ⊎ Contains forms found
first_or_later form forms found (zero, within, is) = inl is
first_or_later form forms found (suc k, within, is) = inr (k, omega (arith, within), is)

module _ (words : List (List ℕ)) where
  furthest_bounds : (forms : List Form) (form : Form) → Contains forms form → matched_by form words ≤ furthest forms words
  furthest_bounds [] form (k, within, is) = absurd (omega (arith, within))
  furthest_bounds (one ∷ forms) form among =
      ⊎_elim
      (λ is. subst (λ (f : Form). matched_by f words ≤ furthest (one ∷ forms) words) is (le-max_left (matched_by one words) (furthest forms words)))
      (λ among. let later = furthest_bounds forms form among in let most = le-max_right (matched_by one words) (furthest forms words) in omega (arith, later, most))
      (first_or_later one forms form among)

  -- some form matches so many words
  furthest_reached : (form : Form) (forms : List Form) → (found : Form) × Contains (form ∷ forms) found × (matched_by found words ≡ furthest (form ∷ forms) words)
  furthest_reached form [] = (form, (0, omega arith, refl), sym (max-eq_left (omega arith)))
  furthest_reached form (next ∷ forms) = by (furthest_reached next forms) (le_or_ge (matched_by form words) (furthest (next ∷ forms) words)) where
    le_or_ge : (a b : ℕ) → (a ≤ b) ⊎ (b ≤ a)
    le_or_ge zero b = inl (omega arith)
    le_or_ge (suc a) zero = inr (omega arith)
    le_or_ge (suc a) (suc b) = ⊎_elim (λ le. inl (omega (arith, le))) (λ ge. inr (omega (arith, ge))) (le_or_ge a b)

    by : (found : Form) × Contains (next ∷ forms) found × (matched_by found words ≡ furthest (next ∷ forms) words)
        → (matched_by form words ≤ furthest (next ∷ forms) words) ⊎ (furthest (next ∷ forms) words ≤ matched_by form words)
        → (found : Form) × Contains (form ∷ next ∷ forms) found × (matched_by found words ≡ furthest (form ∷ next ∷ forms) words)
    by (found, (k, within, is), most) (inl less) = (found, (suc k, omega (arith, within), is), most ∙ sym (max-eq_right less))
    by later (inr more) = (form, (0, omega arith, refl), sym (max-eq_left more))

pub first_wrong_is : (form : Form) (forms : List Form) (words : List (List ℕ)) → All CanBeGiven (form ∷ forms) → IsFirstWrong (form ∷ forms) words (first_wrong (form ∷ forms) words)
first_wrong_is form forms words can =
    let most : ℕ = furthest (form ∷ forms) words in
    let reached = furthest_reached words form forms in
    let few : most ≤ length words = let within = matched_within reached.0.settings reached.0.places words in omega (arith, within, reached.2) in
    let long : length (take most words) ≡ most = length-take-le most words few in
    let split : take most words ++ drop most words ≡ words = take-append-drop most words in
    let all : matched_by reached.0 (take most words ++ drop most words) ≡ most = ap (matched_by reached.0) split ∙ reached.2 in
    record {
      front = take most words;
      rest = drop most words;
      whole = sym split;
      is_front = (reached.0, reached.1, matched_is_front reached.0 (take most words) (drop most words) (All-contains CanBeGiven (form ∷ forms) reached.0 can reached.1) (omega (arith, long, all)));
      longest = λ other later whole is_front.
          let it = front_is_matched is_front.0 other later is_front.2 in
          let same : matched_by is_front.0 (other ++ later) ≡ matched_by is_front.0 words = ap (matched_by is_front.0) (sym whole) in
          let bound = furthest_bounds words (form ∷ forms) is_front.0 is_front.1 in
          omega (arith, it, same, bound, long);
      behind = ap (λ (n : ℕ). n + 1) (sym long);
    }
