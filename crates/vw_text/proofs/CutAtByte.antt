-- Texts cut at the first byte of a kind: where a search for it ends, and that a text is cut there in one way.
use Rattle.std.proofs.Common.{◌≡◌, ◌+◌, ◌-◌, ◌<◌, ◌≤◌, ◌==◌, ℕ, Bool, true, false, List, [], ◌∷◌, ◌++◌, length, take, drop, get_or, slice_index, refl, sym, ◌∙◌, ap, ap₂, eqb-true, eq-eqb, All, true≢false, arith}
use Rattle.std.specs.List.{position_or_len, before_first, after_first}
use Rattle.std.proofs.lemmas.Bool.{false_from_ne_true}
use Rattle.std.proofs.Math.Seq.{drop-append-add}
use Rattle.std.proofs.lemmas.List.{take-append-drop, take_at, drop_more, take_rest, get_or_append_left, get_or_at, get_or-take, length-append, length-take-le}
use Rattle.std.proofs.lemmas.List.Elements.{All-head, All-tail, All-from_get_or}
use Rattle.std.proofs.lemmas.List.Sums.{position_or_len_is}
use Rattle.vw_text.proofs.FoundBytes.{HasNo}

-- ---- where a search for a byte ends

-- a byte is nowhere in a text
pub none_at : (byte : ℕ) (text : List ℕ) → ((k : ℕ) → 0 ≤ k → k < length text → (slice_index text k == byte) ≡ true → ⊥) → HasNo (λ b. b == byte) text
none_at byte text before = All-from_get_or (λ b. (b == byte) ≡ false) text 0 (λ k inside. false_from_ne_true (slice_index text k == byte) (before k (omega arith) inside))

module _ (byte : ℕ) (text : List ℕ) (end : ℕ) (within : end < length text) (before : (k : ℕ) → 0 ≤ k → k < end → (slice_index text k == byte) ≡ true → ⊥) (ends : (slice_index text end == byte) ≡ true) where
  -- what stands before the first one has none
  pub front_without : HasNo (λ b. b == byte) (take end text)
  front_without =
      let long : length (take end text) ≡ end = length-take-le end text (omega arith) in
      All-from_get_or (λ b. (b == byte) ≡ false) (take end text) 0 (λ k inside. rw (get_or-take end text k 0 (omega arith)) (false_from_ne_true (slice_index text k == byte) (before k (omega arith) (omega arith))))

  -- and the text is that, the byte, and what stands behind it
  pub cut_whole : text ≡ take end text ++ byte ∷ take (length text - (end + 1)) (drop (end + 1) text)
  cut_whole =
      let behind : drop end text ≡ byte ∷ drop (end + 1) text = drop_more text end 0 within ∙ ap (λ (b : ℕ). b ∷ drop (end + 1) text) (eqb-true (slice_index text end) byte ends) in
      sym (take-append-drop end text) ∙ ap (λ (all : List ℕ). take end text ++ all) behind ∙ ap (λ (all : List ℕ). take end text ++ byte ∷ all) (sym (take_rest text (end + 1)))

-- ---- a text that is put together is cut where it was

module _ (test : ℕ → Bool) (front : List ℕ) (byte : ℕ) (rest : List ℕ) (none : HasNo test front) (is : test byte ≡ true) where
  -- the first place that passes
  pub cut_place : position_or_len test (front ++ byte ∷ rest) ≡ length front
  cut_place =
      position_or_len_is test (front ++ byte ∷ rest) (length front) byte (omega (arith, length-append front (byte ∷ rest)))
      (λ k below. ap test (get_or_append_left front (byte ∷ rest) byte k below) ∙ none k byte below)
      (λ _. ap test (get_or_at front byte rest byte (length front) refl) ∙ is)

  -- what stands before it
  pub cut_before : before_first test (front ++ byte ∷ rest) ≡ front
  cut_before = ap (λ (place : ℕ). take place (front ++ byte ∷ rest)) cut_place ∙ take_at front (byte ∷ rest) (length front) refl

  -- and what stands behind it
  pub cut_behind : after_first test (front ++ byte ∷ rest) ≡ rest
  cut_behind = ap (λ (place : ℕ). drop (place + 1) (front ++ byte ∷ rest)) cut_place ∙ drop-append-add front (byte ∷ rest) 1

-- in one way
pub cut_once : (byte : ℕ) (one other behind other_behind : List ℕ) → HasNo (λ b. b == byte) one → HasNo (λ b. b == byte) other → one ++ byte ∷ behind ≡ other ++ byte ∷ other_behind → (one ≡ other) × (behind ≡ other_behind)
cut_once byte [] [] behind other_behind plain other_plain same = (refl, cc)
cut_once byte [] (b ∷ ys) behind other_behind plain other_plain same =
    let head : b ≡ byte = cc in
    absurd (true≢false (sym (eq-eqb b byte head) ∙ All-head (λ (c : ℕ). (c == byte) ≡ false) b ys other_plain))
cut_once byte (a ∷ xs) [] behind other_behind plain other_plain same =
    let head : a ≡ byte = cc in
    absurd (true≢false (sym (eq-eqb a byte head) ∙ All-head (λ (c : ℕ). (c == byte) ≡ false) a xs plain))
cut_once byte (a ∷ xs) (b ∷ ys) behind other_behind plain other_plain same =
    let head : a ≡ b = cc in
    let tail : xs ++ byte ∷ behind ≡ ys ++ byte ∷ other_behind = cc in
    let rest = cut_once byte xs ys behind other_behind (All-tail (λ (c : ℕ). (c == byte) ≡ false) a xs plain) (All-tail (λ (c : ℕ). (c == byte) ≡ false) b ys other_plain) tail in
    (ap₂ (λ (first : ℕ) (more : List ℕ). first ∷ more) head rest.0, rest.1)
