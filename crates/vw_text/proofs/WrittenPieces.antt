-- What is written piece by piece.
use Rattle.std.proofs.Common.{◌≡◌, ◌<◌, ◌≤◌, ◌+◌, ◌-◌, ◌++◌, ◌∙◌, ℕ, suc, List, [], ◌∷◌, length, map, drop, get_or, ap, sym, refl, append-nil, append_assoc, arith}
use Rattle.std.specs.List.{flat_map, range_with_len}
use Rattle.std.proofs.lemmas.Grind.{flat_map-append}
use Rattle.std.proofs.lemmas.List.{drop_all, drop_more}
use Rattle.vw_text.specs.Physical.{lines_text}
use Rattle.vw_text.proofs.LineTexts.{lines_text-append}

-- ---- one piece after the other

-- where the first of what is left is written, the rest of it is left
pub next_written : {X : Type 0} (text more all here rest left : List X) → more ≡ text ++ here → left ≡ here ++ rest → text ++ left ≡ all → more ++ rest ≡ all
next_written {X} text more all here rest left is parts so_far =
    ap (λ (front : List X). front ++ rest) is ∙ append_assoc text here rest ∙ ap (λ (behind : List X). text ++ behind) (sym parts) ∙ so_far

-- where nothing is left, all is written
pub none_left : {X : Type 0} (text all left : List X) → left ≡ [] → text ++ left ≡ all → text ≡ all
none_left {X} text all left none so_far = sym (append-nil text) ∙ ap (λ (behind : List X). text ++ behind) (sym none) ∙ so_far

-- ---- the elements of a list

module _ {X : Type 0} (spell : X → List ℕ) (xs : List X) (place : ℕ) where
  -- an element's text is the first of what is left
  pub one_written : (text more all : List ℕ) (default : X) → place < length xs → more ≡ text ++ spell (get_or xs place default) → text ++ flat_map spell (drop place xs) ≡ all → more ++ flat_map spell (drop (place + 1) xs) ≡ all
  one_written text more all default within is so_far =
      next_written text more all (spell (get_or xs place default)) (flat_map spell (drop (place + 1) xs)) (flat_map spell (drop place xs)) is (ap (flat_map spell) (drop_more xs place default within)) so_far

  -- past the last element, all is written
  pub whole_written : (text all : List ℕ) → length xs ≤ place → text ++ flat_map spell (drop place xs) ≡ all → text ≡ all
  whole_written text all past so_far = none_left text all (flat_map spell (drop place xs)) (ap (flat_map spell) (drop_all place xs past)) so_far

-- lines of each element
pub lines_more : {X : Type 0} (lines_of : X → List (List ℕ)) (xs : List X) (place : ℕ) (default : X) (text more all : List ℕ) → place < length xs → more ≡ text ++ lines_text (lines_of (get_or xs place default))
    → text ++ lines_text (flat_map lines_of (drop place xs)) ≡ all → more ++ lines_text (flat_map lines_of (drop (place + 1) xs)) ≡ all
lines_more lines_of xs place default text more all within is so_far =
    let here = lines_of (get_or xs place default) in
    let further = flat_map lines_of (drop (place + 1) xs) in
    next_written text more all (lines_text here) (lines_text further) (lines_text (flat_map lines_of (drop place xs))) is
    (ap (λ left. lines_text (flat_map lines_of left)) (drop_more xs place default within) ∙ lines_text-append here further) so_far

-- ---- the numbers of a range

-- the first of them, and the others
range_left : (i n : ℕ) → i < n → range_with_len i (n - i) ≡ i ∷ range_with_len (i + 1) (n - (i + 1))
range_left i n within = let left : n - i ≡ suc (n - (i + 1)) = omega arith in ap (λ (many : ℕ). range_with_len i many) left

-- past the last number there is none
range_ended : (i n : ℕ) → n ≤ i → range_with_len i (n - i) ≡ []
range_ended i n past = let none : n - i ≡ 0 = omega arith in ap (λ (many : ℕ). range_with_len i many) none

module _ (spell : ℕ → List ℕ) where
  -- a number's text is the first of what is left
  pub range_more : (i n : ℕ) (text more all : List ℕ) → i < n → more ≡ text ++ spell i → text ++ flat_map spell (range_with_len i (n - i)) ≡ all → more ++ flat_map spell (range_with_len (i + 1) (n - (i + 1))) ≡ all
  range_more i n text more all within is so_far =
      next_written text more all (spell i) (flat_map spell (range_with_len (i + 1) (n - (i + 1)))) (flat_map spell (range_with_len i (n - i))) is (ap (flat_map spell) (range_left i n within)) so_far

  -- past the last number, all is written
  pub range_all : (i n : ℕ) (text all : List ℕ) → n ≤ i → text ++ flat_map spell (range_with_len i (n - i)) ≡ all → text ≡ all
  range_all i n text all past so_far = none_left text all (flat_map spell (range_with_len i (n - i))) (ap (flat_map spell) (range_ended i n past)) so_far

module _ {X : Type 0} (spell : X → List ℕ) where
  -- one thing for each number
  pub mapped_more : (thing : ℕ → X) (i n : ℕ) (text more all : List ℕ) → i < n → more ≡ text ++ spell (thing i)
      → text ++ flat_map spell (map thing (range_with_len i (n - i))) ≡ all → more ++ flat_map spell (map thing (range_with_len (i + 1) (n - (i + 1)))) ≡ all
  mapped_more thing i n text more all within is so_far =
      let spelled = λ (numbers : List ℕ). flat_map spell (map thing numbers) in
      next_written text more all (spell (thing i)) (spelled (range_with_len (i + 1) (n - (i + 1)))) (spelled (range_with_len i (n - i))) is (ap spelled (range_left i n within)) so_far

  -- several things for each number
  pub gathered_more : (things : ℕ → List X) (i n : ℕ) (text more all : List ℕ) → i < n → more ≡ text ++ flat_map spell (things i)
      → text ++ flat_map spell (flat_map things (range_with_len i (n - i))) ≡ all → more ++ flat_map spell (flat_map things (range_with_len (i + 1) (n - (i + 1)))) ≡ all
  gathered_more things i n text more all within is so_far =
      let spelled = λ (numbers : List ℕ). flat_map spell (flat_map things numbers) in
      let others = range_with_len (i + 1) (n - (i + 1)) in
      next_written text more all (flat_map spell (things i)) (spelled others) (spelled (range_with_len i (n - i))) is
      (ap spelled (range_left i n within) ∙ flat_map-append spell (things i) (flat_map things others)) so_far

-- ---- pieces behind each other

-- lists behind each other, of which there is one at least
abbrev pub joined : {X : Type 0} → List X → List (List X) → List X
joined first [] = first
joined first (second ∷ others) = first ++ joined second others

-- a text that pieces were appended to, one after the other, and what stood there before each
abbrev pub HasGrown : List ℕ → List ℕ → List (List ℕ) → List ℕ → Type 0
HasGrown old first [] text = text ≡ old ++ first
HasGrown old first (second ∷ others) text = (more : List ℕ) × (more ≡ old ++ first) × HasGrown more second others text

-- so all of them were
pub grown : (old first : List ℕ) (others : List (List ℕ)) (text : List ℕ) → HasGrown old first others text → text ≡ old ++ joined first others
grown old first [] text has = has
grown old first (second ∷ others) text has =
    let rest = joined second others in
    grown has.0 second others text has.2 ∙ ap (λ (front : List ℕ). front ++ rest) has.1 ∙ append_assoc old first rest

-- lines in parts
lines_joined : (first : List (List ℕ)) (others : List (List (List ℕ))) → joined (lines_text first) (map lines_text others) ≡ lines_text (joined first others)
lines_joined first [] = refl
lines_joined first (second ∷ others) =
    ap (λ (rest : List ℕ). lines_text first ++ rest) (lines_joined second others) ∙ sym (lines_text-append first (joined second others))

-- the same of pieces that are lines
pub grown_lines : (old : List ℕ) (first : List (List ℕ)) (others : List (List (List ℕ))) (text : List ℕ) → HasGrown old (lines_text first) (map lines_text others) text → text ≡ old ++ lines_text (joined first others)
grown_lines old first others text has =
    grown old (lines_text first) (map lines_text others) text has ∙ ap (λ (written : List ℕ). old ++ written) (lines_joined first others)

-- a word, and what stands behind it, make a line
pub line_written : (old word rest begun text more : List ℕ) → begun ≡ old ++ word → text ≡ begun ++ rest → more ≡ text ++ 10 ∷ [] → more ≡ old ++ ((word ++ rest) ++ 10 ∷ [])
line_written old word rest begun text more first then last =
    let joined_ : ((old ++ word) ++ rest) ++ 10 ∷ [] ≡ old ++ ((word ++ rest) ++ 10 ∷ []) = simp append_assoc in
    last ∙ ap (λ (front : List ℕ). front ++ 10 ∷ []) (then ∙ ap (λ (front : List ℕ). front ++ rest) first) ∙ joined_
