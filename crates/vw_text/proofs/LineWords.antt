-- The words of a line, the first of them first.
use Rattle.std.proofs.Common.{◌≡◌, ℕ, ◌+◌, ◌-◌, ◌<◌, ◌≤◌, min, not, List, [], ◌∷◌, ◌++◌, length, take, drop, sym, ◌∙◌, ap, ⊎_elim, arith}
use Rattle.std.specs.List.{position_or_len, slice_split, filter}
use Rattle.std.proofs.lemmas.Bool.{cases_lt, cond-true, not_from_false, ne_eqb}
use Rattle.std.proofs.lemmas.List.{append-nil, append_assoc, take_all, drop_all, take_rest, drop_min, length-take-le}
use Rattle.std.proofs.lemmas.List.Elements.{filter-append}
use Rattle.std.proofs.lemmas.List.Splits.{slice_split_first, slice_split_none}
use Rattle.std.proofs.lemmas.List.Sums.{fails_before_first, prefix_len-le-length}
use Rattle.vw_text.specs.Bare.{is_blank}
use Rattle.vw_text.specs.WordLines.{is_empty, words_of}

-- a part of a line as the list of its words: itself, where it has bytes
abbrev kept : List ℕ → List (List ℕ)
kept part = filter (λ part. not (is_empty part)) (part ∷ [])

kept_word : (part : List ℕ) → 0 < length part → kept part ≡ part ∷ []
kept_word [] some = absurd (omega arith)
kept_word (b ∷ bs) some = cond-true (not (is_empty (b ∷ bs))) _ _ (not_from_false _ (ne_eqb (length (b ∷ bs)) 0 (λ none. absurd (omega arith))))

-- a line is cut at its first blank
words_cut : (line : List ℕ) (end : ℕ) → position_or_len is_blank line ≡ end → words_of line ≡ kept (take end line) ++ words_of (drop (end + 1) line)
words_cut line end is =
    let within : position_or_len is_blank line ≤ length line = prefix_len-le-length (λ b. not (is_blank b)) line in
    let nonempty = λ (part : List ℕ). not (is_empty part) in
    ⊎_elim
    (λ inside.
    ap (filter nonempty) (slice_split_first is_blank line 0 inside ∙ ap (λ at. take at line ∷ slice_split is_blank (drop (at + 1) line)) is)
    ∙ filter-append nonempty (take end line ∷ []) (slice_split is_blank (drop (end + 1) line)))
    (λ past.
    let whole = take_all end line (omega arith) in
    let none : drop (end + 1) line ≡ [] = drop_all (end + 1) line (omega arith) in
    ap (filter nonempty) (slice_split_none is_blank line (λ k d inside. fails_before_first is_blank line k d (omega arith)))
    ∙ sym (ap (λ rest. kept (take end line) ++ words_of rest) none ∙ append-nil (kept (take end line)) ∙ ap kept whole))
    (cases_lt (position_or_len is_blank line) (length line))

-- a line that begins with a word
pub word_taken : (line : List ℕ) (end : ℕ) → position_or_len is_blank line ≡ end → 0 < end → words_of line ≡ take end line ∷ words_of (drop (end + 1) line)
word_taken line end is some =
    let within : position_or_len is_blank line ≤ length line = prefix_len-le-length (λ b. not (is_blank b)) line in
    let long : length (take end line) ≡ end = length-take-le end line (omega arith) in
    words_cut line end is ∙ ap (λ words. words ++ words_of (drop (end + 1) line)) (kept_word (take end line) (omega arith))

-- a line that begins with a blank
pub blank_passed : (line : List ℕ) (end : ℕ) → position_or_len is_blank line ≡ end → end ≡ 0 → words_of line ≡ words_of (drop (end + 1) line)
blank_passed line end is none =
    words_cut line end is ∙ ap (λ n. kept (take n line) ++ words_of (drop (end + 1) line)) none

-- what is left behind the end of a word, or of the line
pub rest_left : (line : List ℕ) (end : ℕ) → words_of (take (length line - min (length line) (end + 1)) (drop (min (length line) (end + 1)) line)) ≡ words_of (drop (end + 1) line)
rest_left line end =
    ap words_of (take_rest line (min (length line) (end + 1)))
    ∙ ap (λ n. words_of (drop n line)) (omega arith) ∙ ap words_of (drop_min (end + 1) line)

-- a word goes over from those that are left to those that are done
pub word_goes_over : (done : List (List ℕ)) {now left after all : List (List ℕ)} {word part : List ℕ} → now ≡ done ++ word ∷ [] → word ≡ part → all ≡ part ∷ after → left ≡ after
    → now ++ left ≡ done ++ all
word_goes_over done {after = after} {word = word} pushed is taken rest = rw (pushed, taken, rest, ← is) (append_assoc done (word ∷ []) after)
