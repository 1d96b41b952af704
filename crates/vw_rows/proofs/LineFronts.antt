-- A line that goes on by some bytes.
use Rattle.std.proofs.Common.{◌≡◌, ◌≢◌, ◌<◌, ◌≤◌, ◌+◌, ◌==◌, ◌||◌, not, ℕ, zero, suc, Bool, true, false, List, [], ◌∷◌, ◌++◌, map, length, take, drop, slice_index, Some, None, refl, sym, ◌∙◌, ap, subst, arith, true≢false, nat_le, MatchBool}
use Rattle.std.specs.List.{list_all, onto_first, prefix_len}
use Rattle.std.proofs.lemmas.Bool.{eqb-true, cond-true, le-leb, ne_eqb, and_parts, and_from, not_from_false}
use Rattle.std.proofs.lemmas.List.{append_assoc, append-nil, length-append, length-map, map-append, take-append-drop, drop-drop, drop_more, length-drop, length-take-le}
use Rattle.std.proofs.Math.Seq.{take-add}
use Rattle.std.proofs.lemmas.List.Elements.{All-append, All-cons, All-nil}
use Rattle.std.proofs.lemmas.List.Folds.{list_all-append}
use Rattle.std.specs.Global.{Vec}
use Rattle.vw_text.specs.Bare.{is_blank, without_comment}
use Rattle.vw_text.specs.Physical.{text_lines}
use Rattle.vw_text.specs.WordLines.{words_of}
use Rattle.vw_rows.specs.declared.fault.StimFault.{StimFault}
use Rattle.vw_rows.specs.declared.fault.StimFault.TheVariants.{BadLine}
use Rattle.vw_rows.specs.declared.line_so_far.LineSoFar.{LineSoFar}
use Rattle.vw_rows.specs.declared.said.Said.{Said}
use Rattle.vw_rows.specs.declared.said.Said.TheVariants.{Nothing, Bits, Dash, Row, Letters, Hold, Number, Times}
use Rattle.vw_rows.specs.Stimulus.{line_words}
use Rattle.vw_rows.specs.Steps.Saying.{AreBad, IsSolid, IsSaid, row_with, counted_to_limit, GoesOn, EndsWord, TakesByte}
use Rattle.vw_rows.specs.Steps.Lines.{EndsBehind, bits_said, bits_kept, IsUnended, IsEndOf, IsLine, GoesOnBy, GoesOnByFront, BeginsBad, IsBadBehind, EndsBy, TakesAll}
use Rattle.vw_rows.proofs.SaidWords.{part_ended, bit}

pub unended_one : (b : ℕ) → b ≢ 10 → IsUnended (b ∷ [])
unended_one b other = All-cons (λ b. (b == 10) ≡ false) b [] (ne_eqb b 10 other) (All-nil (λ b. (b == 10) ≡ false))

pub unended_both : (xs ys : List ℕ) → IsUnended xs → IsUnended ys → IsUnended (xs ++ ys)
unended_both xs ys first second = All-append (λ b. (b == 10) ≡ false) xs ys first second

-- ---- the first line of a text begins with its front

onto : (b : ℕ) (lines : List (List ℕ)) → (m : List ℕ) × (others : List (List ℕ)) × (onto_first b lines ≡ (b ∷ m) ∷ others)
onto b [] = ([], [], refl)
onto b (line ∷ lines) = (line, lines, refl)

pub line_begins : (front rest : List ℕ) → IsUnended front → 0 < length front
    → (m : List ℕ) × (others : List (List ℕ)) × (text_lines (front ++ rest) ≡ (front ++ m) ∷ others)
line_begins [] rest unended some = absurd (omega (some, arith))
line_begins (b ∷ []) rest unended some =
    let r = onto b (text_lines rest) in
    (r.0, r.1, rw (unended 0 0 (omega arith)) r.2)
line_begins (b ∷ c ∷ cs) rest unended some =
    let r = line_begins (c ∷ cs) rest (λ k d inside. unended (suc k) d (omega (inside, arith))) (omega arith) in
    (r.0, r.1, rw (unended 0 0 (omega arith)) (ap (onto_first b) r.2))

-- a line with a front for which no words do
pub begins_bad : (front rest : List ℕ) → IsUnended front → 0 < length front → ((more : List ℕ) → AreBad (line_words (front ++ more)))
    → BeginsBad (front ++ rest)
begins_bad front rest unended some bad =
    let r = line_begins front rest unended some in
    record { first = front ++ r.0; others = r.1; cut = r.2; bad = bad r.0 }

-- ---- a byte of a word

uncommented : (b : ℕ) (more : List ℕ) → b ≢ 35 → without_comment (b ∷ more) ≡ b ∷ without_comment more
uncommented b more other =
    let before = prefix_len (λ b. not (b == 35)) more in
    let one : 1 + before ≡ suc before = omega arith in
    rw (ne_eqb b 35 other) (ap (λ n. take n (b ∷ more)) one)

-- the words of a line with a byte more, where what was read is these words and the front of a further one
words_further : (done : List (List ℕ)) (part line : List ℕ) (b : ℕ) → b ≢ 35
    → ((more : List ℕ) → line_words (line ++ more) ≡ done ++ words_of (part ++ without_comment more))
    → (more : List ℕ) → line_words ((line ++ b ∷ []) ++ more) ≡ done ++ words_of (part ++ b ∷ without_comment more)
words_further done part line b other words more =
    ap line_words (append_assoc line (b ∷ []) more) ∙ words (b ∷ more) ∙ ap (λ (rest : List ℕ). done ++ words_of (part ++ rest)) (uncommented b more other)

row_longer : (said : Said) (b : ℕ) (row : List Bool) → length (row_with said b row) ≤ length row + 1
row_longer Nothing b row = omega arith
row_longer (Bits n) b row = omega (length-append row ((b == 49) ∷ []), arith)
row_longer Dash b row = omega arith
row_longer (Row n) b row = omega arith
row_longer (Letters n) b row = omega arith
row_longer Hold b row = omega arith
row_longer (Number n) b row = omega arith
row_longer (Times n) b row = omega arith

-- a byte of a word
pub by_solid : (old new : LineSoFar) (b : ℕ) (line : List ℕ) → GoesOn old.said b (Some new.said) → b ≢ 35 → b ≢ 10 → is_blank b ≡ false
    → old.commented ≡ false → new.commented ≡ false
    → (is : IsLine line old) → (length (row_with new.said b is.row) ≤ new.kept → new.bits.items ≡ row_with new.said b is.row) → IsLine (line ++ b ∷ []) new
by_solid old new b line steps no_comment inside nonblank plain still is bits =
    let words = words_further is.done is.part line b no_comment (is.further plain) in
    record {
      done = is.done;
      part = is.part ++ b ∷ [];
      row = row_with new.said b is.row;
      said = steps is.done is.part is.row is.said;
      solid = All-append (λ b. is_blank b ≡ false) is.part (b ∷ []) is.solid (All-cons (λ b. is_blank b ≡ false) b [] nonblank (All-nil (λ b. is_blank b ≡ false)));
      unended = unended_both line (b ∷ []) is.unended (unended_one b inside);
      whole = ap line_words (sym (append-nil (line ++ b ∷ []))) ∙ words [];
      further = λ _ more. words more ∙ ap (λ (ws : List ℕ). is.done ++ words_of ws) (sym (append_assoc is.part (b ∷ []) (without_comment more)));
      ended = λ closed more. absurd (true≢false (sym closed ∙ still));
      bits = bits;
      short = omega (row_longer new.said b is.row, is.short, length-append line (b ∷ []), arith);
    }

-- a blank
pub by_blank : (old new : LineSoFar) (b : ℕ) (line : List ℕ) → EndsWord old.said (Some new.said) → b ≢ 35 → b ≢ 10 → is_blank b ≡ true
    → old.commented ≡ false → new.commented ≡ false
    → (is : IsLine line old) → (length is.row ≤ new.kept → new.bits.items ≡ is.row) → IsLine (line ++ b ∷ []) new
by_blank old new b line steps no_comment inside blank plain still is bits =
    let words : (more : List ℕ) → line_words ((line ++ b ∷ []) ++ more) ≡ (is.done ++ words_of is.part) ++ words_of (without_comment more) =
    λ more. words_further is.done is.part line b no_comment (is.further plain) more
    ∙ ap (λ (ws : List (List ℕ)). is.done ++ ws) (part_ended is.part (without_comment more) b is.solid blank)
    ∙ sym (append_assoc is.done (words_of is.part) (words_of (without_comment more))) in
    record {
      done = is.done ++ words_of is.part;
      part = [];
      row = is.row;
      said = steps is.done is.part is.row is.said is.solid;
      solid = All-nil (λ b. is_blank b ≡ false);
      unended = unended_both line (b ∷ []) is.unended (unended_one b inside);
      whole = ap line_words (sym (append-nil (line ++ b ∷ []))) ∙ words [];
      further = λ _ more. words more;
      ended = λ closed more. absurd (true≢false (sym closed ∙ still));
      bits = bits;
      short = omega (is.short, length-append line (b ∷ []), arith);
    }

-- no line begins so
pub bad_solid : (old : LineSoFar) (b : ℕ) (line rest : List ℕ) → GoesOn old.said b None → b ≢ 35 → b ≢ 10 → is_blank b ≡ false
    → old.commented ≡ false → IsLine line old → BeginsBad (line ++ b ∷ rest)
bad_solid old b line rest steps no_comment inside nonblank plain is =
    subst BeginsBad (append_assoc line (b ∷ []) rest)
    (begins_bad (line ++ b ∷ []) rest (unended_both line (b ∷ []) is.unended (unended_one b inside)) (omega (length-append line (b ∷ []), arith))
    (λ more. subst AreBad (sym (words_further is.done is.part line b no_comment (is.further plain) more)) (steps is.done is.part is.row is.said is.solid nonblank (without_comment more))))

pub bad_blank : (old : LineSoFar) (b : ℕ) (line rest : List ℕ) → EndsWord old.said None → b ≢ 35 → b ≢ 10 → is_blank b ≡ true
    → old.commented ≡ false → IsLine line old → BeginsBad (line ++ b ∷ rest)
bad_blank old b line rest steps no_comment inside blank plain is =
    subst BeginsBad (append_assoc line (b ∷ []) rest)
    (begins_bad (line ++ b ∷ []) rest (unended_both line (b ∷ []) is.unended (unended_one b inside)) (omega (length-append line (b ∷ []), arith))
    (λ more.
    let words = words_further is.done is.part line b no_comment (is.further plain) more
    ∙ ap (λ (ws : List (List ℕ)). is.done ++ ws) (part_ended is.part (without_comment more) b is.solid blank)
    ∙ sym (append_assoc is.done (words_of is.part) (words_of (without_comment more))) in
    subst AreBad (sym words) (steps is.done is.part is.row is.said is.solid (words_of (without_comment more)))))

-- ---- the start, comments, and several steps

pub nothing_read : (read : LineSoFar) → read.said ≡ Nothing → read.bits.items ≡ [] → read.commented ≡ false → IsLine [] read
nothing_read read said bits plain = record {
  done = [];
  part = [];
  row = [];
  said = subst (λ (s : Said). IsSaid s [] [] []) (sym said) (refl, refl, refl);
  solid = All-nil (λ b. is_blank b ≡ false);
  unended = All-nil (λ b. (b == 10) ≡ false);
  whole = refl;
  further = λ _ more. refl;
  ended = λ closed more. absurd (true≢false (sym closed ∙ plain));
  bits = λ _. bits;
  short = omega arith;
}

-- a comment begins with the bytes behind the line, or has begun
pub by_comment : (old new : LineSoFar) (line bytes : List ℕ) → new.said ≡ old.said → new.bits.items ≡ old.bits.items → new.kept ≡ old.kept
    → new.commented ≡ true → IsUnended bytes
    → ((more : List ℕ) → line_words (line ++ (bytes ++ more)) ≡ line_words line) → IsLine line old → IsLine (line ++ bytes) new
by_comment old new line bytes said bits kept closed unended same is = record {
  done = is.done;
  part = is.part;
  row = is.row;
  said = subst (λ (s : Said). IsSaid s is.done is.part is.row) (sym said) is.said;
  solid = is.solid;
  unended = unended_both line bytes is.unended unended;
  whole = ap line_words (ap (λ (ws : List ℕ). line ++ ws) (sym (append-nil bytes))) ∙ same [] ∙ is.whole;
  further = λ plain more. absurd (true≢false (sym closed ∙ plain));
  ended = λ _ more.
      ap line_words (append_assoc line bytes more) ∙ same more
      ∙ sym (ap line_words (ap (λ (ws : List ℕ). line ++ ws) (sym (append-nil bytes))) ∙ same []);
  bits = λ short. bits ∙ is.bits (subst (λ (n : ℕ). length is.row ≤ n) kept short);
  short = omega (is.short, length-append line bytes, arith);
}

-- a `#` behind the line
pub comment_behind : (old : LineSoFar) (line bytes : List ℕ) → old.commented ≡ false → IsLine line old → (more : List ℕ)
    → line_words (line ++ ((35 ∷ bytes) ++ more)) ≡ line_words line
comment_behind old line bytes plain is more = is.further plain (35 ∷ (bytes ++ more)) ∙ ap (λ (ws : List ℕ). is.done ++ words_of ws) (append-nil is.part) ∙ sym is.whole

pub goes_nowhere : (read : LineSoFar) → GoesOnBy [] read read
goes_nowhere read = record { line = λ line is. subst (λ (l : List ℕ). IsLine l read) (sym (append-nil line)) is; kept = refl }

pub goes_further : (old mid new : LineSoFar) (first second both : List ℕ) → both ≡ first ++ second → GoesOnBy first old mid
    → GoesOnBy second mid new → GoesOnBy both old new
goes_further old mid new first second both whole one two = record {
  line = λ line is. subst (λ (l : List ℕ). IsLine l new) (append_assoc line first second ∙ ap (λ (bs : List ℕ). line ++ bs) (sym whole)) (two.line (line ++ first) (one.line line is));
  kept = two.kept ∙ one.kept;
}

-- ---- what the functions of a line do

-- the line with what is said of it and its bits changed
abbrev pub with_said : LineSoFar → Said → Vec Bool → LineSoFar
with_said old said bits = record { said = said; commented = old.commented; bits = bits; kept = old.kept }

kept_solid : (said : Said) (b kept : ℕ) (row old new : List Bool) (done : List (List ℕ)) (part : List ℕ) → IsSaid said done part (row_with said b row)
    → new ≡ bits_kept kept said (b ∷ []) old → (length row ≤ kept → old ≡ row) → length (row_with said b row) ≤ kept → new ≡ row_with said b row
kept_solid Nothing b kept row old new done part is same before short = same ∙ before short
kept_solid (Bits n) b kept row old new done part is same before short =
    let few : n ≤ kept = omega (is.3, short, arith) in
    same ∙ cond-true (nat_le n kept) _ _ (le-leb n kept few) ∙ ap (λ (bs : List Bool). bs ++ (b == 49) ∷ []) (before (omega (short, length-append row ((b == 49) ∷ []), arith)))
kept_solid Dash b kept row old new done part is same before short = same ∙ before short
kept_solid (Row n) b kept row old new done part is same before short = same ∙ before short
kept_solid (Letters n) b kept row old new done part is same before short = same ∙ before short
kept_solid Hold b kept row old new done part is same before short = same ∙ before short
kept_solid (Number n) b kept row old new done part is same before short = same ∙ before short
kept_solid (Times n) b kept row old new done part is same before short = same ∙ before short

kept_blank : (said : Said) (b kept : ℕ) (row old new : List Bool) (done : List (List ℕ)) → IsSaid said done [] row
    → new ≡ bits_kept kept said (b ∷ []) old → (length row ≤ kept → old ≡ row) → length row ≤ kept → new ≡ row
kept_blank Nothing b kept row old new done is same before short = same ∙ before short
kept_blank (Bits n) b kept row old new done is same before short = absurd (true≢false (sym is.1))
kept_blank Dash b kept row old new done is same before short = same ∙ before short
kept_blank (Row n) b kept row old new done is same before short = same ∙ before short
kept_blank (Letters n) b kept row old new done is same before short = same ∙ before short
kept_blank Hold b kept row old new done is same before short = same ∙ before short
kept_blank (Number n) b kept row old new done is same before short = same ∙ before short
kept_blank (Times n) b kept row old new done is same before short = same ∙ before short

pub byte_taken : (old : LineSoFar) (said : Said) (bits : Vec Bool) (b : ℕ) → TakesByte old.said b (Some said) → b ≢ 35 → b ≢ 10 → old.commented ≡ false
    → bits.items ≡ bits_kept old.kept said (b ∷ []) old.bits.items → GoesOnBy (b ∷ []) old (with_said old said bits)
byte_taken old said bits b takes no_comment inside plain same = by (is_blank b) refl takes
  where
    by : (blank : Bool) → is_blank b ≡ blank → MatchBool blank (EndsWord old.said (Some said)) (GoesOn old.said b (Some said))
        → GoesOnBy (b ∷ []) old (with_said old said bits)
    by true blank steps = record {
      line = λ line is. by_blank old (with_said old said bits) b line steps no_comment inside blank plain plain is
          (λ short. kept_blank said b old.kept is.row old.bits.items bits.items _ (steps is.done is.part is.row is.said is.solid) same is.bits short);
      kept = refl;
    }
    by false nonblank steps = record {
      line = λ line is. by_solid old (with_said old said bits) b line steps no_comment inside nonblank plain plain is
          (λ short. kept_solid said b old.kept is.row old.bits.items bits.items _ _ (steps is.done is.part is.row is.said) same is.bits short);
      kept = refl;
    }

pub byte_bad : (old : LineSoFar) (b number : ℕ) → TakesByte old.said b None → b ≢ 35 → b ≢ 10 → old.commented ≡ false
    → IsBadBehind (b ∷ []) number old (BadLine number)
byte_bad old b number takes no_comment inside plain = by (is_blank b) refl takes
  where
    by : (blank : Bool) → is_blank b ≡ blank → MatchBool blank (EndsWord old.said None) (GoesOn old.said b None)
        → IsBadBehind (b ∷ []) number old (BadLine number)
    by true blank steps = record { is = refl; line = λ line is rest. bad_blank old b line rest steps no_comment inside blank plain is }
    by false nonblank steps = record { is = refl; line = λ line is rest. bad_solid old b line rest steps no_comment inside nonblank plain is }

-- a front that is taken, and then bytes with which the line is bad
pub bad_further : (old mid : LineSoFar) (front bytes behind piece : List ℕ) (number : ℕ) (fault : StimFault)
    → piece ≡ front ++ (bytes ++ behind) → GoesOnBy front old mid → IsBadBehind bytes number mid fault → IsBadBehind piece number old fault
bad_further old mid front bytes behind piece number fault cut goes bad = record {
  is = bad.is;
  line = λ line is rest.
      let whole : (line ++ front) ++ (bytes ++ (behind ++ rest)) ≡ line ++ (piece ++ rest) =
      append_assoc line front (bytes ++ (behind ++ rest))
      ∙ ap (λ (bs : List ℕ). line ++ bs) (ap (λ (bs : List ℕ). front ++ bs) (sym (append_assoc bytes behind rest)) ∙ sym (append_assoc front (bytes ++ behind) rest) ∙ ap (λ (bs : List ℕ). bs ++ rest) (sym cut)) in
      subst BeginsBad whole (bad.line (line ++ front) (goes.line line is) (behind ++ rest));
}

-- ---- bits that are taken at once

uncommented_bits : (bytes more : List ℕ) → list_all bit bytes ≡ true → without_comment (bytes ++ more) ≡ bytes ++ without_comment more
uncommented_bits [] more are = refl
uncommented_bits (b ∷ bs) more are =
    let parts = and_parts (bit b) (list_all bit bs) are in
    uncommented b (bs ++ more) (λ same. absurd (no_comment b same parts.0)) ∙ ap (λ (rest : List ℕ). b ∷ rest) (uncommented_bits bs more parts.1)
  where
    no_comment : (b : ℕ) → b ≡ 35 → bit b ≡ true → ⊥
    no_comment b same is = true≢false (sym is ∙ ap bit same)

bit_is_no_blank : (b : ℕ) → bit b ≡ true → (is_blank b ≡ false) × ((b == 10) ≡ false)
bit_is_no_blank b is = by (b == 48) refl is
  where
    by : (v : Bool) → (b == 48) ≡ v → (v || (b == 49)) ≡ true → (is_blank b ≡ false) × ((b == 10) ≡ false)
    by true zero_ e = rw (eqb-true b 48 zero_) (refl, refl)
    by false zero_ e = rw (eqb-true b 49 e) (refl, refl)

bits_solid : (bytes : List ℕ) → list_all bit bytes ≡ true → IsSolid bytes × IsUnended bytes
bits_solid [] are = (All-nil (λ b. is_blank b ≡ false), All-nil (λ b. (b == 10) ≡ false))
bits_solid (b ∷ bs) are =
    let parts = and_parts (bit b) (list_all bit bs) are in
    let here = bit_is_no_blank b parts.0 in
    let rest = bits_solid bs parts.1 in
    (All-cons (λ b. is_blank b ≡ false) b bs here.0 rest.0, All-cons (λ b. (b == 10) ≡ false) b bs here.1 rest.1)

-- a word of bits that begins or goes on with further bits
said_run : (said : Said) (before longer : ℕ) (done : List (List ℕ)) (part bytes : List ℕ) (row : List Bool) → bits_said said ≡ Some before
    → IsSaid said done part row
    → list_all bit bytes ≡ true → 0 < length bytes → longer ≡ counted_to_limit (before + length bytes)
    → IsSaid (Bits longer) done (part ++ bytes) (row ++ map (λ b. b == 49) bytes)
said_run Nothing before longer done part bytes row is said are some long =
    let zero_ : before ≡ 0 = (let e : Some 0 ≡ Some before = is in cc) in
    let none = said.1 in
    let no_row = said.2 in (
      said.0,
      rw none (and_from (list_all bit bytes) _ are (not_from_false _ (ne_eqb (length bytes) 0 (λ e. absurd (omega (e, some, arith)))))),
      rw (none, no_row) refl,
      rw no_row (omega (zero_, long, length-map bytes (λ (b : ℕ). b == 49), arith)),
    )
said_run (Bits count) before longer done part bytes row is said are some long =
    let same : count ≡ before = (let e : Some count ≡ Some before = is in cc) in
    let all : list_all bit (part ++ bytes) ≡ true = list_all-append bit part bytes ∙ and_from (list_all bit part) (list_all bit bytes) (and_parts (list_all bit part) _ said.1).0 are in (
      said.0,
      and_from (list_all bit (part ++ bytes)) _ all (not_from_false _ (ne_eqb (length (part ++ bytes)) 0 (λ e. absurd (omega (e, some, length-append part bytes, arith))))),
      ap (λ (r : List Bool). r ++ map (λ b. b == 49) bytes) said.2 ∙ sym (map-append (λ b. b == 49) part bytes),
      omega (same, long, said.3, length-append row (map (λ b. b == 49) bytes), length-map bytes (λ (b : ℕ). b == 49), arith),
    )
said_run Dash before longer done part bytes row is said are some long = absurd (cc)
said_run (Row n) before longer done part bytes row is said are some long = absurd (cc)
said_run (Letters n) before longer done part bytes row is said are some long = absurd (cc)
said_run Hold before longer done part bytes row is said are some long = absurd (cc)
said_run (Number n) before longer done part bytes row is said are some long = absurd (cc)
said_run (Times n) before longer done part bytes row is said are some long = absurd (cc)

pub run_taken : (old : LineSoFar) (bits : Vec Bool) (before longer : ℕ) (bytes : List ℕ) → bits_said old.said ≡ Some before
    → longer ≡ counted_to_limit (before + length bytes) → list_all bit bytes ≡ true → 0 < length bytes
    → bits.items ≡ bits_kept old.kept (Bits longer) bytes old.bits.items → old.commented ≡ false → GoesOnBy bytes old (with_said old (Bits longer) bits)
run_taken old bits before longer bytes so_far long are some same plain = record { line = goes; kept = refl }
  where
    goes : (line : List ℕ) → IsLine line old → IsLine (line ++ bytes) (with_said old (Bits longer) bits)
    goes line is =
        let row = is.row ++ map (λ b. b == 49) bytes in
        let said = said_run old.said before longer is.done is.part bytes is.row so_far is.said are some long in
        let words : (more : List ℕ) → line_words ((line ++ bytes) ++ more) ≡ is.done ++ words_of ((is.part ++ bytes) ++ without_comment more) =
        λ more. ap line_words (append_assoc line bytes more) ∙ is.further plain (bytes ++ more)
        ∙ ap (λ (rest : List ℕ). is.done ++ words_of rest) (ap (λ (rest : List ℕ). is.part ++ rest) (uncommented_bits bytes more are) ∙ sym (append_assoc is.part bytes (without_comment more))) in
        record {
          done = is.done;
          part = is.part ++ bytes;
          row = row;
          said = said;
          solid = All-append (λ b. is_blank b ≡ false) is.part bytes is.solid (bits_solid bytes are).0;
          unended = unended_both line bytes is.unended (bits_solid bytes are).1;
          whole = ap line_words (sym (append-nil (line ++ bytes))) ∙ words [] ∙ ap (λ (rest : List ℕ). is.done ++ words_of rest) (append-nil (is.part ++ bytes));
          further = λ _ more. words more;
          ended = λ closed more. absurd (true≢false (sym closed ∙ plain));
          bits = λ short.
              let few : longer ≤ old.kept = omega (said.3, short, arith) in
              same ∙ cond-true (nat_le longer old.kept) _ _ (le-leb longer old.kept few)
              ∙ ap (λ (bs : List Bool). bs ++ map (λ b. b == 49) bytes) (is.bits (omega (short, length-append is.row (map (λ b. b == 49) bytes), arith)));
          short = omega (is.short, length-append line bytes, length-append is.row (map (λ b. b == 49) bytes), length-map bytes (λ (b : ℕ). b == 49), arith);
        }

-- ---- the front of a piece, and the end of the line in it

-- a front that is taken at once, and one behind it
pub fronts_joined : (piece : List ℕ) (count further : ℕ) (old mid new : LineSoFar) → GoesOnByFront piece count old mid
    → GoesOnByFront (drop count piece) further mid new → GoesOnByFront piece (count + further) old new
fronts_joined piece count further old mid new one two = record {
  within = omega (one.within, two.within, length-drop count piece, arith);
  front = goes_further old mid new (take count piece) (take further (drop count piece)) (take (count + further) piece) (take-add count further piece) one.front two.front;
  plain = two.plain;
}

-- a line in a comment goes on by bytes that don't end it
pub in_comment : (read : LineSoFar) (bytes : List ℕ) → read.commented ≡ true → IsUnended bytes → GoesOnBy bytes read read
in_comment read bytes closed unended = record {
  line = λ line is. by_comment read read line bytes refl refl refl closed unended (λ more. is.ended closed (bytes ++ more)) is;
  kept = refl;
}

-- the line in a comment
abbrev pub with_comment : LineSoFar → LineSoFar
with_comment read = record { said = read.said; commented = true; bits = read.bits; kept = read.kept }

-- a comment begins with a `#`
pub into_comment : (read : LineSoFar) (bytes : List ℕ) → read.commented ≡ false → IsUnended (35 ∷ bytes) → GoesOnBy (35 ∷ bytes) read (with_comment read)
into_comment read bytes plain unended = record {
  line = λ line is. by_comment read (with_comment read) line (35 ∷ bytes) refl refl refl refl unended (comment_behind read line bytes plain is) is;
  kept = refl;
}

-- a piece has the end of the line at a place
pub record HasEndAt (piece : List ℕ) (end : ℕ) : Type 0 where
  pub cut : piece ≡ take end piece ++ 10 ∷ drop (end + 1) piece
  pub within : end < length piece

-- the line ends at a place of a piece, of which it goes on by the front
pub ends_at : (piece : List ℕ) (end count : ℕ) (old new : LineSoFar) → HasEndAt piece end → count ≡ end + 1
    → GoesOnBy (take end piece) old new → EndsBy piece count old new
ends_at piece end count old new at long goes = record {
  front = take end piece;
  cut = subst (λ (n : ℕ). piece ≡ take end piece ++ 10 ∷ drop n piece) (sym long) at.cut;
  long = omega (long, length-take-le end piece (omega (at.within, arith)), arith);
  goes = goes;
}

-- a piece that has a byte at a place
pub cut_at : (piece : List ℕ) (at b : ℕ) → at < length piece → slice_index piece at ≡ b → drop at piece ≡ b ∷ drop (at + 1) piece
cut_at piece at b within is = drop_more piece at 0 within ∙ ap (λ (n : ℕ). n ∷ drop (at + 1) piece) is

-- the end of the line behind a place
end_further : (piece : List ℕ) (from end : ℕ) → from ≤ length piece → IsEndOf (drop from piece) end → HasEndAt piece (from + end)
end_further piece from end within at =
    let front : take (from + end) piece ≡ take from piece ++ take end (drop from piece) = take-add from end piece in
    let back : drop (end + 1) (drop from piece) ≡ drop (from + end + 1) piece = drop-drop (end + 1) from piece ∙ ap (λ (n : ℕ). drop n piece) (omega arith) in
    record {
      cut =
          sym (take-append-drop from piece) ∙ ap (λ (bs : List ℕ). take from piece ++ bs) (at.cut ∙ ap (λ (bs : List ℕ). take end (drop from piece) ++ 10 ∷ bs) back)
          ∙ sym (append_assoc (take from piece) (take end (drop from piece)) (10 ∷ drop (from + end + 1) piece)) ∙ ap (λ (bs : List ℕ). bs ++ 10 ∷ drop (from + end + 1) piece) (sym front);
      within = omega (at.within, length-drop from piece, within, arith);
    }

-- a piece of a line that is in a comment
pub comment_taken : (piece : List ℕ) (count : ℕ) (ended : Bool) (read : LineSoFar) → read.commented ≡ true → EndsBehind piece 0 count ended
    → MatchBool ended (EndsBy piece count read read) (TakesAll piece count read read)
comment_taken piece count true read closed ends =
    let at = ends.2 in
    ends_at piece ends.0 count read read (record { cut = at.cut; within = at.within }) (omega (ends.1, arith)) (in_comment read (take ends.0 piece) closed at.before)
comment_taken piece count false read closed ends = record { long = ends.0; goes = in_comment read piece closed ends.1 }

-- the bytes before the end begin with the `#`
comment_front : (rest behind : List ℕ) (end : ℕ) (read : LineSoFar) → rest ≡ 35 ∷ behind → read.commented ≡ false → IsEndOf rest end
    → GoesOnBy (take end rest) read (with_comment read)
comment_front rest behind zero read is plain at = absurd (wrong (sym is ∙ at.cut))
  where
    wrong : ◌≡◌ {A = List ℕ} (35 ∷ behind) (10 ∷ drop (0 + 1) rest) → ⊥
    wrong e = (let h : ◌≡◌ {A = ℕ} 35 10 = cc in omega (h, arith))
comment_front rest behind (suc end) read is plain at =
    let same : take (suc end) rest ≡ 35 ∷ take end behind = ap (take (suc end)) is in
    subst (λ (bs : List ℕ). GoesOnBy bs read (with_comment read)) (sym same) (into_comment read (take end behind) plain (subst IsUnended same at.before))

-- a piece in which a comment begins
pub comment_begun : (piece : List ℕ) (words count : ℕ) (ended : Bool) (old mid : LineSoFar) → GoesOnByFront piece words old mid
    → words < length piece → slice_index piece words ≡ 35 → EndsBehind piece words count ended
    → MatchBool ended (EndsBy piece count old (with_comment mid)) (TakesAll piece count old (with_comment mid))
comment_begun piece words count true old mid front within hash ends =
    let at = ends.2 in
    let rest = drop words piece in
    ends_at piece (words + ends.0) count old (with_comment mid) (end_further piece words ends.0 (omega (within, arith)) at) (omega (ends.1, arith))
    (goes_further old mid (with_comment mid) (take words piece) (take ends.0 rest) (take (words + ends.0) piece) (take-add words ends.0 piece) front.front
    (comment_front rest (drop (words + 1) piece) ends.0 mid (cut_at piece words 35 within hash) front.plain at))
comment_begun piece words count false old mid front within hash ends =
    let begins = cut_at piece words 35 within hash in
    record {
      long = ends.0;
      goes = goes_further old mid (with_comment mid) (take words piece) (drop words piece) piece (sym (take-append-drop words piece)) front.front
          (subst (λ (bs : List ℕ). GoesOnBy bs mid (with_comment mid)) (sym begins) (into_comment mid (drop (words + 1) piece) front.plain (subst IsUnended begins ends.1)));
    }
