-- What a byte does to the words of a line.
use Rattle.std.proofs.Common.{◌≡◌, ◌≢◌, ◌<◌, ◌≤◌, ◌^◌, ◌+◌, ◌-◌, ◌*◌, ◌==◌, ◌||◌, ◌&&◌, not, cond, ℕ, zero, suc, Bool, true, false, List, [], ◌∷◌, ◌++◌, map, length, take, Some, None, refl, sym, ◌∙◌, ap, subst, arith, true≢false, nat_lt, nat_le}
use Rattle.std.specs.Prelude.{codes}
use Rattle.std.specs.List.{filter, list_all, slice_split}
use Rattle.std.specs.Option.{option_and_then}
use Rattle.std.specs.Str.{bytes_eq}
use Rattle.std.proofs.lemmas.Bool.{cond-true, cond-false, not_from_false, ne_eqb, eqb-true, eqb-false, eq-eqb, and_parts, and_from, lt-ltb, lt-leb, le-leb, leb-true}
use Rattle.std.proofs.lemmas.List.{append_assoc, append-nil, length-append}
use Rattle.std.proofs.lemmas.List.Folds.{list_all-append}
use Rattle.std.proofs.lemmas.List.Elements.{All-append, All-cons, All-nil, filter-append}
use Rattle.std.proofs.lemmas.List.Splits.{slice_split_at, slice_split_none}
use Rattle.vw_text.specs.Bare.{is_blank}
use Rattle.vw_text.specs.Number.{is_digit, is_number, value_from}
use Rattle.vw_text.specs.WordLines.{is_empty, words_of}
use Rattle.vw_rows.specs.Stimulus.{is_bits, clocks_within, held_times, row_of_bits, repeated, rows_added}
use Rattle.vw_rows.specs.Steps.Saying.{AreBad, IsSolid, SpellsRow}

-- ---- the words of a line, byte by byte

kept_word : (part : List ℕ) → 0 < length part → filter (λ p. not (is_empty p)) (part ∷ []) ≡ part ∷ []
kept_word [] some = absurd (omega (some, arith))
kept_word (b ∷ bs) some = cond-true (not (is_empty (b ∷ bs))) _ _ (not_from_false _ (ne_eqb (length (b ∷ bs)) 0 (λ none. absurd (omega arith))))

pub one_part : (part : List ℕ) → IsSolid part → 0 < length part → words_of part ≡ part ∷ []
one_part part solid some = ap (filter (λ p. not (is_empty p))) (slice_split_none is_blank part solid) ∙ kept_word part some

-- a blank ends a part of a word
pub part_ended : (part more : List ℕ) (b : ℕ) → IsSolid part → is_blank b ≡ true → words_of (part ++ b ∷ more) ≡ words_of part ++ words_of more
part_ended part more b solid blank =
    let nonempty = λ (p : List ℕ). not (is_empty p) in
    ap (filter nonempty) (slice_split_at is_blank part b more solid blank)
    ∙ filter-append nonempty (part ∷ []) (slice_split is_blank more)
    ∙ ap (λ (ws : List (List ℕ)). ws ++ words_of more) (sym (ap (filter nonempty) (slice_split_none is_blank part solid)))

-- the first word of a text begins with its front
abbrev FirstGoesOn : List ℕ → List ℕ → Type 0
FirstGoesOn front more = (x : List ℕ) × (ws : List (List ℕ)) × (words_of (front ++ more) ≡ (front ++ x) ∷ ws)

solid_longer : (part : List ℕ) (b : ℕ) → IsSolid part → is_blank b ≡ false → IsSolid (part ++ b ∷ [])
solid_longer part b solid nonblank = All-append (λ b. is_blank b ≡ false) part (b ∷ []) solid (All-cons (λ b. is_blank b ≡ false) b [] nonblank (All-nil (λ b. is_blank b ≡ false)))

first_by : (c : ℕ) (cs front : List ℕ) → IsSolid front → 0 < length front
    → (IsSolid (front ++ c ∷ []) → 0 < length (front ++ c ∷ []) → FirstGoesOn (front ++ c ∷ []) cs)
    → (blank : Bool) → is_blank c ≡ blank → FirstGoesOn front (c ∷ cs)
first_by c cs front solid some further true is =
    ([], words_of cs, part_ended front cs c solid is ∙ ap (λ (ws : List (List ℕ)). ws ++ words_of cs) (one_part front solid some) ∙ ap (λ (w : List ℕ). w ∷ words_of cs) (sym (append-nil front)))
first_by c cs front solid some further false is =
    let r = further (solid_longer front c solid is) (omega (length-append front (c ∷ []), arith)) in
    (c ∷ r.0, r.1, ap words_of (sym (append_assoc front (c ∷ []) cs)) ∙ r.2 ∙ ap (λ (w : List ℕ). w ∷ r.1) (append_assoc front (c ∷ []) r.0))

first_goes_on : (front more : List ℕ) → IsSolid front → 0 < length front → FirstGoesOn front more
first_goes_on front [] solid some = ([], [], ap words_of (append-nil front) ∙ one_part front solid some ∙ ap (λ (w : List ℕ). w ∷ []) (sym (append-nil front)))
first_goes_on front (c ∷ cs) solid some = first_by c cs front solid some (first_goes_on (front ++ c ∷ []) cs) (is_blank c) refl

-- a word begins with a part and a byte that is no blank
pub word_with : (part more : List ℕ) (b : ℕ) → IsSolid part → is_blank b ≡ false
    → (x : List ℕ) × (ws : List (List ℕ)) × (words_of (part ++ b ∷ more) ≡ (part ++ b ∷ x) ∷ ws)
word_with part more b solid nonblank =
    let r = first_goes_on (part ++ b ∷ []) more (solid_longer part b solid nonblank) (omega (length-append part (b ∷ []), arith)) in
    (r.0, r.1, ap words_of (sym (append_assoc part (b ∷ []) more)) ∙ r.2 ∙ ap (λ (w : List ℕ). w ∷ r.1) (append_assoc part (b ∷ []) r.0))

-- ---- words of no line

-- no line begins with this word
pub record IsBadWord (word : List ℕ) : Type 0 where
  pub bits : is_bits word ≡ false
  pub dash : bytes_eq word (codes "-") ≡ false
  pub hold : bytes_eq word (codes "hold") ≡ false

bad_first : (w : List ℕ) (ws : List (List ℕ)) → IsBadWord w → AreBad (w ∷ ws)
bad_first w [] bad width number before = ap (row_of_bits width number) (cond-false (is_bits w) _ _ bad.bits ∙ cond-false (bytes_eq w (codes "-")) _ _ bad.dash)
bad_first w (c ∷ []) bad width number before = ap (repeated number before) (cond-false (bytes_eq w (codes "hold")) _ _ bad.hold)
bad_first w (c ∷ d ∷ ds) bad width number before = refl

bad_pair : (w second : List ℕ) (ws : List (List ℕ)) → held_times w second ≡ None → AreBad (w ∷ second ∷ ws)
bad_pair w second [] none width number before = ap (repeated number before) none
bad_pair w second (c ∷ cs) none width number before = refl

-- the first word is none with which a line begins
pub bad_word : (done : List (List ℕ)) (part more : List ℕ) (b : ℕ) → done ≡ [] → IsSolid part → is_blank b ≡ false
    → ((x : List ℕ) → IsBadWord (part ++ b ∷ x)) → AreBad (done ++ words_of (part ++ b ∷ more))
bad_word done part more b none solid nonblank bad width number before =
    let r = word_with part more b solid nonblank in
    ap (rows_added width number before) (ap (λ (d : List (List ℕ)). d ++ words_of (part ++ b ∷ more)) none ∙ r.2) ∙ bad_first (part ++ b ∷ r.0) r.1 (bad r.0) width number before

-- a further word behind one with which no pair of words begins, or with which it ends
pub bad_second : (done : List (List ℕ)) (first part more : List ℕ) (b : ℕ) → done ≡ first ∷ [] → IsSolid part → is_blank b ≡ false
    → ((x : List ℕ) → held_times first (part ++ b ∷ x) ≡ None) → AreBad (done ++ words_of (part ++ b ∷ more))
bad_second done first part more b one solid nonblank bad width number before =
    let r = word_with part more b solid nonblank in
    ap (rows_added width number before) (ap (λ (d : List (List ℕ)). d ++ words_of (part ++ b ∷ more)) one ∙ ap (λ (ws : List (List ℕ)). first ∷ ws) r.2) ∙ bad_pair first (part ++ b ∷ r.0) r.1 (bad r.0) width number before

-- a third word
pub bad_third : (done : List (List ℕ)) (first second part more : List ℕ) (b : ℕ) → done ≡ first ∷ second ∷ [] → IsSolid part
    → is_blank b ≡ false → AreBad (done ++ words_of (part ++ b ∷ more))
bad_third done first second part more b two solid nonblank width number before =
    let r = word_with part more b solid nonblank in
    ap (rows_added width number before) (ap (λ (d : List (List ℕ)). d ++ words_of (part ++ b ∷ more)) two ∙ ap (λ (ws : List (List ℕ)). first ∷ second ∷ ws) r.2)

-- ---- words of bits

abbrev pub bit : ℕ → Bool
bit b = b == 48 || b == 49

bits_cut : (part : List ℕ) (b : ℕ) (x : List ℕ) → bit b ≡ false → is_bits (part ++ b ∷ x) ≡ false
bits_cut part b x other =
    let wrong : list_all bit (part ++ b ∷ x) ≡ false = list_all-append bit part (b ∷ x) ∙ ap (λ v. list_all bit part && (v && list_all bit x)) other ∙ never (list_all bit part) in
    ap (λ v. v && not (length (part ++ b ∷ x) == 0)) wrong
  where
    never : (v : Bool) → (v && false) ≡ false
    never true = refl
    never false = refl

-- a word that begins with a bit is neither `-` nor `hold`
head_bit : (part : List ℕ) → is_bits part ≡ true → (x : List ℕ) → (bytes_eq (part ++ x) (codes "-") ≡ false) × (bytes_eq (part ++ x) (codes "hold") ≡ false)
head_bit [] is x = absurd (true≢false (sym is))
head_bit (c ∷ cs) is x = by (c == 48) (c == 49) refl refl ((and_parts (bit c) (list_all bit cs) (and_parts (list_all bit (c ∷ cs)) _ is).0).0)
  where
    by : (zero_ one_ : Bool) → (c == 48) ≡ zero_ → (c == 49) ≡ one_ → bit c ≡ true
        → (bytes_eq (c ∷ (cs ++ x)) (codes "-") ≡ false) × (bytes_eq (c ∷ (cs ++ x)) (codes "hold") ≡ false)
    by true one_ is_zero is_one is_bit = rw (eqb-true c 48 is_zero) (refl, refl)
    by false true is_zero is_one is_bit = rw (eqb-true c 49 is_one) (refl, refl)
    by false false is_zero is_one is_bit = absurd (true≢false (sym is_bit ∙ ap (λ v. v || (c == 49)) is_zero ∙ is_one))

pub bits_stop : (part : List ℕ) (b : ℕ) (x : List ℕ) → is_bits part ≡ true → bit b ≡ false → IsBadWord (part ++ b ∷ x)
bits_stop part b x is other = record { bits = bits_cut part b x other; dash = (head_bit part is (b ∷ x)).0; hold = (head_bit part is (b ∷ x)).1 }

pub bits_longer : (part : List ℕ) (b : ℕ) → is_bits part ≡ true → bit b ≡ true → is_bits (part ++ b ∷ []) ≡ true
bits_longer part b is more =
    let all : list_all bit (part ++ b ∷ []) ≡ true = list_all-append bit part (b ∷ []) ∙ ap (λ v. v && (bit b && true)) (and_parts (list_all bit part) _ is).0 ∙ ap (λ v. v && true) more in
    and_from _ _ all (not_from_false _ (ne_eqb (length (part ++ b ∷ [])) 0 (λ none. absurd (omega (none, length-append part (b ∷ []), arith)))))

pub is_row : (part : List ℕ) (row : List Bool) → is_bits part ≡ true → row ≡ map (λ b. b == 49) part → SpellsRow part row
is_row part row is same = record {
  spells = cond-true (is_bits part) _ _ is ∙ ap Some (sym same);
  other = ap (λ (w : List ℕ). bytes_eq w (codes "hold")) (sym (append-nil part)) ∙ (head_bit part is []).1;
}

pub some_bits : (part : List ℕ) → is_bits part ≡ true → 0 < length part
some_bits [] is = absurd (true≢false (sym is))
some_bits (c ∷ cs) is = omega arith

-- ---- numbers

value_from-le : (before : ℕ) (digits : List ℕ) → before ≤ value_from before digits
value_from-le before [] = omega arith
value_from-le before (b ∷ bs) = omega (arith, value_from-le (before * 10 + (b - 48)) bs)

value_from-append : (before : ℕ) (xs ys : List ℕ) → value_from before (xs ++ ys) ≡ value_from (value_from before xs) ys
value_from-append before [] ys = refl
value_from-append before (x ∷ xs) ys = value_from-append (before * 10 + (x - 48)) xs ys

pub some_digits : (part : List ℕ) → is_number part ≡ true → 0 < length part
some_digits [] is = absurd (true≢false (sym is))
some_digits (c ∷ cs) is = omega arith

not_and : (v : Bool) → (v && false) ≡ false
not_and true = refl
not_and false = refl

-- no number goes on with a byte that is no digit
number_cut : (part : List ℕ) (b : ℕ) (x : List ℕ) → is_number part ≡ true → is_digit b ≡ false → is_number (part ++ b ∷ x) ≡ false
number_cut [] b x is other = absurd (true≢false (sym is))
number_cut (d ∷ []) b x is other =
    ap (λ v. is_digit d && (not (d == 48) && (v && list_all is_digit x))) other ∙ ap (λ v. is_digit d && v) (not_and (not (d == 48))) ∙ not_and (is_digit d)
number_cut (d ∷ e ∷ ds) b x is other =
    let wrong : list_all is_digit ((e ∷ ds) ++ b ∷ x) ≡ false = list_all-append is_digit (e ∷ ds) (b ∷ x) ∙ ap (λ v. list_all is_digit (e ∷ ds) && (v && list_all is_digit x)) other ∙ not_and (list_all is_digit (e ∷ ds)) in
    ap (λ v. is_digit d && (not (d == 48) && v)) wrong ∙ ap (λ v. is_digit d && v) (not_and (not (d == 48))) ∙ not_and (is_digit d)

no_number : (word : List ℕ) → is_number word ≡ false → held_times (codes "hold") word ≡ None
no_number word isnt = ap (option_and_then clocks_within) (cond-false (is_number word && nat_lt (value_from 0 word) (2 ^ 64)) _ _ (ap (λ v. v && nat_lt (value_from 0 word) (2 ^ 64)) isnt))

digit_le : (b : ℕ) → is_digit b ≡ true → 48 ≤ b
digit_le b is = leb-true 48 b (and_parts (nat_le 48 b) (nat_le b 57) is).0

-- a number with the value 0 is `0`, which doesn't go on
zero_cut : (part : List ℕ) (b : ℕ) (x : List ℕ) → is_number part ≡ true → value_from 0 part ≡ 0 → is_number (part ++ b ∷ x) ≡ false
zero_cut [] b x is none = absurd (true≢false (sym is))
zero_cut (d ∷ []) b x is none =
    let zero_ : (d == 48) ≡ true = eq-eqb d 48 (omega (none, digit_le d is, arith)) in
    ap (λ v. is_digit d && (not v && (is_digit b && list_all is_digit x))) zero_ ∙ not_and (is_digit d)
zero_cut (d ∷ e ∷ ds) b x is none =
    let parts = and_parts (is_digit d) (not (d == 48) && list_all is_digit (e ∷ ds)) is in
    let differs : (d == 48) ≡ false = not_true (d == 48) (and_parts (not (d == 48)) (list_all is_digit (e ∷ ds)) parts.1).0 in
    absurd (eqb-false d 48 differs (omega (none, digit_le d parts.0, value_from-le (0 * 10 + (d - 48)) (e ∷ ds), value_from-le ((0 * 10 + (d - 48)) * 10 + (e - 48)) ds, arith)))
  where
    not_true : (v : Bool) → not v ≡ true → v ≡ false
    not_true true h = absurd (true≢false (sym h))
    not_true false h = refl

pub stops_at_other : (part : List ℕ) (b : ℕ) (x : List ℕ) → is_number part ≡ true → is_digit b ≡ false → held_times (codes "hold") (part ++ b ∷ x) ≡ None
stops_at_other part b x is other = no_number (part ++ b ∷ x) (number_cut part b x is other)

pub stops_at_zero : (part : List ℕ) (b : ℕ) (x : List ℕ) → is_number part ≡ true → value_from 0 part ≡ 0 → held_times (codes "hold") (part ++ b ∷ x) ≡ None
stops_at_zero part b x is none = no_number (part ++ b ∷ x) (zero_cut part b x is none)

pub no_first_digit : (b : ℕ) (x : List ℕ) → is_digit b ≡ false → held_times (codes "hold") (b ∷ x) ≡ None
no_first_digit b [] other = no_number (b ∷ []) other
no_first_digit b (c ∷ cs) other = no_number (b ∷ c ∷ cs) (ap (λ v. v && (not (b == 48) && list_all is_digit (c ∷ cs))) other)

-- a number whose value is above the clocks of a run
too_many : (word : List ℕ) → 4294967295 < value_from 0 word → held_times (codes "hold") word ≡ None
too_many word large = by (is_number word && nat_lt (value_from 0 word) (2 ^ 64)) refl
  where
    by : (v : Bool) → (is_number word && nat_lt (value_from 0 word) (2 ^ 64)) ≡ v → held_times (codes "hold") word ≡ None
    by true e = ap (option_and_then clocks_within) (cond-true _ _ _ e) ∙ cond-false (nat_le (value_from 0 word) 4294967295) _ _ (lt-leb (value_from 0 word) 4294967295 large)
    by false e = ap (option_and_then clocks_within) (cond-false _ _ _ e)

pub stops_when_large : (part : List ℕ) (b : ℕ) (x : List ℕ) (times : ℕ) → value_from 0 part ≡ times → 4294967295 < times * 10 + (b - 48)
    → held_times (codes "hold") (part ++ b ∷ x) ≡ None
stops_when_large part b x times value large =
    too_many (part ++ b ∷ x) (omega (large, value_from-le (value_from 0 part * 10 + (b - 48)) x, value, value_from-append 0 part (b ∷ x), arith))

pub number_longer : (part : List ℕ) (b : ℕ) → is_number part ≡ true → 0 < value_from 0 part → is_digit b ≡ true → is_number (part ++ b ∷ []) ≡ true
number_longer [] b is some digit = absurd (true≢false (sym is))
number_longer (d ∷ []) b is some digit =
    let differs : (d == 48) ≡ false = ne_eqb d 48 (λ same. absurd (omega (same, some, arith))) in
    and_from (is_digit d) _ is (and_from (not (d == 48)) _ (not_from_false _ differs) (and_from (is_digit b) true digit refl))
number_longer (d ∷ e ∷ ds) b is some digit =
    let parts = and_parts (is_digit d) (not (d == 48) && list_all is_digit (e ∷ ds)) is in
    let inner = and_parts (not (d == 48)) (list_all is_digit (e ∷ ds)) parts.1 in
    let all : list_all is_digit ((e ∷ ds) ++ b ∷ []) ≡ true = list_all-append is_digit (e ∷ ds) (b ∷ []) ∙ and_from (list_all is_digit (e ∷ ds)) (is_digit b && true) inner.1 (and_from (is_digit b) true digit refl) in
    and_from (is_digit d) _ parts.0 (and_from (not (d == 48)) _ inner.0 all)

pub value_longer : (part : List ℕ) (b : ℕ) → value_from 0 (part ++ b ∷ []) ≡ value_from 0 part * 10 + (b - 48)
value_longer part b = value_from-append 0 part (b ∷ [])

-- a number that has ended
pub is_times : (part : List ℕ) (times : ℕ) → is_number part ≡ true → value_from 0 part ≡ times → times ≤ 4294967295
    → held_times (codes "hold") part ≡ Some times
is_times part times is value few =
    let small : nat_lt (value_from 0 part) (2 ^ 64) ≡ true = lt-ltb _ _ (omega (value, few, arith)) in
    ap (option_and_then clocks_within) (cond-true _ _ _ (and_from (is_number part) _ is small) ∙ ap Some value)
    ∙ cond-true (nat_le times 4294967295) _ _ (le-leb times 4294967295 few)

-- a digit, or none
pub some_digit : (b value : ℕ) → (cond (is_digit b) (Some (b - 48)) None ≡ Some value) → (is_digit b ≡ true) × (value ≡ b - 48)
some_digit b value is = by (is_digit b) is
  where
    by : (v : Bool) → cond v (Some (b - 48)) None ≡ Some value → (v ≡ true) × (value ≡ b - 48)
    by true e = (refl, sym (let e' : Some (b - 48) ≡ Some value = e in cc))
    by false e = absurd (let e' : None ≡ Some value = e in cc)

pub not_digit : (b : ℕ) → (cond (is_digit b) (Some (b - 48)) None ≡ None) → is_digit b ≡ false
not_digit b is = by (is_digit b) is
  where
    by : (v : Bool) → cond v (Some (b - 48)) None ≡ None → v ≡ false
    by true e = absurd (let e' : Some (b - 48) ≡ None = e in cc)
    by false e = refl

-- one word is done
pub word_done : (done : List (List ℕ)) (part : List ℕ) → done ≡ [] → IsSolid part → 0 < length part → done ++ words_of part ≡ part ∷ []
word_done done part none solid some = ap (λ (d : List (List ℕ)). d ++ words_of part) none ∙ one_part part solid some

pub word_done_behind : (done : List (List ℕ)) (first part : List ℕ) → done ≡ first ∷ [] → IsSolid part → 0 < length part
    → done ++ words_of part ≡ first ∷ part ∷ []
word_done_behind done first part one solid some = ap (λ (d : List (List ℕ)). d ++ words_of part) one ∙ ap (λ (ws : List (List ℕ)). first ∷ ws) (one_part part solid some)

-- letters of `hold` are a word of no line
few_letters : (count : ℕ) → 0 < count → count ≤ 4 → count ≢ 4 → IsBadWord (take count (codes "hold")) × (0 < length (take count (codes "hold")))
few_letters zero some few other = absurd (omega (some, arith))
few_letters (suc zero) some few other = (record { bits = refl; dash = refl; hold = refl }, omega arith)
few_letters (suc (suc zero)) some few other = (record { bits = refl; dash = refl; hold = refl }, omega arith)
few_letters (suc (suc (suc zero))) some few other = (record { bits = refl; dash = refl; hold = refl }, omega arith)
few_letters (suc (suc (suc (suc zero)))) some few other = absurd (other refl)
few_letters (suc (suc (suc (suc (suc n))))) some few other = absurd (omega (few, arith))

pub letters_end : (done : List (List ℕ)) (part : List ℕ) (count : ℕ) → done ≡ [] → part ≡ take count (codes "hold") → 0 < count → count ≤ 4
    → count ≢ 4 → IsSolid part → (words : List (List ℕ)) → AreBad ((done ++ words_of part) ++ words)
letters_end done part count none is some few other solid words width number before =
    let bad = few_letters count some few other in
    let long : 0 < length part = subst (λ (p : List ℕ). 0 < length p) (sym is) bad.1 in
    ap (λ (ws : List (List ℕ)). rows_added width number before (ws ++ words)) (word_done done part none solid long) ∙ bad_first part words (subst IsBadWord (sym is) bad.0) width number before
