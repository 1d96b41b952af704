-- The rows that masks are kept for, and when masks match.
use Rattle.std.proofs.Common.{◌≡◌, ◌<◌, ◌+◌, ◌*◌, ◌/◌, ◌%◌, ◌^◌, ◌==◌, ◌&&◌, ◌||◌, not, ℕ, zero, suc, min, Bool, true, false, List, [], ◌∷◌, length, map, get_or, slice_get, bit_and, bit_xor, Some, if◌then◌else◌, ap, ap₂, sym, refl, ◌∙◌, ⊎_elim, All, ne_eqb, subst, arith}
use Rattle.std.specs.Int.{bit_at}
use Rattle.std.specs.Int.Bits.{and_zero_r}
use Rattle.std.specs.List.{list_any}
use Rattle.std.specs.Option.{option_and_then}
use Rattle.std.proofs.Math.Nat.{pow-suc}
use Rattle.std.proofs.lemmas.Bool.{cases_eq}
use Rattle.std.proofs.lemmas.List.{length-map}
use Rattle.std.proofs.lemmas.List.Elements.{All-cons, All-head, All-nil, All-tail}
use Rattle.std.proofs.lemmas.Nat.Bits.{bit_at_lowest, bit_at-suc, bit_at_and, bit_at_xor, same_from_bits}
use Rattle.vw_net.specs.declared.cover.Mark.{Mark}
use Rattle.vw_net.specs.declared.cover.Mark.TheVariants.{Zero, One, Any}
use Rattle.vw_net.specs.declared.cover.Row.{Row}
use Rattle.vw_net.specs.declared.masks.Masks.{Masks}
use Rattle.vw_net.specs.Mark.{mark_matches, row_matches}
use Rattle.vw_net.specs.Table.{Table}
use Rattle.vw_net.specs.Cover.{cover_value, mark_at}
use Rattle.vw_net.specs.TruthTable.{place_of}
use Rattle.vw_net.specs.Steps.Masks.{is_looked, is_wanted, masks_of, mark_of, marks_of, row_of, rows_of, is_matched}
use Rattle.vw_net.proofs.Places.{bit, half, lowest, place_of-lt}

-- ---- the masks of marks stand for these marks

mark_kept : (mark : Mark) → mark_of (is_looked mark) (is_wanted mark) ≡ mark
mark_kept Zero = refl
mark_kept One = refl
mark_kept Any = refl

-- whether a number is odd is its lowest bit
odd : (value : Bool) (rest : ℕ) → ((bit value + 2 * rest) % 2 == 1) ≡ value
odd true rest = ap (λ (n : ℕ). n == 1) (lowest true rest)
odd false rest = ap (λ (n : ℕ). n == 1) (lowest false rest)

marks_kept : (marks : List Mark) → marks_of (length marks) (place_of (map is_looked marks)) (place_of (map is_wanted marks)) ≡ marks
marks_kept [] = refl
marks_kept (mark ∷ marks) =
    let looked = place_of (map is_looked marks) in
    let wanted = place_of (map is_wanted marks) in
    let first = ap₂ mark_of (odd (is_looked mark) looked) (odd (is_wanted mark) wanted) ∙ mark_kept mark in
    let rest = ap₂ (marks_of (length marks)) (half (is_looked mark) looked) (half (is_wanted mark) wanted) ∙ marks_kept marks in
    ap₂ (λ (one : Mark) (more : List Mark). one ∷ more) first rest

row_kept : (inputs : ℕ) (row : Row) → length row.marks ≡ inputs → row_of inputs (masks_of row.marks) ≡ row
row_kept inputs row even =
    let marks : marks_of inputs (place_of (map is_looked row.marks)) (place_of (map is_wanted row.marks)) ≡ row.marks =
    subst (λ (n : ℕ). marks_of n (place_of (map is_looked row.marks)) (place_of (map is_wanted row.marks)) ≡ row.marks) even (marks_kept row.marks) in
    λ i. record { marks = marks i }

pub rows_kept : (inputs : ℕ) (rows : List Row) → All (λ row. length row.marks ≡ inputs) rows → rows_of inputs (map (λ (one : Row). masks_of one.marks) rows) ≡ rows
rows_kept inputs [] even = refl
rows_kept inputs (row ∷ rows) even =
    ap₂ (λ (one : Row) (more : List Row). one ∷ more)
    (row_kept inputs row (All-head (λ (r : Row). length r.marks ≡ inputs) row rows even))
    (rows_kept inputs rows (All-tail (λ (r : Row). length r.marks ≡ inputs) row rows even))

-- no mask looks past the inputs
pub masks_within : (inputs : ℕ) (rows : List Row) → All (λ row. length row.marks ≡ inputs) rows → All (λ masks. masks.looked < 2 ^ inputs) (map (λ (one : Row). masks_of one.marks) rows)
masks_within inputs [] even = All-nil (λ (masks : Masks). masks.looked < 2 ^ inputs)
masks_within inputs (row ∷ rows) even =
    let here : length row.marks ≡ inputs = All-head (λ (r : Row). length r.marks ≡ inputs) row rows even in
    let size : length (map is_looked row.marks) ≡ inputs = length-map row.marks is_looked ∙ here in
    let low : place_of (map is_looked row.marks) < 2 ^ inputs = subst (λ (n : ℕ). place_of (map is_looked row.marks) < 2 ^ n) size (place_of-lt (map is_looked row.marks)) in
    All-cons (λ (masks : Masks). masks.looked < 2 ^ inputs) (masks_of row.marks) (map (λ (one : Row). masks_of one.marks) rows) low
    (masks_within inputs rows (All-tail (λ (r : Row). length r.marks ≡ inputs) row rows even))

-- ---- what masks match

and_half : (a b : ℕ) → bit_and a b / 2 ≡ bit_and (a / 2) (b / 2)
and_half a b = same_from_bits (bit_and a b / 2) (bit_and (a / 2) (b / 2)) (λ i.
    sym (bit_at-suc (bit_and a b) i) ∙ bit_at_and a b (suc i) ∙ ap₂ min (bit_at-suc a i) (bit_at-suc b i) ∙ sym (bit_at_and (a / 2) (b / 2) i))

xor_half : (a b : ℕ) → bit_xor a b / 2 ≡ bit_xor (a / 2) (b / 2)
xor_half a b = same_from_bits (bit_xor a b / 2) (bit_xor (a / 2) (b / 2)) (λ i.
    sym (bit_at-suc (bit_xor a b) i) ∙ bit_at_xor a b (suc i) ∙ ap₂ (λ (x y : ℕ). (x + y) % 2) (bit_at-suc a i) (bit_at-suc b i) ∙ sym (bit_at_xor (a / 2) (b / 2) i))

and_lowest : (a b : ℕ) → bit_and a b % 2 ≡ min (a % 2) (b % 2)
and_lowest a b = sym (bit_at_lowest (bit_and a b)) ∙ bit_at_and a b 0 ∙ ap₂ min (bit_at_lowest a) (bit_at_lowest b)

xor_lowest : (a b : ℕ) → bit_xor a b % 2 ≡ (a % 2 + b % 2) % 2
xor_lowest a b = sym (bit_at_lowest (bit_xor a b)) ∙ bit_at_xor a b 0 ∙ ap₂ (λ (x y : ℕ). (x + y) % 2) (bit_at_lowest a) (bit_at_lowest b)

-- a number is 0 where its lowest bit and the rest are
zero_by_half : (n : ℕ) → (n == 0) ≡ ((n % 2 == 0) && (n / 2 == 0))
zero_by_half n = ⊎_elim if_zero if_other (cases_eq n 0) where
  if_zero : n ≡ 0 → (n == 0) ≡ ((n % 2 == 0) && (n / 2 == 0))
  if_zero is = rw is refl

  if_other : (n ≡ 0 → ⊥) → (n == 0) ≡ ((n % 2 == 0) && (n / 2 == 0))
  if_other some = ne_eqb n 0 some ∙ sym (⊎_elim if_even if_odd (cases_eq (n % 2) 0)) where
    if_even : n % 2 ≡ 0 → ((n % 2 == 0) && (n / 2 == 0)) ≡ false
    if_even even = let rest : (n / 2 ≡ 0 → ⊥) = λ none. some (omega arith) in rw (even, ne_eqb (n / 2) 0 rest) refl

    if_odd : (n % 2 ≡ 0 → ⊥) → ((n % 2 == 0) && (n / 2 == 0)) ≡ false
    if_odd is_odd = rw (ne_eqb (n % 2) 0 is_odd) refl

-- one bit of each mask against one value
bit_matched : (looked wanted : ℕ) (value : Bool) → looked < 2 → wanted < 2 → mark_matches (mark_of (looked == 1) (wanted == 1)) value ≡ (min ((bit value + wanted) % 2) looked == 0)
bit_matched zero zero true low small = refl
bit_matched zero zero false low small = refl
bit_matched zero (suc zero) true low small = refl
bit_matched zero (suc zero) false low small = refl
bit_matched (suc zero) zero true low small = refl
bit_matched (suc zero) zero false low small = refl
bit_matched (suc zero) (suc zero) true low small = refl
bit_matched (suc zero) (suc zero) false low small = refl
bit_matched zero (suc (suc wanted)) value low small = absurd (omega arith)
bit_matched (suc zero) (suc (suc wanted)) value low small = absurd (omega arith)
bit_matched (suc (suc looked)) wanted value low small = absurd (omega arith)

marks_matched : (inputs looked wanted : ℕ) (bits : List Bool) → looked < 2 ^ inputs → length bits ≡ inputs → (bit_and (bit_xor (place_of bits) wanted) looked == 0) ≡ row_matches (marks_of inputs looked wanted) bits
marks_matched zero looked wanted bits low size =
    let none : looked ≡ 0 = omega arith in
    rw none (ap (λ (n : ℕ). n == 0) (and_zero_r (bit_xor (place_of bits) wanted)))
marks_matched (suc inputs) looked wanted [] low size = absurd (omega arith)
marks_matched (suc inputs) looked wanted (value ∷ bits) low size =
    let place = bit value + 2 * place_of bits in
    let both = bit_and (bit_xor place wanted) looked in
    let rest : both / 2 ≡ bit_and (bit_xor (place_of bits) (wanted / 2)) (looked / 2) =
    and_half (bit_xor place wanted) looked ∙ ap (λ (n : ℕ). bit_and n (looked / 2)) (xor_half place wanted ∙ ap (λ (n : ℕ). bit_xor n (wanted / 2)) (half value (place_of bits))) in
    let here : both % 2 ≡ min ((bit value + wanted % 2) % 2) (looked % 2) =
    and_lowest (bit_xor place wanted) looked ∙ ap (λ (n : ℕ). min n (looked % 2)) (xor_lowest place wanted ∙ ap (λ (n : ℕ). (n + wanted % 2) % 2) (lowest value (place_of bits))) in
    let small : looked / 2 < 2 ^ inputs = omega (arith, low, pow-suc 2 inputs) in
    zero_by_half both
    ∙ ap₂ (λ (x y : Bool). x && y)
    (ap (λ (n : ℕ). n == 0) here ∙ sym (bit_matched (looked % 2) (wanted % 2) value (omega arith) (omega arith)))
    (ap (λ (n : ℕ). n == 0) rest ∙ marks_matched inputs (looked / 2) (wanted / 2) bits small (omega arith))

-- some masks match where some row does
pub any_matched : (inputs : ℕ) (list : List Masks) (bits : List Bool) → All (λ masks. masks.looked < 2 ^ inputs) list → length bits ≡ inputs → list_any (is_matched (place_of bits)) list ≡ list_any (λ row. row_matches row.marks bits) (rows_of inputs list)
any_matched inputs [] bits low size = refl
any_matched inputs (masks ∷ list) bits low size =
    ap₂ (λ (one more : Bool). one || more)
    (marks_matched inputs masks.looked masks.wanted bits (All-head (λ (m : Masks). m.looked < 2 ^ inputs) masks list low) size)
    (any_matched inputs list bits (All-tail (λ (m : Masks). m.looked < 2 ^ inputs) masks list low) size)

-- ---- one mark

pub mark_is : (inputs looked wanted input : ℕ) → input < inputs → slice_get (marks_of inputs looked wanted) input ≡ Some (mark_of (bit_at looked input == 1) (bit_at wanted input == 1))
mark_is zero looked wanted input within = absurd (omega arith)
mark_is (suc inputs) looked wanted zero within = ap₂ (λ (l w : ℕ). Some (mark_of (l == 1) (w == 1))) (sym (bit_at_lowest looked)) (sym (bit_at_lowest wanted))
mark_is (suc inputs) looked wanted (suc input) within =
    mark_is inputs (looked / 2) (wanted / 2) input (omega arith) ∙ ap₂ (λ (l w : ℕ). Some (mark_of (l == 1) (w == 1))) (sym (bit_at-suc looked input)) (sym (bit_at-suc wanted input))

pub row_is : (inputs : ℕ) (list : List Masks) (row : ℕ) (default : Masks) → row < length list → slice_get (rows_of inputs list) row ≡ Some (row_of inputs (get_or list row default))
row_is inputs [] row default within = absurd (omega arith)
row_is inputs (masks ∷ list) zero default within = refl
row_is inputs (masks ∷ list) (suc row) default within = row_is inputs list row default (omega arith)

-- what is read of the masks at a row is its mark
pub mark_read : (table : Table) (inputs : ℕ) (list : List Masks) (row input : ℕ) (masks : Masks) → rows_of inputs list ≡ table.rows → row < length list → input < inputs → masks ≡ get_or list row masks
    → mark_at table row input ≡ Some (mark_of (bit_at masks.looked input == 1) (bit_at masks.wanted input == 1))
mark_read table inputs list row input masks rows within inside is =
    let its : slice_get table.rows row ≡ Some (row_of inputs masks) = ap (λ (all : List Row). slice_get all row) (sym rows) ∙ row_is inputs list row masks within ∙ ap (λ (one : Masks). Some (row_of inputs one)) (sym is) in
    ap (option_and_then (λ (one : Row). slice_get one.marks input)) its ∙ mark_is inputs masks.looked masks.wanted input inside

-- the value by masks, some of which match a place or not
pub value_by_masks : (table : Table) (list : List Masks) (place : ℕ) (any : Bool) → rows_of table.inputs list ≡ table.rows → All (λ masks. masks.looked < 2 ^ table.inputs) list → list_any (is_matched place) list ≡ any
    → (bits : List Bool) → length bits ≡ table.inputs → place_of bits ≡ place → (if any then table.on else not table.on) ≡ cover_value table bits
value_by_masks table list place any rows low is bits size at =
    ap (λ (b : Bool). if b then table.on else not table.on)
    (sym is ∙ ap (λ (n : ℕ). list_any (is_matched n) list) (sym at) ∙ any_matched table.inputs list bits low size ∙ ap (list_any (λ (row : Row). row_matches row.marks bits)) rows)
