-- Shares, one behind the other, are all items; and so are their open faults, and the counts.
use Rattle.std.proofs.Common.{◌≡◌, ◌≤◌, ◌+◌, ◌-◌, ◌*◌, ◌/◌, ◌++◌, ◌∙◌, ℕ, zero, suc, Bool, List, [], length, drop, take, filter, ap, refl, sym, arith}
use Rattle.std.specs.Int.{sum_through}
use Rattle.std.proofs.Math.Nat.{div-mul-le_self, mul-div_cancel_left, mul-le-mul_right, zero-div}
use Rattle.std.proofs.Math.Seq.{take-add, take-length}
use Rattle.std.proofs.lemmas.List.{length-append, map-append}
use Rattle.std.proofs.lemmas.List.Elements.{filter-append}
use Rattle.std.proofs.lemmas.Nat.{le-div}
use Rattle.vw_net.specs.Gathered.{gather}
use Rattle.vw_fault.specs.declared.open.Open.{Open}
use Rattle.vw_fault.specs.Shares.{share_end, share_of}
use Rattle.vw_fault.specs.Text.{open_lines}
use Rattle.vw_fault.proofs.Texts.{fewer}

-- a later end isn't before an earlier one
ends_rise : (last count number : ℕ) → share_end (suc last) count number ≤ share_end (suc last) count (suc number)
ends_rise last count number =
    le-div (number * count / suc last) (suc number * count) (suc last) (omega arith)
    (omega (arith, div-mul-le_self (number * count) (suc last), mul-le-mul_right {m = number} {n = suc number} count (omega arith)))

module _ {X : Type 0} (last : ℕ) (items : List X) where
  -- the first so many shares are a front of the items
  first_shares : (number : ℕ) → gather (λ before. share_of (suc before) (suc last) items) number ≡ take (share_end (suc last) (length items) number) items
  first_shares zero =
      let none : 0 * length items ≡ 0 = omega arith in
      ap (λ (n : ℕ). take n items) (sym (ap (λ (n : ℕ). n / suc last) none ∙ zero-div (suc last)))
  first_shares (suc number) =
      let end = share_end (suc last) (length items) number in
      let next = share_end (suc last) (length items) (suc number) in
      let sum : end + (next - end) ≡ next = omega (arith, ends_rise last (length items) number) in
      let back : suc number - 1 ≡ number = omega arith in
      let front = gather (λ before. share_of (suc before) (suc last) items) number in
      ap (λ (n : ℕ). front ++ take (next - share_end (suc last) (length items) n) (drop (share_end (suc last) (length items) n) items)) back
      ∙ ap (λ (list : List X). list ++ take (next - end) (drop end items)) (first_shares number)
      ∙ sym (take-add end (next - end) items) ∙ ap (λ (n : ℕ). take n items) sum

  -- and all of them are all items
  pub shares_are_all : gather (λ before. share_of (suc before) (suc last) items) (suc last) ≡ items
  shares_are_all =
      first_shares (suc last) ∙ ap (λ (n : ℕ). take n items) (mul-div_cancel_left (length items) {n = suc last} (omega arith)) ∙ take-length items

-- what is gathered of the parts of lists is that of the whole, where it goes over joined lists
gather_parts : {X Y : Type 0} (h : List X → List Y) → h [] ≡ [] → ((one other : List X) → h (one ++ other) ≡ h one ++ h other) → (each : ℕ → List X) (count : ℕ)
    → gather (λ number. h (each number)) count ≡ h (gather each count)
gather_parts h none joined each zero = sym none
gather_parts h none joined each (suc count) =
    ap (λ (front : List _). front ++ h (each count)) (gather_parts h none joined each count) ∙ sym (joined (gather each count) (each count))

-- the lines of the faults of all shares that pass a test
pub lines_of_shares : (names : List (List ℕ)) (test : Open → Bool) (last : ℕ) (faults : List Open)
    → gather (λ before. open_lines names (filter test (share_of (suc before) (suc last) faults))) (suc last) ≡ open_lines names (filter test faults)
lines_of_shares names test last faults =
    gather_parts (λ (these : List Open). open_lines names (filter test these)) refl
    (λ one other. ap (open_lines names) (filter-append test one other) ∙ map-append _ (filter test one) (filter test other))
    (λ before. share_of (suc before) (suc last) faults) (suc last)
    ∙ ap (λ (these : List Open). open_lines names (filter test these)) (shares_are_all last faults)

-- how many there are in all parts
lengths_add : {X : Type 0} (each : ℕ → List X) (last : ℕ) → sum_through (λ number. length (each number)) last ≡ length (gather each (suc last))
lengths_add each zero = refl
lengths_add each (suc last) = omega (arith, lengths_add each last, length-append (gather each (suc last)) (each (suc last)))

pub counts_add : {X : Type 0} (last : ℕ) (items : List X) → sum_through (λ before. length (share_of (suc before) (suc last) items)) last ≡ length items
counts_add last items = lengths_add (λ before. share_of (suc before) (suc last) items) last ∙ ap length (shares_are_all last items)

-- and how many of them fail a test
others_add : (test : Open → Bool) (each : ℕ → List Open) (last : ℕ)
    → sum_through (λ number. length (each number) - length (filter test (each number))) last ≡ length (gather each (suc last)) - length (filter test (gather each (suc last)))
others_add test each zero = refl
others_add test each (suc last) =
    let front = gather each (suc last) in
    omega (
      arith,
      others_add test each last,
      length-append front (each (suc last)),
      fewer test front,
      fewer test (each (suc last)),
      ap (λ (list : List Open). length list) (filter-append test front (each (suc last))),
      length-append (filter test front) (filter test (each (suc last))),
    )

pub detected_add : (test : Open → Bool) (last : ℕ) (faults : List Open)
    → sum_through (λ before. length (share_of (suc before) (suc last) faults) - length (filter test (share_of (suc before) (suc last) faults))) last ≡ length faults - length (filter test faults)
detected_add test last faults =
    others_add test (λ before. share_of (suc before) (suc last) faults) last
    ∙ ap (λ (these : List Open). length these - length (filter test these)) (shares_are_all last faults)
