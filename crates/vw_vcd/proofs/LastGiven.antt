-- The value given last, of what clocks give: for any identifiers of which no two below 2 ^ 32 are one.
use Rattle.std.proofs.Common.{◌≡◌, ◌<◌, ◌≤◌, ◌+◌, ◌++◌, ◌^◌, ◌∙◌, ℕ, zero, suc, Bool, true, false, ◌&&◌, List, [], ◌∷◌, length, slice_get, if◌then◌else◌, Option, Some, None, ap, ap₂, refl, sym, arith}
use Rattle.std.specs.Prelude.{nat_le}
use Rattle.std.specs.Option.{option_or}
use Rattle.std.specs.Str.{bytes_eq}
use Rattle.std.proofs.lemmas.Bool.{and_from, and_left, and_right, cond-true, cond-false, false_from_ne_true, le-leb, lt-leb}
use Rattle.std.proofs.lemmas.Slice.Eq.{bytes_eq-Decides}
use Rattle.vw_vcd.specs.Changes.{differs, of_each, of_changed}
use Rattle.vw_vcd.specs.Replay.{GivenValue, last_given}

-- a value given to a signal in a clock
abbrev pub given_in : (ℕ → List ℕ) → ℕ → Bool → ℕ → Bool → GivenValue
given_in id clock first number bit = record { time = clock; first = first; id = id number; bit = bit }

-- ---- in two parts

-- nothing behind a value changes nothing
pub or_none : {X : Type 0} (x : Option X) → option_or x None ≡ x
or_none None = refl
or_none (Some x) = refl

-- the first of three
or_assoc : {X : Type 0} (x y z : Option X) → option_or (option_or x y) z ≡ option_or x (option_or y z)
or_assoc None y z = refl
or_assoc (Some x) y z = refl

-- what was given later goes before
pub last_append : (given more : List GivenValue) (time : ℕ) (id : List ℕ) → last_given (given ++ more) time id ≡ option_or (last_given more time id) (last_given given time id)
last_append [] more time id = sym (or_none (last_given more time id))
last_append (one ∷ given) more time id =
    let here = if nat_le one.time time && bytes_eq one.id id then Some one.bit else None in
    ap (λ (rest : Option Bool). option_or rest here) (last_append given more time id)
    ∙ or_assoc (last_given more time id) (last_given given time id) here

-- ---- one value

-- what one given value says of an identifier at a time
abbrev one_last : ℕ → List ℕ → Bool → ℕ → List ℕ → Option Bool
one_last clock one bit time id = if nat_le clock time && bytes_eq one id then Some bit else None

-- it is that of its identifier from then on
one_now : (clock time : ℕ) (id : List ℕ) (bit : Bool) → clock ≤ time → one_last clock id bit time id ≡ Some bit
one_now clock time id bit since =
    cond-true (nat_le clock time && bytes_eq id id) (Some bit) None (and_from (nat_le clock time) (bytes_eq id id) (le-leb clock time since) ((bytes_eq-Decides id id).1 refl))

-- of no other one
pub one_other : (clock time : ℕ) (one id : List ℕ) (bit : Bool) → (one ≡ id → ⊥) → one_last clock one bit time id ≡ None
one_other clock time one id bit other =
    cond-false (nat_le clock time && bytes_eq one id) (Some bit) None
    (and_right (nat_le clock time) (bytes_eq one id) (false_from_ne_true (bytes_eq one id) (λ (is : bytes_eq one id ≡ true). other ((bytes_eq-Decides one id).0 is))))

-- and not before
one_later : (clock time : ℕ) (one id : List ℕ) (bit : Bool) → time < clock → one_last clock one bit time id ≡ None
one_later clock time one id bit later =
    cond-false (nat_le clock time && bytes_eq one id) (Some bit) None (and_left (nat_le clock time) (bytes_eq one id) (lt-leb clock time later))

-- ---- the values of a clock

module _ (id : ℕ → List ℕ) (apart : (one other : ℕ) → one < 2 ^ 32 → other < 2 ^ 32 → id one ≡ id other → one ≡ other) (clock : ℕ) (first : Bool) where
  -- not before that clock
  pub each_later : (time : ℕ) (other : List ℕ) (number : ℕ) (bits : List Bool) → time < clock → last_given (of_each (given_in id clock first) number bits) time other ≡ None
  each_later time other number [] later = refl
  each_later time other number (bit ∷ bits) later =
      ap₂ (λ (rest here : Option Bool). option_or rest here) (each_later time other (number + 1) bits later) (one_later clock time (id number) other bit later)

  -- nor are the changed ones
  pub changed_later : (time : ℕ) (other : List ℕ) (number : ℕ) (before bits : List Bool) → time < clock → last_given (of_changed (given_in id clock first) number before bits) time other ≡ None
  changed_later time other number [] bits later = refl
  changed_later time other number (old ∷ before) [] later = refl
  changed_later time other number (old ∷ before) (bit ∷ bits) later = by (changed_later time other (number + 1) before bits later) (differs old bit) where
    by : last_given (of_changed (given_in id clock first) (number + 1) before bits) time other ≡ None
        → (is : Bool) → last_given (if is then given_in id clock first number bit ∷ of_changed (given_in id clock first) (number + 1) before bits else of_changed (given_in id clock first) (number + 1) before bits) time other ≡ None
    by rest true = ap₂ (λ (behind here : Option Bool). option_or behind here) rest (one_later clock time (id number) other bit later)
    by rest false = rest

  -- of no signal before the first of them
  pub other_id : (number lower : ℕ) → lower < number → number < 2 ^ 32 → id number ≡ id lower → ⊥
  other_id number lower below small same = let is : number ≡ lower = apart number lower small (omega arith) same in omega arith

  -- all values give nothing to a signal before the first of them
  each_none : (time lower number : ℕ) (bits : List Bool) → lower < number → number + length bits ≤ 2 ^ 32 → last_given (of_each (given_in id clock first) number bits) time (id lower) ≡ None
  each_none time lower number [] below few = refl
  each_none time lower number (bit ∷ bits) below few =
      ap₂ (λ (rest here : Option Bool). option_or rest here) (each_none time lower (number + 1) bits (omega arith) (omega arith))
      (one_other clock time (id number) (id lower) bit (other_id number lower below (omega arith)))

  -- nor do the changed ones
  changed_none : (time lower number : ℕ) (before bits : List Bool) → lower < number → number + length bits ≤ 2 ^ 32 → last_given (of_changed (given_in id clock first) number before bits) time (id lower) ≡ None
  changed_none time lower number [] bits below few = refl
  changed_none time lower number (old ∷ before) [] below few = refl
  changed_none time lower number (old ∷ before) (bit ∷ bits) below few = by (changed_none time lower (number + 1) before bits (omega arith) (omega arith)) (differs old bit) where
    by : last_given (of_changed (given_in id clock first) (number + 1) before bits) time (id lower) ≡ None
        → (is : Bool) → last_given (if is then given_in id clock first number bit ∷ of_changed (given_in id clock first) (number + 1) before bits else of_changed (given_in id clock first) (number + 1) before bits) time (id lower) ≡ None
    by rest true = ap₂ (λ (behind here : Option Bool). option_or behind here) rest (one_other clock time (id number) (id lower) bit (other_id number lower below (omega arith)))
    by rest false = rest

  -- ---- from that clock on

  -- all values give the value of each signal
  pub each_now : (time number k : ℕ) (bits : List Bool) → clock ≤ time → number + length bits ≤ 2 ^ 32 → number + k < 2 ^ 32
      → last_given (of_each (given_in id clock first) number bits) time (id (number + k)) ≡ slice_get bits k
  each_now time number k [] since few small = refl
  each_now time number zero (bit ∷ bits) since few small =
      let here : number + 0 ≡ number = omega arith in
      ap₂ (λ (rest now : Option Bool). option_or rest now) (each_none time (number + 0) (number + 1) bits (omega arith) (omega arith))
      (ap (λ (one : ℕ). one_last clock (id number) bit time (id one)) here ∙ one_now clock time (id number) bit since)
  each_now time number (suc k) (bit ∷ bits) since few small =
      let next : number + suc k ≡ number + 1 + k = omega arith in
      ap (λ (one : ℕ). last_given (of_each (given_in id clock first) number (bit ∷ bits)) time (id one)) next
      ∙ ap₂ (λ (rest now : Option Bool). option_or rest now) (each_now time (number + 1) k bits since (omega arith) (omega arith))
      (one_other clock time (id number) (id (number + 1 + k)) bit (λ (same : id number ≡ id (number + 1 + k)). other_id (number + 1 + k) number (omega arith) (omega arith) (sym same)))
      ∙ or_none (slice_get bits k)

  -- the changed ones, and else the values before, do so, too
  pub changed_now : (time number k : ℕ) (before bits : List Bool) → clock ≤ time → length before ≡ length bits → number + length bits ≤ 2 ^ 32 → number + k < 2 ^ 32
      → option_or (last_given (of_changed (given_in id clock first) number before bits) time (id (number + k))) (slice_get before k) ≡ slice_get bits k
  changed_now time number k [] [] since same few small = refl
  changed_now time number k [] (bit ∷ bits) since same few small = absurd (omega arith)
  changed_now time number k (old ∷ before) [] since same few small = absurd (omega arith)
  changed_now time number zero (old ∷ before) (bit ∷ bits) since same few small = by old bit where
    rest : last_given (of_changed (given_in id clock first) (number + 1) before bits) time (id (number + 0)) ≡ None
    rest = changed_none time (number + 0) (number + 1) before bits (omega arith) (omega arith)

    now : (new : Bool) → one_last clock (id number) new time (id (number + 0)) ≡ Some new
    now new = let here : number + 0 ≡ number = omega arith in ap (λ (one : ℕ). one_last clock (id number) new time (id one)) here ∙ one_now clock time (id number) new since

    by : (was is : Bool)
        → option_or (last_given (if differs was is then given_in id clock first number is ∷ of_changed (given_in id clock first) (number + 1) before bits else of_changed (given_in id clock first) (number + 1) before bits) time (id (number + 0))) (Some was) ≡ Some is
    by true true = ap (λ (behind : Option Bool). option_or behind (Some true)) rest
    by false false = ap (λ (behind : Option Bool). option_or behind (Some false)) rest
    by true false = ap₂ (λ (behind here : Option Bool). option_or (option_or behind here) (Some true)) rest (now false)
    by false true = ap₂ (λ (behind here : Option Bool). option_or (option_or behind here) (Some false)) rest (now true)
  changed_now time number (suc k) (old ∷ before) (bit ∷ bits) since same few small =
      let next : number + suc k ≡ number + 1 + k = omega arith in
      ap (λ (one : ℕ). option_or (last_given (of_changed (given_in id clock first) number (old ∷ before) (bit ∷ bits)) time (id one)) (slice_get before k)) next
      ∙ by (changed_now time (number + 1) k before bits since (omega arith) (omega arith) (omega arith)) (differs old bit) where
        by : option_or (last_given (of_changed (given_in id clock first) (number + 1) before bits) time (id (number + 1 + k))) (slice_get before k) ≡ slice_get bits k
            → (is : Bool)
            → option_or (last_given (if is then given_in id clock first number bit ∷ of_changed (given_in id clock first) (number + 1) before bits else of_changed (given_in id clock first) (number + 1) before bits) time (id (number + 1 + k))) (slice_get before k) ≡ slice_get bits k
        by rest true =
            let behind = last_given (of_changed (given_in id clock first) (number + 1) before bits) time (id (number + 1 + k)) in
            ap (λ (last : Option Bool). option_or last (slice_get before k))
            (ap (λ (here : Option Bool). option_or behind here) (one_other clock time (id number) (id (number + 1 + k)) bit (λ (same : id number ≡ id (number + 1 + k)). other_id (number + 1 + k) number (omega arith) (omega arith) (sym same)))
            ∙ or_none behind)
            ∙ rest
        by rest false = rest
