-- What is read of the spelling of a state is the state. So a text spells one state at most; and spellings are short.
use Rattle.std.proofs.Common.{◌≡◌, ◌<◌, ◌≤◌, ◌+◌, ◌^◌, ℕ, Bool, true, false, List, [], ◌∷◌, ◌++◌, length, map, Option, refl, sym, ◌∙◌, ap, ap₂, arith, append-nil, length-append, true≢false}
use Rattle.std.specs.Prelude.{unwrap_or}
use Rattle.std.specs.Fmt.{decimal}
use Rattle.std.specs.List.{flat_map}
use Rattle.std.proofs.lemmas.Fmt.{length-decimal-le}
use Rattle.std.proofs.lemmas.Grind.{flat_map-append}
use Rattle.std.proofs.lemmas.List.{length-map}
use Rattle.vw_text.specs.Number.{spelled_number}
use Rattle.vw_text.proofs.BitTexts.{shown}
use Rattle.vw_text.proofs.CutAtByte.{cut_before, cut_behind}
use Rattle.vw_text.proofs.DecimalDigits.{decimal_without}
use Rattle.vw_text.proofs.Decimals.{number_of-decimal}
use Rattle.vw_text.specs.Printed.{bits_text}
use Rattle.vw_resume.specs.declared.fault.StateFault.{StateFault}
use Rattle.vw_resume.specs.declared.fault.StateFault.TheVariants.{BadText, WrongLatches, TooManyClocks, TooFewClocks, NoMemory}
use Rattle.vw_resume.specs.declared.state.State.{State}
use Rattle.vw_resume.specs.States.{state_text, Spells, IsBadState}
use Rattle.vw_resume.specs.Steps.Loosely.{is_space, before_space, behind_space, bits_named, clock_in, latches_in}

-- ---- bits

shown_again : (bits : List Bool) → flat_map bits_named (map shown bits) ≡ bits
shown_again [] = refl
shown_again (true ∷ bits) = ap (λ (rest : List Bool). true ∷ rest) (shown_again bits)
shown_again (false ∷ bits) = ap (λ (rest : List Bool). false ∷ rest) (shown_again bits)

-- the end of the line and the character of no bits name none
bits_again : (bits : List Bool) → flat_map bits_named (bits_text bits ++ 10 ∷ []) ≡ bits
bits_again [] = refl
bits_again (bit ∷ bits) =
    flat_map-append bits_named (map shown (bit ∷ bits)) (10 ∷ [])
    ∙ ap (λ (front : List Bool). front ++ []) (shown_again (bit ∷ bits)) ∙ append-nil (bit ∷ bits)

-- ---- the words of a spelling

module _ (clock : ℕ) (latches : List Bool) where
  abbrev bits_word : List ℕ
  bits_word = bits_text latches ++ 10 ∷ []

  abbrev behind_clock : List ℕ
  behind_clock = decimal (length latches) ++ 32 ∷ bits_word

  -- what stands behind the second word
  numbers : behind_space (behind_space (state_text clock latches)) ≡ decimal clock ++ 32 ∷ behind_clock
  numbers = refl

  clock_again : clock < 2 ^ 64 → clock_in (state_text clock latches) ≡ clock
  clock_again small =
      ap (λ (text : List ℕ). unwrap_or (spelled_number (before_space text)) 0) numbers
      ∙ ap (λ (word : List ℕ). unwrap_or (spelled_number word) 0) (cut_before is_space (decimal clock) 32 behind_clock (decimal_without 32 (omega arith) clock) refl)
      ∙ ap (λ (found : Option ℕ). unwrap_or found 0) (number_of-decimal clock small)

  latches_again : latches_in (state_text clock latches) ≡ latches
  latches_again =
      ap (λ (text : List ℕ). flat_map bits_named (behind_space (behind_space text))) numbers
      ∙ ap (λ (text : List ℕ). flat_map bits_named (behind_space text)) (cut_behind is_space (decimal clock) 32 behind_clock (decimal_without 32 (omega arith) clock) refl)
      ∙ ap (λ (text : List ℕ). flat_map bits_named text) (cut_behind is_space (decimal (length latches)) 32 bits_word (decimal_without 32 (omega arith) (length latches)) refl)
      ∙ bits_again latches

-- ---- one state

state_same : (one other : State) → one.clock ≡ other.clock → one.latches ≡ other.latches → one ≡ other
state_same one other clocks latches = λ i. record { clock = clocks i; latches = latches i }

-- what is read of a text that spells a state is that state
pub read_is : (text : List ℕ) (state read : State) → Spells text state → read.clock ≡ clock_in text → read.latches ≡ latches_in text → read ≡ state
read_is text state read is clock latches =
    state_same read state
    (clock ∙ ap clock_in is.spelled ∙ clock_again state.clock state.latches (let few = is.few_clocks in omega (arith, few)))
    (latches ∙ ap latches_in is.spelled ∙ latches_again state.clock state.latches)

pub spelled_once : (text : List ℕ) (one other : State) → Spells text one → Spells text other → one ≡ other
spelled_once text one other is its =
    let read : State = record { clock = clock_in text; latches = latches_in text } in
    sym (read_is text one read is refl refl) ∙ read_is text other read its refl refl

-- ---- short texts

bits_short : (bits : List Bool) → length (bits_text bits) ≤ length bits + 1
bits_short [] = omega arith
bits_short (bit ∷ bits) = omega (arith, length-map (bit ∷ bits) shown)

pub spelled_is_short : (text : List ℕ) (state : State) → Spells text state → length text ≤ 70000
spelled_is_short text state is =
    let few_clocks = is.few_clocks in
    let few_latches = is.few_latches in
    let clock = decimal state.clock in
    let count = decimal (length state.latches) in
    let bits = bits_text state.latches in
    let clock_short : length clock ≤ 10 = length-decimal-le 10 state.clock (omega arith) (omega (arith, few_clocks)) (omega (arith, few_clocks)) in
    let count_short : length count ≤ 5 = length-decimal-le 5 (length state.latches) (omega arith) (omega (arith, few_latches)) (omega (arith, few_latches)) in
    let long : length text ≡ length (state_text state.clock state.latches) = ap (λ (bytes : List ℕ). length bytes) is.spelled in
    let parts : length (clock ++ 32 ∷ (count ++ 32 ∷ (bits ++ 10 ∷ []))) ≡ length clock + (1 + (length count + (1 + (length bits + 1)))) =
    omega (arith, length-append clock (32 ∷ (count ++ 32 ∷ (bits ++ 10 ∷ []))), length-append count (32 ∷ (bits ++ 10 ∷ [])), length-append bits (10 ∷ [])) in
    omega (arith, long, parts, clock_short, count_short, bits_short state.latches, few_latches)

-- ---- faults of one text

pub fault_once : (text : List ℕ) (wanted : ℕ) (one other : StateFault) → IsBadState wanted text one → IsBadState wanted text other → one ≡ other
fault_once text wanted BadText BadText bad again = refl
fault_once text wanted BadText (WrongLatches found others) bad again = absurd (bad.1 again.1.0.0 again.1.0.1)
fault_once text wanted BadText (TooManyClocks clocks) bad again = absurd again.1
fault_once text wanted BadText (TooFewClocks found others) bad again = absurd again.1
fault_once text wanted BadText NoMemory bad again = absurd (true≢false (sym again.0))
fault_once text wanted (WrongLatches found others) BadText bad again = absurd (again.1 bad.1.0.0 bad.1.0.1)
fault_once text wanted (WrongLatches found others) (WrongLatches next further) bad again =
    let same = spelled_once text bad.1.0.0 again.1.0.0 bad.1.0.1 again.1.0.1 in
    let count : found ≡ next = sym bad.1.0.2 ∙ ap (λ (state : State). length state.latches) same ∙ again.1.0.2 in
    let both : others ≡ further = bad.1.1 ∙ sym again.1.1 in
    ap₂ (λ (n m : ℕ). WrongLatches n m) count both
fault_once text wanted (WrongLatches found others) (TooManyClocks clocks) bad again = absurd again.1
fault_once text wanted (WrongLatches found others) (TooFewClocks next further) bad again = absurd again.1
fault_once text wanted (WrongLatches found others) NoMemory bad again = absurd (true≢false (sym again.0))
fault_once text wanted (TooManyClocks clocks) other bad again = absurd bad.1
fault_once text wanted (TooFewClocks found others) other bad again = absurd bad.1
fault_once text wanted NoMemory other bad again = absurd (true≢false (sym bad.0))

pub spelled_unrefused : (text : List ℕ) (wanted : ℕ) (state : State) (fault : StateFault) → Spells text state → length state.latches ≡ wanted → IsBadState wanted text fault → ⊥
spelled_unrefused text wanted state BadText is count bad = bad.1 state is
spelled_unrefused text wanted state (WrongLatches found others) is count bad =
    bad.1.2 (sym bad.1.0.2 ∙ ap (λ (one : State). length one.latches) (spelled_once text bad.1.0.0 state bad.1.0.1 is) ∙ count)
spelled_unrefused text wanted state (TooManyClocks clocks) is count bad = bad.1
spelled_unrefused text wanted state (TooFewClocks found others) is count bad = bad.1
spelled_unrefused text wanted state NoMemory is count bad = true≢false (sym bad.0)
