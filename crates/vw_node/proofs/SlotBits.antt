-- The bits of nets in slots.
use Rattle.std.proofs.Common.{◌≡◌, ◌<◌, ◌∷◌, ℕ, zero, suc, Bool, true, false, List, [], length, map, get_or, set, eqb, slice_get, Option, Some, None, option_map, if◌then◌else◌, ap, ap₂, refl, sym, subst, ◌∙◌, ⊎_elim, eqb-true, eq-eqb, All, arith}
use Rattle.std.specs.List.{AllByRecursion}
use Rattle.std.proofs.lemmas.Bool.{cases_eq, ne_eqb}
use Rattle.std.proofs.lemmas.List.{ext_get_or, get_or-set_other, get_or-set_same, length-set}
use Rattle.std.proofs.lemmas.List.Elements.{All-from_recursion}
use Rattle.std.proofs.lemmas.Option.{slice_get_within}
use Rattle.vw_prog.specs.Codes.{net_slot}
use Rattle.vw_node.specs.Fits.{bit_by, bit_at_slot, slot_bit}
use Rattle.vw_node.specs.Lists.{tabulate}
use Rattle.vw_net.specs.Steps.WrittenBits.{with_bits}
use Rattle.vw_node.proofs.Values.{get_or-tabulate, length-tabulate}

-- ---- slots

-- the net of a slot
pub slot_is : (nets : List ℕ) (net slot : ℕ) → net_slot nets net ≡ Some slot → slice_get nets slot ≡ Some net
slot_is [] net slot is = cc
slot_is (first ∷ nets) net slot is = by (eqb first net) slot refl is (λ place there. slot_is nets net place there) where
  inside : (found : Option ℕ) (slot : ℕ) → net_slot nets net ≡ found → option_map suc found ≡ Some slot
      → ((place : ℕ) → net_slot nets net ≡ Some place → slice_get nets place ≡ Some net) → slice_get (first ∷ nets) slot ≡ Some net
  inside None slot there at rest = cc
  inside (Some place) zero there at rest = cc
  inside (Some place) (suc slot) there at rest = let same : place ≡ slot = cc in rest slot (there ∙ ap Some same)

  by : (same : Bool) (slot : ℕ) → eqb first net ≡ same → (if same then Some 0 else option_map suc (net_slot nets net)) ≡ Some slot
      → ((place : ℕ) → net_slot nets net ≡ Some place → slice_get nets place ≡ Some net) → slice_get (first ∷ nets) slot ≡ Some net
  by true zero test at rest = ap Some (eqb-true first net test)
  by true (suc slot) test at rest = cc
  by false slot test at rest = inside (net_slot nets net) slot refl at rest

pub slot_within : (nets : List ℕ) (net slot : ℕ) → net_slot nets net ≡ Some slot → slot < length nets
slot_within nets net slot is = slice_get_within nets slot net (slot_is nets net slot is)

-- two nets don't share a slot
pub slot_apart : (nets : List ℕ) (net other slot : ℕ) → net_slot nets net ≡ Some slot → net_slot nets other ≡ Some slot → net ≡ other
slot_apart nets net other slot one two = let first = slot_is nets net slot one in let second = slot_is nets other slot two in cc

-- the slots of some nets
pub slots_long : (nets some slots : List ℕ) → map (net_slot nets) some ≡ map Some slots → length some ≡ length slots
slots_long nets [] [] are = refl
slots_long nets [] (slot ∷ slots) are = cc
slots_long nets (net ∷ some) [] are = cc
slots_long nets (net ∷ some) (slot ∷ slots) are = let rest : map (net_slot nets) some ≡ map Some slots = cc in ap suc (slots_long nets some slots rest)

pub slots_within : (nets some slots : List ℕ) → map (net_slot nets) some ≡ map Some slots → All (λ slot. slot < length nets) slots
slots_within nets some slots are = All-from_recursion (λ (slot : ℕ). slot < length nets) slots (by some slots are) where
  by : (some slots : List ℕ) → map (net_slot nets) some ≡ map Some slots → AllByRecursion (λ slot. slot < length nets) slots
  by [] [] are = tt
  by [] (slot ∷ slots) are = cc
  by (net ∷ some) [] are = cc
  by (net ∷ some) (slot ∷ slots) are = let first : net_slot nets net ≡ Some slot = cc in let rest : map (net_slot nets) some ≡ map Some slots = cc in (slot_within nets net slot first, by some slots rest)

-- the bits in them are those of the nets
pub bits_are : (nets : List ℕ) (bits : List Bool) (some slots : List ℕ) → map (net_slot nets) some ≡ map Some slots
    → map (bit_at_slot bits) slots ≡ map (bit_by nets bits) some
bits_are nets bits [] [] are = refl
bits_are nets bits [] (slot ∷ slots) are = cc
bits_are nets bits (net ∷ some) [] are = cc
bits_are nets bits (net ∷ some) (slot ∷ slots) are =
    let first : net_slot nets net ≡ Some slot = cc in
    let rest : map (net_slot nets) some ≡ map Some slots = cc in
    ap₂ (λ (bit : Bool) (more : List Bool). bit ∷ more) (sym (ap (slot_bit bits) first)) (bits_are nets bits some slots rest)

-- ---- a bit that is written

pub bit_written : (nets : List ℕ) (bits : List Bool) (net slot : ℕ) (bit : Bool) → net_slot nets net ≡ Some slot → slot < length bits
    → (other : ℕ) → bit_by nets (set bits slot bit) other ≡ (if eqb other net then bit else bit_by nets bits other)
bit_written nets bits net slot bit is inside other =
    let if_same = λ (same : other ≡ net).
    ap (λ (one : ℕ). bit_by nets (set bits slot bit) one) same ∙ ap (slot_bit (set bits slot bit)) is ∙ get_or-set_same bits slot bit false inside
    ∙ sym (ap (λ (test : Bool). if test then bit else bit_by nets bits other) (eq-eqb other net same)) in
    let if_other = λ (apart : other ≡ net → ⊥).
    by (net_slot nets other) refl apart ∙ sym (ap (λ (test : Bool). if test then bit else bit_by nets bits other) (ne_eqb other net apart)) in
    ⊎_elim if_same if_other (cases_eq other net) where
      by : (found : Option ℕ) → net_slot nets other ≡ found → (other ≡ net → ⊥) → slot_bit (set bits slot bit) found ≡ slot_bit bits found
      by None there apart = refl
      by (Some place) there apart = get_or-set_other bits slot place bit false (λ same. apart (slot_apart nets other net slot (there ∙ ap Some same) is))

-- in the list of the bits of all nets
pub known_written : (nets : List ℕ) (bits : List Bool) (net slot : ℕ) (bit : Bool) (many : ℕ) → net_slot nets net ≡ Some slot → slot < length bits → net < many
    → tabulate (bit_by nets (set bits slot bit)) many ≡ set (tabulate (bit_by nets bits) many) net bit
known_written nets bits net slot bit many is inside within =
    let before = tabulate (bit_by nets bits) many in
    let after = tabulate (bit_by nets (set bits slot bit)) many in
    ext_get_or false after (set before net bit) (length-tabulate (bit_by nets (set bits slot bit)) many ∙ sym (length-set before net bit ∙ length-tabulate (bit_by nets bits) many)) each where
      each : (other : ℕ) → other < length (tabulate (bit_by nets (set bits slot bit)) many)
          → get_or (tabulate (bit_by nets (set bits slot bit)) many) other false ≡ get_or (set (tabulate (bit_by nets bits) many) net bit) other false
      each other below =
          let before = tabulate (bit_by nets bits) many in
          let under : other < many = omega (arith, below, length-tabulate (bit_by nets (set bits slot bit)) many) in
          let here = get_or-tabulate (bit_by nets (set bits slot bit)) many other false under ∙ bit_written nets bits net slot bit is inside other in
          let if_same = λ (same : other ≡ net).
          here ∙ ap (λ (test : Bool). if test then bit else bit_by nets bits other) (eq-eqb other net same)
          ∙ sym (ap (λ (one : ℕ). get_or (set before net bit) one false) same ∙ get_or-set_same before net bit false (omega (arith, within, length-tabulate (bit_by nets bits) many))) in
          let if_other = λ (apart : other ≡ net → ⊥).
          here ∙ ap (λ (test : Bool). if test then bit else bit_by nets bits other) (ne_eqb other net apart)
          ∙ sym (get_or-set_other before net other bit false apart ∙ get_or-tabulate (bit_by nets bits) many other false under) in
          ⊎_elim if_same if_other (cases_eq other net)

-- ---- many bits that are written

abbrev pub is_one : List ℕ → ℕ → Bool
is_one [] net = false
is_one (first ∷ some) net = if eqb net first then true else is_one some net

-- bits that are a function of their nets
pub many_written : (nets : List ℕ) (value : ℕ → Bool) (some slots : List ℕ) (bits : List Bool) → map (net_slot nets) some ≡ map Some slots
    → length bits ≡ length nets → (net : ℕ)
    → bit_by nets (with_bits slots (map value some) bits) net ≡ (if is_one some net then value net else bit_by nets bits net)
many_written nets value [] [] bits are long net = refl
many_written nets value [] (slot ∷ slots) bits are long net = cc
many_written nets value (first ∷ some) [] bits are long net = cc
many_written nets value (first ∷ some) (slot ∷ slots) bits are long net =
    let here : net_slot nets first ≡ Some slot = cc in
    let rest : map (net_slot nets) some ≡ map Some slots = cc in
    let inside : slot < length bits = omega (arith, long, slot_within nets first slot here) in
    many_written nets value some slots (set bits slot (value first)) rest (length-set bits slot (value first) ∙ long) net
    ∙ by (is_one some net) (eqb net first) refl (bit_written nets bits first slot (value first) here inside net) where
      by : (among same : Bool) → eqb net first ≡ same → bit_by nets (set bits slot (value first)) net ≡ (if same then value first else bit_by nets bits net)
          → (if among then value net else bit_by nets (set bits slot (value first)) net) ≡ (if (if same then true else among) then value net else bit_by nets bits net)
      by true true test is = refl
      by true false test is = refl
      by false true test is = is ∙ ap value (sym (eqb-true net first test))
      by false false test is = is

-- whether a net is one of some
pub one_at : (some : List ℕ) (net place : ℕ) → slice_get some place ≡ Some net → is_one some net ≡ true
one_at [] net place is = cc
one_at (first ∷ some) net zero is = let same : first ≡ net = cc in ap (λ (test : Bool). if test then true else is_one some net) (eq-eqb net first (sym same))
one_at (first ∷ some) net (suc place) is = by (eqb net first) (one_at some net place is) where
  by : (same : Bool) → is_one some net ≡ true → (if same then true else is_one some net) ≡ true
  by true there = refl
  by false there = there

pub none_at : (P : ℕ → Type 0) (some : List ℕ) (net : ℕ) → AllByRecursion P some → (P net → ⊥) → is_one some net ≡ false
none_at P [] net all never = refl
none_at P (first ∷ some) net all never =
    let apart : net ≡ first → ⊥ = λ same. never (subst P (sym same) all.0) in
    ap (λ (test : Bool). if test then true else is_one some net) (ne_eqb net first apart) ∙ none_at P some net all.1 never
