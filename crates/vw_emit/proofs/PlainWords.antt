-- The names in an emitted board are plain words, and have no `=`.
use Rattle.std.proofs.Common.{◌≡◌, ◌∙◌, ◌≤◌, ◌||◌, ◌==◌, not, ℕ, Bool, true, false, List, [], ◌∷◌, map, suc, length, inl, inr, ap, refl, sym, subst, ne_eqb, arith}
use Rattle.std.specs.Fmt.{decimal}
use Rattle.std.specs.List.{AllByRecursion, list_all, list_any}
use Rattle.std.proofs.lemmas.Bool.{and_from}
use Rattle.vw_net.proofs.ListParts.{all_append}
use Rattle.vw_text.specs.PlainLines.{is_plain, is_special}
use Rattle.vw_text.specs.WordLines.{is_empty}
use Rattle.vw_design.proofs.ListElements.{Has}
use Rattle.vw_design.proofs.NumberedNames.{decimal_digits, joined_numbers, numbered_name}
use Rattle.vw_plan.specs.PlannedBoard.{PlannedBoard}
use Rattle.vw_emit_hardware.specs.Locals.{Local, caught, column, coming, delayed, gate, held, kept, moment, pin_in, pin_out, result, sent}
use Rattle.vw_emit_names.specs.Spelled.{net_of_port, node_name, shown_net, spelled}
use Rattle.vw_emit_names.proofs.Codes.{letter, first_number, other_numbers, spelled_is}

-- ---- bytes

-- a byte that isn't below `0`, and is neither `=` nor `\`
pub record IsFine (byte : ℕ) : Type 0 where
  pub above : 48 ≤ byte
  pub no_equal : ¬ (byte ≡ 61)
  pub no_slash : ¬ (byte ≡ 92)

-- it is none of the special ones
not_special : (byte : ℕ) → IsFine byte → is_special byte ≡ false
not_special byte fine =
    let above = fine.above in
    let apart = λ (other : ℕ) (differs : ¬ (byte ≡ other)). ne_eqb byte other differs in
    rw (
      apart 9 (λ same. omega (arith, above, same)),
      apart 11 (λ same. omega (arith, above, same)),
      apart 12 (λ same. omega (arith, above, same)),
      apart 13 (λ same. omega (arith, above, same)),
      apart 32 (λ same. omega (arith, above, same)),
      apart 10 (λ same. omega (arith, above, same)),
      apart 35 (λ same. omega (arith, above, same)),
      apart 92 fine.no_slash,
    ) refl

none_passes : (test : ℕ → Bool) → ((byte : ℕ) → IsFine byte → test byte ≡ false) → (word : List ℕ) → AllByRecursion IsFine word → list_any test word ≡ false
none_passes test none [] all = refl
none_passes test none (byte ∷ word) all = ap (λ (first : Bool). first || list_any test word) (none byte all.0) ∙ none_passes test none word all.1

-- ---- words

pub not_empty : {A : Type 0} (x : A) (xs : List A) → not (is_empty (x ∷ xs)) ≡ true
not_empty x xs = ap not (ne_eqb (suc (length xs)) 0 (λ same. omega (arith, same)))

-- a word of fine bytes
pub record IsFineWord (word : List ℕ) : Type 0 where
  pub plain : is_plain word ≡ true
  pub no_equal : not (list_any (λ b. b == 61) word) ≡ true

pub fine_word : (byte : ℕ) (word : List ℕ) → AllByRecursion IsFine (byte ∷ word) → IsFineWord (byte ∷ word)
fine_word byte word all = record {
  plain = and_from (not (is_empty (byte ∷ word))) (not (list_any is_special (byte ∷ word))) (not_empty byte word) (ap not (none_passes is_special not_special (byte ∷ word) all));
  no_equal = ap not (none_passes (λ b. b == 61) (λ b fine. ne_eqb b 61 fine.no_equal) (byte ∷ word) all);
}

-- numbers
from_all : (P : ℕ → Type 0) (word : List ℕ) → ((byte : ℕ) → Has byte word → P byte) → AllByRecursion P word
from_all P [] each = tt
from_all P (byte ∷ word) each = (each byte (inl refl), from_all P word (λ other has. each other (inr has)))

pub fine_number : (number : ℕ) → AllByRecursion IsFine (decimal number)
fine_number number = from_all IsFine (decimal number) (λ byte has.
    let is = decimal_digits number byte has in
    record { above = is.0; no_equal = λ same. omega (arith, is.1, same); no_slash = λ same. omega (arith, is.1, same) })

fine_bar : IsFine 95
fine_bar = record { above = omega arith; no_equal = λ same. omega (arith, same); no_slash = λ same. omega (arith, same) }

fine_numbers : (number : ℕ) (numbers : List ℕ) → AllByRecursion IsFine (joined_numbers number numbers)
fine_numbers number [] = fine_number number
fine_numbers number (next ∷ numbers) = all_append IsFine (decimal number) (95 ∷ joined_numbers next numbers) (fine_number number) (fine_bar, fine_numbers next numbers)

-- a letter
fine_letter : (byte : ℕ) → 97 ≤ byte → IsFine byte
fine_letter byte above = record { above = omega (arith, above); no_equal = λ same. omega (arith, above, same); no_slash = λ same. omega (arith, above, same) }

fine_numbered : (sign : ℕ) → 97 ≤ sign → (number : ℕ) (numbers : List ℕ) → IsFineWord (numbered_name sign number numbers)
fine_numbered sign above number numbers = fine_word sign (joined_numbers number numbers) (fine_letter sign above, fine_numbers number numbers)

letters : (net : Local) → 97 ≤ letter net
letters (column number) = omega arith
letters (moment microcycle) = omega arith
letters (gate cell) = omega arith
letters (kept cell) = omega arith
letters (coming cell) = omega arith
letters (held wire hop) = omega arith
letters (caught wire hop) = omega arith
letters (sent link pin number) = omega arith
letters (delayed link pin number) = omega arith
letters (pin_in link pin) = omega arith
letters (pin_out link pin) = omega arith
letters (result output) = omega arith

-- ---- names

pub fine_local : (net : Local) → IsFineWord (spelled net)
fine_local net = subst IsFineWord (sym (spelled_is net)) (fine_numbered (letter net) (letters net) (first_number net) (other_numbers net))

pub fine_shown : (latch : ℕ) → IsFineWord (shown_net latch)
fine_shown latch = fine_numbered 115 (omega arith) latch []

pub fine_node : (node : ℕ) → IsFineWord (node_name node)
fine_node node =
    fine_word 110 (111 ∷ 100 ∷ 101 ∷ decimal node)
    (fine_letter 110 (omega arith), (fine_letter 111 (omega arith), (fine_letter 100 (omega arith), (fine_letter 101 (omega arith), fine_number node))))

-- what a port is joined to
pub fine_net : (planned : PlannedBoard) (net : Local) → IsFineWord (net_of_port planned net)
fine_net planned (column number) = fine_local (column number)
fine_net planned (moment microcycle) = fine_local (moment microcycle)
fine_net planned (gate cell) = fine_local (gate cell)
fine_net planned (kept cell) = fine_numbered 115 (omega arith) _ []
fine_net planned (coming cell) = fine_local (coming cell)
fine_net planned (held wire hop) = fine_local (held wire hop)
fine_net planned (caught wire hop) = fine_local (caught wire hop)
fine_net planned (sent link pin number) = fine_local (sent link pin number)
fine_net planned (delayed link pin number) = fine_local (delayed link pin number)
fine_net planned (pin_in link pin) = fine_numbered 112 (omega arith) link (pin ∷ [])
fine_net planned (pin_out link pin) = fine_numbered 112 (omega arith) link (pin ∷ [])
fine_net planned (result output) = fine_local (result output)

-- names of things, all of them plain
pub plain_names : {A : Type 0} (name : A → List ℕ) → ((thing : A) → IsFineWord (name thing)) → (things : List A) → list_all is_plain (map name things) ≡ true
plain_names name fine [] = refl
plain_names name fine (thing ∷ things) = and_from (is_plain (name thing)) (list_all is_plain (map name things)) (fine thing).plain (plain_names name fine things)
