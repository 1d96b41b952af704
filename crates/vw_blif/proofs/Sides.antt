-- The two sides of a binding.
use Rattle.std.proofs.Common.{◌≡◌, ◌<◌, ◌≤◌, ◌+◌, ◌-◌, ℕ, Bool, true, false, ◌||◌, length, take, drop, eqb, sym, ◌∙◌, ap, ap₂, arith, length-drop, eq-eqb, ne_eqb}
use Rattle.std.specs.List.{position_or_len}
use Rattle.std.proofs.lemmas.List.{length-take-le}
use Rattle.std.proofs.Math.Bool.{or-true}
use Rattle.vw_design.specs.Paths.{Word}
use Rattle.vw_blif.specs.Bindings.{formal_of, actual_part, is_no_bind}

module _ (word : Word) (cut : ℕ) (at : position_or_len (λ b. eqb b 61) word ≡ cut) where
  pub formal_is : take cut word ≡ formal_of word
  formal_is = ap (λ n. take n word) (sym at)

  pub actual_is : drop (cut + 1) word ≡ actual_part word
  actual_is = ap (λ n. drop (n + 1) word) (sym at)

  formal_length : cut ≤ length word → length (formal_of word) ≡ cut
  formal_length within = ap (λ (side : Word). length side) (sym formal_is) ∙ length-take-le cut word within

  actual_length : length (actual_part word) ≡ length word - (cut + 1)
  actual_length = ap (λ (side : Word). length side) (sym actual_is) ∙ length-drop (cut + 1) word

  -- nothing stands before the `=`, or behind it
  pub none_before : cut ≤ length word → cut ≡ 0 → is_no_bind word ≡ true
  none_before within none = ap (λ b. b || eqb (length (actual_part word)) 0) (eq-eqb (length (formal_of word)) 0 (formal_length within ∙ none))

  pub none_behind : length word ≤ cut + 1 → is_no_bind word ≡ true
  none_behind past = ap (λ b. eqb (length (formal_of word)) 0 || b) (eq-eqb (length (actual_part word)) 0 (actual_length ∙ (let e : length word - (cut + 1) ≡ 0 = omega arith in e))) ∙ or-true (eqb (length (formal_of word)) 0)

  pub both_there : 0 < cut → cut + 1 < length word → is_no_bind word ≡ false
  both_there some more = ap₂ (λ (a b : Bool). a || b)
      (ne_eqb (length (formal_of word)) 0 (λ none. let e = formal_length (omega arith) in omega arith))
      (ne_eqb (length (actual_part word)) 0 (λ none. let e = actual_length in omega arith))
