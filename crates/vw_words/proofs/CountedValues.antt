-- As many values as words that give one.
use Rattle.std.proofs.Common.{◌≡◌, ◌+◌, ℕ, List, [], ◌∷◌, length, cond, Option, Some, None, refl, sym, ◌∙◌, arith}
use Rattle.std.specs.Prelude.{count_by, is_some}
use Rattle.std.specs.List.{cons_option}
use Rattle.std.proofs.lemmas.List.Sums.{sum_by-cons}
use Rattle.vw_words.specs.Forms.{Setting, given, gives}
use Rattle.vw_words.specs.Values.{names_given}

pub values_counted : (setting : Setting) (words : List (List ℕ)) → length (names_given setting words) ≡ count_by (gives setting) words
values_counted setting [] = refl
values_counted setting (word ∷ words) =
    by (given setting word) (values_counted setting words) ∙ sym (sum_by-cons (λ w. cond (gives setting w) 1 0) word words) where
      by : (found : Option (List ℕ)) → length (names_given setting words) ≡ count_by (gives setting) words
          → length (cons_option found (names_given setting words)) ≡ cond (is_some found) 1 0 + count_by (gives setting) words
      by None later = omega arith
      by (Some value) later = omega arith
