-- The last of some words, and those before it.
use Rattle.std.proofs.Common.{◌≡◌, ◌<◌, ◌-◌, suc, List, [], ◌∷◌, length, take, get_or, refl, sym, ◌∙◌, ap, arith}
use Rattle.vw_blif.specs.Words.{front_words, last_word}
use Rattle.vw_design.specs.Paths.{Word}

pub front_words-take : (words : List Word) → front_words words ≡ take (length words - 1) words
front_words-take [] = refl
front_words-take (word ∷ []) = refl
front_words-take (word ∷ next ∷ words) =
    let less : suc (suc (length words)) - 1 ≡ suc (length (next ∷ words) - 1) = omega arith in
    ap (λ (front : List Word). word ∷ front) (front_words-take (next ∷ words))
    ∙ sym (ap (λ n. take n (word ∷ next ∷ words)) less)

pub last_word-get : (words : List Word) (d : Word) → 0 < length words → last_word words ≡ get_or words (length words - 1) d
last_word-get [] d some = absurd (omega arith)
last_word-get (word ∷ []) d some = refl
last_word-get (word ∷ next ∷ words) d some =
    let less : suc (suc (length words)) - 1 ≡ suc (length (next ∷ words) - 1) = omega arith in
    last_word-get (next ∷ words) d (omega arith) ∙ sym (ap (λ n. get_or (word ∷ next ∷ words) n d) less)
