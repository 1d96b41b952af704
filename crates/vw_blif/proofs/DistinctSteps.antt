-- Names that stay distinct.
use Rattle.std.proofs.Common.{◌≡◌, ◌<◌, ◌+◌, ℕ, Bool, true, false, not, List, [], ◌∷◌, ◌++◌, length, take, get_or, refl, sym, ◌∙◌, ap, ap₂, append_assoc, append-nil, true≢false}
use Rattle.std.proofs.lemmas.Bool.{or_parts}
use Rattle.vw_design.specs.Distinct.{has_name, are_distinct}
use Rattle.vw_design.specs.Paths.{Word}
use Rattle.vw_blif.specs.Bindings.{repeats}
use Rattle.vw_blif.proofs.Repeats.{more_words}
use Rattle.vw_design.proofs.DistinctNames.{distinct_push}

pub are_distinct-append : (names words : List Word) → are_distinct names ≡ true → repeats names words ≡ false → are_distinct (names ++ words) ≡ true
are_distinct-append names [] all new = ap are_distinct (append-nil names) ∙ all
are_distinct-append names (word ∷ words) all new =
    let parts = or_parts (has_name names word) (repeats (names ++ word ∷ []) words) new in
    sym (ap are_distinct (append_assoc names (word ∷ []) words)) ∙ are_distinct-append (names ++ word ∷ []) words (distinct_push names word all parts.0) parts.1

pub none_again : (all_new again : Bool) → all_new ≡ not again → all_new ≡ true → again ≡ false
none_again all_new true answer all = absurd (true≢false (sym all ∙ answer))
none_again all_new false answer all = refl

-- one word more was copied behind the names
pub names_more : (old names new words : List Word) (i : ℕ) (word copied : Word) → i < length words → word ≡ get_or words i word → names ≡ old ++ take i words → copied ≡ word
    → new ≡ names ++ copied ∷ [] → new ≡ old ++ take (i + 1) words
names_more old names new words i word copied within is kept same more =
    more ∙ ap₂ (λ (ns : List Word) (w : Word). ns ++ w ∷ []) kept same ∙ append_assoc old (take i words) (word ∷ [])
    ∙ ap (λ (ws : List Word). old ++ ws) (sym (more_words words i word within is))
