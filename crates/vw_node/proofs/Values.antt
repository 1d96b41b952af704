-- Lists by their elements.
use Rattle.std.proofs.Common.{◌≡◌, ◌<◌, ◌≤◌, ◌+◌, ◌∷◌, ◌++◌, ℕ, zero, suc, [], length, get_or, ap, refl, ◌∙◌, ⊎_elim, arith}
use Rattle.std.proofs.lemmas.Bool.{cases_lt}
use Rattle.std.proofs.lemmas.List.{get_or_append_left, get_or_push, length_push}
use Rattle.vw_node.specs.Lists.{tabulate}

pub length-tabulate : {A : Type 0} (each : ℕ → A) (count : ℕ) → length (tabulate each count) ≡ count
length-tabulate each zero = refl
length-tabulate each (suc count) = omega (arith, length_push (tabulate each count) (each count), length-tabulate each count)

pub get_or-tabulate : {A : Type 0} (each : ℕ → A) (count place : ℕ) (default : A) → place < count → get_or (tabulate each count) place default ≡ each place
get_or-tabulate each zero place default within = absurd (omega (arith, within))
get_or-tabulate each (suc count) place default within =
    let long = length-tabulate each count in
    let if_before = λ (before : place < count). get_or_append_left (tabulate each count) (each count ∷ []) default place (omega (arith, long, before)) ∙ get_or-tabulate each count place default before in
    let if_last = λ (past : count ≤ place). let same : count ≡ place = omega (arith, past, within) in get_or_push (tabulate each count) (each count) default place (omega (arith, long, same)) ∙ ap each same in
    ⊎_elim if_before if_last (cases_lt place count)

pub tabulate_more : {A : Type 0} (each : ℕ → A) (count : ℕ) → tabulate each (count + 1) ≡ tabulate each count ++ each count ∷ []
tabulate_more each count = let later : count + 1 ≡ suc count = omega arith in ap (tabulate each) later
