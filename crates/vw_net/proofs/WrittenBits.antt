-- Lists that others are written over.
use Rattle.std.proofs.Common.{◌≡◌, ◌<◌, ◌+◌, ◌++◌, ℕ, Bool, List, [], ◌∷◌, length, take, drop, get_or, set, ap, refl, sym, ◌∙◌, append_assoc, arith}
use Rattle.std.proofs.lemmas.List.{drop_more, length-set, length-take-le, set_at, take_more}
use Rattle.vw_net.specs.Steps.WrittenBits.{with_bits}

-- one more element written into a list whose first elements were written
pub set_more : {X : Type 0} (written before : List X) (place : ℕ) (default : X) → place < length written → place < length before → set (take place written ++ drop place before) place (get_or written place default) ≡ take (place + 1) written ++ drop (place + 1) before
set_more {X} written before place default within inside =
    let here = get_or written place default in
    let first = take place written in
    let rest = drop (place + 1) before in
    let opened = ap (λ (xs : List X). set (first ++ xs) place here) (drop_more before place default inside) in
    let replaced = set_at first (get_or before place default) rest here place (length-take-le place written (omega (arith, within))) in
    opened ∙ replaced ∙ sym (append_assoc first (here ∷ []) rest) ∙ ap (λ (xs : List X). xs ++ rest) (sym (take_more written place default within))

-- there are as many bits as before
pub length-with_bits : (places : List ℕ) (others bits : List Bool) → length (with_bits places others bits) ≡ length bits
length-with_bits [] others bits = refl
length-with_bits (place ∷ places) [] bits = refl
length-with_bits (place ∷ places) (other ∷ others) bits = length-with_bits places others (set bits place other) ∙ length-set bits place other
