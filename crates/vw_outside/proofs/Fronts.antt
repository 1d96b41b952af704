-- The front of a text that was read so far.
use Rattle.std.proofs.Common.{◌≡◌, ◌≤◌, ◌<◌, ℕ, ◌+◌, List, ◌++◌, length, take, drop, sym, ◌∙◌, ap, arith, length-take, length-drop, length-append}
use Rattle.std.proofs.lemmas.List.{take-append-le, take_all}
use Rattle.std.proofs.Math.Seq.{take-add}
use Rattle.vw_outside.specs.Fronts.{IsFront}
use Rattle.vw_outside.specs.Reads.{Fills}

-- a read more
pub front_further : (so_far buffer rest bytes : List ℕ) (count : ℕ) → IsFront so_far bytes → Fills bytes (length so_far) buffer count → count ≤ length buffer → IsFront (so_far ++ take count (buffer ++ rest)) bytes
front_further so_far buffer rest bytes count front fills within =
    let piece : take count (buffer ++ rest) ≡ take count (drop (length so_far) bytes) = take-append-le count buffer rest within ∙ fills.front in
    let size : length (take count (drop (length so_far) bytes)) ≡ count = omega (arith, length-take count (drop (length so_far) bytes), length-drop (length so_far) bytes, fills.within) in
    let all : so_far ++ take count (buffer ++ rest) ≡ take (length so_far + count) bytes = ap (λ p. so_far ++ p) piece ∙ ap (λ s. s ++ take count (drop (length so_far) bytes)) front.0 ∙ sym (take-add (length so_far) count bytes) in
    let long : length (so_far ++ take count (buffer ++ rest)) ≡ length so_far + count = length-append so_far (take count (buffer ++ rest)) ∙ ap (λ p. length so_far + length p) piece ∙ ap (λ n. length so_far + n) size in
    (all ∙ ap (λ n. take n bytes) (sym long), omega (arith, long, fills.within, front.1))

-- a read that gives nothing where there is room has come to the end
pub whole_front : (so_far buffer bytes : List ℕ) (count : ℕ) → IsFront so_far bytes → Fills bytes (length so_far) buffer count → 0 < length buffer → count ≡ 0 → so_far ≡ bytes
whole_front so_far buffer bytes count front fills room none =
    let past : length bytes ≤ length so_far = by_contradiction (length so_far) (length bytes) (λ more. omega (arith, fills.progress room more)) in
    front.0 ∙ take_all (length so_far) bytes past
  where
    by_contradiction : (m n : ℕ) → (m < n → ⊥) → n ≤ m
    by_contradiction m n not_less = omega (arith, not_less)
