-- Bits that are written over a row.
use Rattle.std.proofs.Common.{◌≡◌, ◌<◌, ◌≤◌, ◌+◌, ◌-◌, ◌++◌, ◌∙◌, ℕ, List, [], length, take, drop, get_or, set, ap, ap₂, append-nil, arith}
use Rattle.std.proofs.Math.Seq.{take-append_seam, drop-append_seam}
use Rattle.std.proofs.lemmas.List.{drop_all, length-drop, length-take-le, set-append_right}
use Rattle.vw_net.proofs.WrittenBits.{set_more}

-- one bit more, behind those that stay in front
pub put_further : {X : Type 0} (bits row : List X) (at place : ℕ) (default : X) → at + length bits ≤ length row → place < length bits
    → set (take at row ++ (take place bits ++ drop place (drop at row))) (at + place) (get_or bits place default) ≡ take at row ++ (take (place + 1) bits ++ drop (place + 1) (drop at row))
put_further {X} bits row at place default fits within =
    let front = take at row in
    let rest = drop at row in
    let bit = get_or bits place default in
    let long : length front ≡ at = length-take-le at row (omega (arith, fits)) in
    let inside : place < length rest = omega (arith, fits, within, length-drop at row) in
    let there : at + place - at ≡ place = omega arith in
    set-append_right front (take place bits ++ drop place rest) at (at + place) bit long (omega arith)
    ∙ ap (λ (n : ℕ). front ++ set (take place bits ++ drop place rest) n bit) there
    ∙ ap (λ (xs : List X). front ++ xs) (set_more bits rest place default within inside)

-- a row over which two lists were written, which are as long as it is
pub both_put : {X : Type 0} (first second row middle : List X) → length row ≡ length first + length second → middle ≡ first ++ drop (length first) row
    → take (length first) middle ++ (second ++ drop (length second) (drop (length first) middle)) ≡ first ++ second
both_put {X} first second row middle wide is =
    let rest = drop (length first) row in
    let none : drop (length second) rest ≡ [] = drop_all (length second) rest (omega (arith, wide, length-drop (length first) row)) in
    ap (λ (xs : List X). take (length first) xs ++ (second ++ drop (length second) (drop (length first) xs))) is
    ∙ ap₂ (λ (front behind : List X). front ++ (second ++ drop (length second) behind)) (take-append_seam first rest) (drop-append_seam first rest)
    ∙ ap (λ (end : List X). first ++ (second ++ end)) none
    ∙ ap (λ (xs : List X). first ++ xs) (append-nil second)
