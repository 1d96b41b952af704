-- A byte past the limit.
use Rattle.std.proofs.Common.{◌≡◌, ◌<◌, ◌≤◌, ℕ, List, Bool, true, false, length, nat_lt, refl, arith, MatchBool}
use Rattle.std.proofs.lemmas.Bool.{ltb-true, ltb-false}
use Rattle.vw_outside.specs.Reads.{Fills}
use Rattle.vw_rows.proofs.pieces.is_too_large.Goals as goal

past : (bytes buffer : List ℕ) (count : ℕ) → Fills bytes 1073741824 buffer count → 0 < length buffer
    → MatchBool (nat_lt 0 count) (1073741824 < length bytes) (length bytes ≤ 1073741824)
past bytes buffer count fills room = by (nat_lt 0 count) refl
  where
    no_less : (m n : ℕ) → (m < n → ⊥) → n ≤ m
    no_less m n not_less = omega (arith, not_less)

    by : (some : Bool) → nat_lt 0 count ≡ some → MatchBool some (1073741824 < length bytes) (length bytes ≤ 1073741824)
    by true e = omega (ltb-true 0 count e, fills.within, arith)
    by false e = no_less 1073741824 (length bytes) (λ more. omega (ltb-false 0 count e, fills.progress room more, arith))

pub returns-in-Ok-clause-held : goal.returns-in-Ok-clause-held
returns-in-Ok-clause-held g c = λ bytes told. past bytes c.read.new.into c.in-Ok.count (c.in-Ok.ensures.held bytes told) (omega (c.read.auto.into, arith))
