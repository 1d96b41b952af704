-- The text of a name, from each way of telling.
use Rattle.std.proofs.Common.{◌≡◌, ℕ, List, refl}
use Rattle.vw_outside.specs.Told.{Told, untold, absent, held, IsTextOf, OfText}

-- a text that may be the one, from each way of telling
pub IsTextOf-from_cases : (told : Told) (text : List ℕ) → (told ≡ absent → ⊥)
    → ((bytes : List ℕ) → told ≡ held bytes → text ≡ bytes) → IsTextOf told text
IsTextOf-from_cases untold text there one = tt
IsTextOf-from_cases absent text there one = there refl
IsTextOf-from_cases (held bytes) text there one = one bytes refl

-- the fact from each way of telling
pub OfText-from_cases : (told : Told) (P : List ℕ → Type 0) (text : List ℕ) → P text → (told ≡ absent → ⊥)
    → ((bytes : List ℕ) → told ≡ held bytes → P bytes) → OfText told P
OfText-from_cases untold P text some there one = (text, tt, some)
OfText-from_cases absent P text some there one = absurd (there refl)
OfText-from_cases (held bytes) P text some there one = (bytes, refl, one bytes refl)
