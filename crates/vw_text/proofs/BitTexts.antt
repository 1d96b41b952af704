-- Bits as the characters `0` and `1`.
use Rattle.std.proofs.Common.{◌≡◌, ℕ, Bool, true, false, List, [], ◌∷◌, map, if◌then◌else◌}
use Rattle.std.proofs.lemmas.List.Elements.{All-cons, All-nil}
use Rattle.vw_text.proofs.FoundBytes.{HasNo}

-- the character of a bit
abbrev pub shown : Bool → ℕ
shown b = if b then 49 else 48

-- a test that neither character passes, none of them passes; so there is no space and no end of a line among them
pub shown_has_no : (test : ℕ → Bool) → test 48 ≡ false → test 49 ≡ false → (bits : List Bool) → HasNo test (map shown bits)
shown_has_no test zero_ one [] = All-nil (λ b. test b ≡ false)
shown_has_no test zero_ one (true ∷ bits) = All-cons (λ b. test b ≡ false) 49 (map shown bits) one (shown_has_no test zero_ one bits)
shown_has_no test zero_ one (false ∷ bits) = All-cons (λ b. test b ≡ false) 48 (map shown bits) zero_ (shown_has_no test zero_ one bits)
