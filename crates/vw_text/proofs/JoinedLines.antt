-- The lines of a text, put together again.
use Rattle.std.proofs.Common.{◌≡◌, ℕ, Bool, true, false, cond, List, [], ◌∷◌, refl, sym, ◌∙◌, ap, eqb}
use Rattle.std.specs.List.{onto_first}
use Rattle.std.proofs.lemmas.Bool.Decides.{Decides-eqb}
use Rattle.vw_text.specs.Physical.{text_lines, lines_text, ended}

-- what a byte makes of the lines behind it
abbrev with_byte : ℕ → Bool → List (List ℕ) → List (List ℕ)
with_byte b ends lines = cond ends ([] ∷ lines) (onto_first b lines)

-- a byte before lines, of which there are some, stands before their text
byte_first : (b : ℕ) (ends : Bool) (line : List ℕ) (lines : List (List ℕ)) → eqb b 10 ≡ ends
    → lines_text (with_byte b ends (line ∷ lines)) ≡ b ∷ lines_text (line ∷ lines)
byte_first b true line lines e = ap (λ n. n ∷ lines_text (line ∷ lines)) (sym ((Decides-eqb b 10).0 e))
byte_first b false line lines e = refl

-- the text of one byte
one_byte : (b : ℕ) (ends : Bool) → eqb b 10 ≡ ends → lines_text (with_byte b ends []) ≡ cond ends (b ∷ []) (b ∷ 10 ∷ [])
one_byte b true e = ap (λ n. n ∷ []) (sym ((Decides-eqb b 10).0 e))
one_byte b false e = refl

-- a byte before the lines of a text with bytes
byte_before : (b c : ℕ) (ends : Bool) (lines : List (List ℕ)) → lines_text (with_byte b (eqb b 10) (with_byte c ends lines)) ≡ b ∷ lines_text (with_byte c ends lines)
byte_before b c true lines = byte_first b (eqb b 10) [] lines refl
byte_before b c false [] = byte_first b (eqb b 10) (c ∷ []) [] refl
byte_before b c false (line ∷ lines) = byte_first b (eqb b 10) (c ∷ line) lines refl

pub lines_joined : (text : List ℕ) → lines_text (text_lines text) ≡ ended text
lines_joined [] = refl
lines_joined (b ∷ []) = one_byte b (eqb b 10) refl
lines_joined (b ∷ c ∷ bs) = byte_before b c (eqb c 10) (text_lines bs) ∙ ap (λ rest. b ∷ rest) (lines_joined (c ∷ bs))
