-- The text of lines in parts.
use Rattle.std.proofs.Common.{◌≡◌, ℕ, List, [], ◌∷◌, ◌++◌, map, refl, sym, ◌∙◌, ap}
use Rattle.std.specs.List.{flat_map}
use Rattle.std.proofs.lemmas.Grind.{flat_map-append}
use Rattle.vw_text.specs.Physical.{lines_text}

-- of lines and more lines
pub lines_text-append : (lines more : List (List ℕ)) → lines_text (lines ++ more) ≡ lines_text lines ++ lines_text more
lines_text-append lines more = flat_map-append (λ line. line ++ 10 ∷ []) lines more

-- lines of each of some things
pub lines_text-flat_map : {X : Type 0} (lines_of : X → List (List ℕ)) (xs : List X) → flat_map (λ x. lines_text (lines_of x)) xs ≡ lines_text (flat_map lines_of xs)
lines_text-flat_map lines_of [] = refl
lines_text-flat_map lines_of (x ∷ xs) =
    ap (λ (rest : List ℕ). lines_text (lines_of x) ++ rest) (lines_text-flat_map lines_of xs)
    ∙ sym (lines_text-append (lines_of x) (flat_map lines_of xs))

-- a line of each of some things
pub lines_text-map : {X : Type 0} (line_of : X → List ℕ) (xs : List X) → flat_map (λ x. line_of x ++ 10 ∷ []) xs ≡ lines_text (map line_of xs)
lines_text-map line_of [] = refl
lines_text-map line_of (x ∷ xs) = ap (λ (rest : List ℕ). (line_of x ++ 10 ∷ []) ++ rest) (lines_text-map line_of xs)

-- a byte of each of some things
pub bytes-map : {X : Type 0} (byte_of : X → ℕ) (xs : List X) → flat_map (λ x. byte_of x ∷ []) xs ≡ map byte_of xs
bytes-map byte_of [] = refl
bytes-map byte_of (x ∷ xs) = ap (λ (rest : List ℕ). byte_of x ∷ rest) (bytes-map byte_of xs)

-- a word behind a space of each of some things
pub spaced_map : {X : Type 0} (word : X → List ℕ) (xs : List X) → flat_map (λ x. 32 ∷ word x) xs ≡ flat_map (λ other. 32 ∷ other) (map word xs)
spaced_map word [] = refl
spaced_map word (x ∷ xs) = ap (λ (rest : List ℕ). (32 ∷ word x) ++ rest) (spaced_map word xs)
