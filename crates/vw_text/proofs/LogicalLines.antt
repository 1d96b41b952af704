-- A physical line that ends a logical line.
use Rattle.std.proofs.Common.{◌≡◌, ℕ, ◌+◌, Bool, true, cond, not, List, [], ◌∷◌, ◌++◌, map, Option, Some, None, refl, sym, ◌∙◌, ap}
use Rattle.std.proofs.lemmas.List.{append_assoc}
use Rattle.std.proofs.lemmas.List.Elements.{filter-append}
use Rattle.vw_text.specs.declared.line.Line.{Line}
use Rattle.vw_text.specs.Logical.{Logical, before_backslash, continued, with_line, joined_lines}
use Rattle.vw_text.specs.WordLines.{is_empty, words_of, word_line, word_lines_of}

-- with nothing before it, a line stays as it is
fresh_line : (number : ℕ) (line : List ℕ) (front : Option (List ℕ)) (lines : List Logical)
    → continued number [] (with_line number line front lines) ≡ with_line number line front lines
fresh_line number line None lines = refl
fresh_line number line (Some front) [] = refl
fresh_line number line (Some front) (next ∷ lines) = refl

-- where no bytes wait, it doesn't matter that a line may go on
pub fresh : (number : ℕ) (lines : List (List ℕ)) → word_lines_of (continued number [] (joined_lines number lines)) ≡ word_lines_of (joined_lines number lines)
fresh number [] = refl
fresh number (line ∷ lines) = ap word_lines_of (fresh_line number line (before_backslash line) (joined_lines (number + 1) lines))

-- a physical line with no `\` at its end, where these bytes are those of its logical line and these lines are done
pub ends : (done : List Line) (number next : ℕ) (front line bytes : List ℕ) (lines : List (List ℕ)) → before_backslash line ≡ None → bytes ≡ front ++ line
    → (done ++ word_lines_of (record { number = number; bytes = bytes } ∷ [])) ++ word_lines_of (continued (next + 1) [] (joined_lines (next + 1) lines))
    ≡ done ++ word_lines_of (continued number front (joined_lines next (line ∷ lines)))
ends done number next front line bytes lines is whole =
    let ended : Logical = record { number = number; bytes = front ++ line } in
    let rest = word_lines_of (continued (next + 1) [] (joined_lines (next + 1) lines)) in
    let cut = filter-append (λ line. not (is_empty line.words)) (word_line ended ∷ []) (map word_line (joined_lines (next + 1) lines)) in
    append_assoc done (word_lines_of (record { number = number; bytes = bytes } ∷ [])) rest
    ∙ ap (λ lines. done ++ lines)
    (ap (λ bytes. word_lines_of (record { number = number; bytes = bytes } ∷ []) ++ rest) whole
    ∙ ap (λ lines. word_lines_of (ended ∷ []) ++ lines) (fresh (next + 1) lines)
    ∙ sym (ap (λ part. word_lines_of (continued number front (with_line next line part (joined_lines (next + 1) lines)))) is ∙ cut))

-- the same, where the logical line has no words
pub passes : (number next : ℕ) (front line : List ℕ) (lines : List (List ℕ)) → before_backslash line ≡ None → is_empty (words_of (front ++ line)) ≡ true
    → word_lines_of (continued (next + 1) [] (joined_lines (next + 1) lines)) ≡ word_lines_of (continued number front (joined_lines next (line ∷ lines)))
passes number next front line lines is none =
    let rest = word_lines_of (continued (next + 1) [] (joined_lines (next + 1) lines)) in
    let whole : Logical = record { number = number; bytes = front ++ line } in
    sym (ap (λ (b : Bool). cond (not b) (word_line whole ∷ []) [] ++ rest) none) ∙ ends [] number next front line (front ++ line) lines is refl
