-- The pieces of a text make it up.
use Rattle.std.proofs.Common.{◌≡◌, ◌++◌, ◌∷◌, [], ◌∙◌, ℕ, List, ap, sym, append_assoc}
use Rattle.std.specs.Prelude.{codes}
use Rattle.vw_text.specs.Physical.{lines_text}
use Rattle.vw_text.proofs.LineTexts.{lines_text-append}

-- the pieces of a design
pub design_written : (outputs : List ℕ) (cells : List (List ℕ)) (begun with_outputs with_cells all : List ℕ)
    → begun ≡ codes ".model demo\n.inputs i0 i1 i2 i3 i4 i5 i6 i7\n" → with_outputs ≡ begun ++ (outputs ++ 10 ∷ []) → with_cells ≡ with_outputs ++ lines_text cells → all ≡ with_cells ++ codes ".end\n"
    → all ≡ lines_text (codes ".model demo" ∷ codes ".inputs i0 i1 i2 i3 i4 i5 i6 i7" ∷ outputs ∷ (cells ++ codes ".end" ∷ []))
design_written outputs cells begun with_outputs with_cells all first second third last =
    let head = codes ".model demo\n.inputs i0 i1 i2 i3 i4 i5 i6 i7\n" in
    let line = outputs ++ 10 ∷ [] in
    let end = codes ".end\n" in
    last
    ∙ ap (λ (text : List ℕ). text ++ end) (third ∙ ap (λ (text : List ℕ). text ++ lines_text cells) (second ∙ ap (λ (text : List ℕ). text ++ line) first))
    ∙ append_assoc (head ++ line) (lines_text cells) end
    ∙ append_assoc head line (lines_text cells ++ end)
    ∙ ap (λ (text : List ℕ). head ++ (line ++ text)) (sym (lines_text-append cells (codes ".end" ∷ [])))

-- the pieces of a board
pub board_written : (room : List ℕ) (chips host : List (List ℕ)) (begun with_room with_head with_chips all : List ℕ)
    → begun ≡ codes "board 1\nchips 16\ncells " → with_room ≡ begun ++ room → with_head ≡ with_room ++ codes "\nsettle 1\npins 16\n" → with_chips ≡ with_head ++ lines_text chips → all ≡ with_chips ++ lines_text host
    → all ≡ lines_text (codes "board 1" ∷ codes "chips 16" ∷ (codes "cells " ++ room) ∷ codes "settle 1" ∷ codes "pins 16" ∷ (chips ++ host))
board_written room chips host begun with_room with_head with_chips all first second third fourth last =
    let head = codes "board 1\nchips 16\ncells " in
    let settings = codes "\nsettle 1\npins 16\n" in
    let behind = codes "settle 1\npins 16\n" in
    let links = lines_text chips ++ lines_text host in
    last
    ∙ ap (λ (text : List ℕ). text ++ lines_text host) (fourth ∙ ap (λ (text : List ℕ). text ++ lines_text chips) (third ∙ ap (λ (text : List ℕ). text ++ settings) (second ∙ ap (λ (text : List ℕ). text ++ room) first)))
    ∙ append_assoc ((head ++ room) ++ settings) (lines_text chips) (lines_text host)
    ∙ append_assoc (head ++ room) settings links
    ∙ append_assoc head room (settings ++ links)
    ∙ ap (λ (text : List ℕ). head ++ text) (sym (append_assoc room (10 ∷ []) (behind ++ links)))
    ∙ ap (λ (text : List ℕ). head ++ ((room ++ 10 ∷ []) ++ (behind ++ text))) (sym (lines_text-append chips host))
