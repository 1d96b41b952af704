-- The pieces of a plan's text make it up.
use Rattle.std.proofs.Common.{◌≡◌, ℕ, List, [], ◌∷◌, ◌++◌, map, ap, ap₂, refl, sym, ◌∙◌}
use Rattle.std.specs.Prelude.{codes}
use Rattle.std.specs.List.{flat_map}
use Rattle.std.proofs.lemmas.List.{append_assoc}
use Rattle.vw_text.specs.Physical.{lines_text}
use Rattle.vw_text.proofs.LineTexts.{lines_text-append}
use Rattle.vw_plan.specs.declared.wire.Hop.{Hop}
use Rattle.vw_plan.specs.declared.wire.Wire.{Wire}
use Rattle.vw_plantext.specs.Content.{Content}
use Rattle.vw_plantext.specs.Grammar.{head_line, chips_line, hop_line, wire_line, wire_lines, spelling}
use Rattle.vw_text.specs.Printed.{with_newline}
use Rattle.vw_plantext.specs.Steps.Pieces.{hops_text, wire_text, wires_text}

hops_text-lines : (hops : List Hop) → hops_text hops ≡ lines_text (map hop_line hops)
hops_text-lines [] = refl
hops_text-lines (hop ∷ hops) = ap (λ (rest : List ℕ). with_newline (hop_line hop) ++ rest) (hops_text-lines hops)

wires_text-lines : (wires : List Wire) → wires_text wires ≡ lines_text (flat_map wire_lines wires)
wires_text-lines [] = refl
wires_text-lines (wire ∷ wires) =
    let here : wire_text wire ≡ lines_text (wire_lines wire) = ap (λ (rest : List ℕ). with_newline (wire_line wire) ++ rest) (hops_text-lines wire.hops) in
    ap₂ (λ (first rest : List ℕ). first ++ rest) here (wires_text-lines wires) ∙ sym (lines_text-append (wire_lines wire) (flat_map wire_lines wires))

pub spelling-pieces : (content : Content) → ((with_newline (head_line content) ++ with_newline (chips_line content.chip_of)) ++ wires_text content.wires) ++ codes "end\n" ≡ spelling content
spelling-pieces content =
    let body : wires_text content.wires ++ codes "end\n" ≡ lines_text (flat_map wire_lines content.wires ++ codes "end" ∷ []) = ap (λ (text : List ℕ). text ++ codes "end\n") (wires_text-lines content.wires) ∙ sym (lines_text-append (flat_map wire_lines content.wires) (codes "end" ∷ [])) in
    append_assoc (with_newline (head_line content) ++ with_newline (chips_line content.chip_of)) (wires_text content.wires) (codes "end\n") ∙ append_assoc (with_newline (head_line content)) (with_newline (chips_line content.chip_of)) (wires_text content.wires ++ codes "end\n") ∙ ap (λ (text : List ℕ). with_newline (head_line content) ++ (with_newline (chips_line content.chip_of) ++ text)) body
