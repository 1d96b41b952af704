-- A printed design is read back, in whichever of the ways it is printed.
use Rattle.std.proofs.Common.{◌≡◌, List, [], ◌∷◌, map, Option, refl, sym, ◌∙◌, ap, true≢false}
use Rattle.std.specs.Prelude.{Ok}
use Rattle.std.specs.List.{AllByRecursion}
use Rattle.vw_text.specs.WordLines.{word_lines}
use Rattle.vw_text.specs.PlainLines.{IsPlainLine, plain_text, numbered_lines}
use Rattle.vw_blif.specs.declared.fault.TextFault.{TextFault}
use Rattle.vw_design.specs.Paths.{Word}
use Rattle.vw_blif.specs.Spelled.{SpelledModel}
use Rattle.vw_blif.specs.Designs.{spelled_models}
use Rattle.vw_blif.specs.Read.{first_fault, unless, design_of_lines, design_of}
use Rattle.vw_blif.specs.Printed.{Printing, design_lines, printed_by}
use Rattle.vw_blif.specs.PlainDesigns.{IsPlainFor}
use Rattle.vw_blif.proofs.DesignLines.{of_lines}
use Rattle.vw_blif.proofs.PrintedWords.{lines_plain}
use Rattle.vw_blif.proofs.PrintedModels.{spelled_back}
use Rattle.vw_blif.proofs.PrintedFaults.{repeats_none, design_fine}

-- the lines of a design with a model
of_models : (printing : Printing) (design : List SpelledModel) → IsPlainFor printing design
    → design_of_lines (numbered_lines 1 (design_lines printing design)) ≡ unless (first_fault [] (numbered_lines 1 (design_lines printing design))) (spelled_models (numbered_lines 1 (design_lines printing design)))
of_models printing [] plain = absurd (true≢false (sym plain.some))
of_models printing (model ∷ design) plain = refl

pub read_back : ((lines : List (List Word)) → AllByRecursion IsPlainLine lines → word_lines (plain_text lines) ≡ numbered_lines 1 lines)
    → (printing : Printing) (design : List SpelledModel) → IsPlainFor printing design → design_of (printed_by printing design) ≡ Ok design
read_back lines_read printing design plain =
    let lines = numbered_lines 1 (design_lines printing design) in
    of_lines (printed_by printing design) plain.short
    ∙ ap design_of_lines (lines_read (design_lines printing design) (lines_plain printing design plain.models))
    ∙ of_models printing design plain
    ∙ ap (λ (f : Option TextFault). unless f (spelled_models lines)) (design_fine printing [] 1 design plain.models (repeats_none [] (map (λ (m : SpelledModel). m.name) design) plain.names) [] refl)
    ∙ ap (λ (ms : List SpelledModel). Ok ms) (spelled_back printing 1 design plain.models plain.numbers)
