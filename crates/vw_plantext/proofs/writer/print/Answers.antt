use Rattle.std.proofs.Common.{◌≡◌, ◌++◌, ℕ, List, ap, ◌∙◌, rules}
use Rattle.std.specs.Prelude.{codes}
use Rattle.vw_plantext.specs.Content.{content_of}
use Rattle.vw_plantext.specs.Grammar.{head_line, chips_line}
use Rattle.vw_text.specs.Printed.{with_newline}
use Rattle.vw_plantext.specs.Steps.Pieces.{wires_text}
use Rattle.vw_plantext.proofs.Printed.{spelling-pieces}
use Rattle.vw_plantext.proofs.writer.print.Goals as goal

pub returns : goal.returns
returns c =
    let content = content_of c.args.plan.now in
    let head : c.push_line.new.text.items ≡ with_newline (head_line content) = search rules in
    let chips : c.push_chips.new.text.items ≡ c.push_line.new.text.items ++ with_newline (chips_line content.chip_of) = search rules in
    let wires : c.push_wires.new.text.items ≡ c.push_chips.new.text.items ++ wires_text content.wires = search rules in
    let front = chips ∙ ap (λ (text : List ℕ). text ++ with_newline (chips_line content.chip_of)) head in
    let all = wires ∙ ap (λ (text : List ℕ). text ++ wires_text content.wires) front in
    c.in_ok-extend_from_slice.ensures.items ∙ ap (λ (text : List ℕ). text ++ codes "end\n") all ∙ spelling-pieces content
