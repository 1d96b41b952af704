use Rattle.std.proofs.Common.{ap, ◌∙◌}
use Rattle.vw_outside.specs.Sure.{SureTexts, sure_text}
use Rattle.vw_top.proofs.DemoRuns.{texts_are}
use Rattle.vw_top.proofs.demo.texts.Goals as goal

pub returns : goal.returns
returns c = λ name.
    ap (λ (files : SureTexts). sure_text files name) (c.new.ensures ∙ c.in_ok-files.ensures.items)
    ∙ texts_are c.args.size.cells c.in_ok-design.field-0 c.in_ok-board.field-0 c.in_ok-stimulus.field-0 c.in_ok-design.ensures c.in_ok-board.ensures c.in_ok-stimulus.ensures
    c.in_ok-design_name.field-0 c.in_ok-board_name.field-0 c.in_ok-stimulus_name.field-0 name c.in_ok-design_name.ensures c.in_ok-board_name.ensures c.in_ok-stimulus_name.ensures
