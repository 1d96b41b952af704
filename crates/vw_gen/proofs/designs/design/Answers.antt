use Rattle.std.proofs.Common.{◌∙◌, ◌++◌, ℕ, List, ap}
use Rattle.std.specs.Prelude.{codes}
use Rattle.std.specs.List.{flat_map, range_with_len}
use Rattle.vw_gen.specs.Design.{outputs_line, cell_lines}
use Rattle.vw_gen.proofs.WrittenTexts.{design_written}
use Rattle.vw_gen.proofs.designs.design.Goals as goal

pub returns : goal.returns
returns c =
    let cells = c.args.n in
    let begun = c.in_ok-extend_from_slice.ensures.items ∙ ap (λ (text : List ℕ). text ++ codes ".model demo\n.inputs i0 i1 i2 i3 i4 i5 i6 i7\n") c.new-text.ensures.items in
    design_written (outputs_line cells) (flat_map (cell_lines cells) (range_with_len 0 cells)) c.extend_from_slice.new.self.items c.push_outputs.new.text.items c.push_cells.new.text.items c.extend_from_slice-2.new.self.items
    begun c.in_ok-push_outputs.ensures c.in_ok-push_cells.ensures c.in_ok-extend_from_slice-2.ensures.items
