use Rattle.std.proofs.Common.{◌∙◌, ◌-◌, ◌++◌, ◌∷◌, [], ℕ, List, min, ap, append_assoc}
use Rattle.std.specs.Prelude.{codes}
use Rattle.std.specs.List.{flat_map, range_with_len}
use Rattle.vw_gen.specs.Nets.{cell_name}
use Rattle.vw_text.proofs.WrittenPieces.{range_more, range_all, line_written}
use Rattle.vw_gen.proofs.designs.push_outputs.Goals as goal

pub loop-cell-preserved : goal.loop-cell-preserved
loop-cell-preserved c =
    let text = c.loop-cell.text.items in
    let name = cell_name c.loop-cell.cell in
    range_more (λ (cell : ℕ). 32 ∷ cell_name cell) c.loop-cell.cell c.args.cells text c.push_net.new.text.items _ c.loop-cell-test.true
    (c.in_ok-push_net.ensures ∙ ap (λ (front : List ℕ). front ++ name) c.in_ok-push.ensures.items ∙ append_assoc text (32 ∷ []) name) c.loop-cell.invariant

pub returns : goal.returns
returns c =
    let cells = c.args.cells in
    let names = flat_map (λ (cell : ℕ). 32 ∷ cell_name cell) (range_with_len (cells - min 8 cells) (min 8 cells)) in
    let written = range_all (λ (cell : ℕ). 32 ∷ cell_name cell) c.loop-cell.cell cells c.loop-cell.text.items _ c.loop-cell-test.false c.loop-cell.invariant in
    line_written c.args.text.now.items (codes ".outputs") names c.extend_from_slice.new.self.items c.loop-cell.text.items c.push-2.new.self.items c.in_ok-extend_from_slice.ensures.items written c.in_ok-push-2.ensures.items
