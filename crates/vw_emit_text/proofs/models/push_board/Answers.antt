use Rattle.std.proofs.Common.{◌++◌, ◌∷◌, [], ◌∙◌, ℕ, List, length, map, ap}
use Rattle.std.specs.Prelude.{codes}
use Rattle.std.specs.List.{flat_map}
use Rattle.vw_net.specs.Cells.{latch_count}
use Rattle.vw_emit_names.specs.Boards.{all_nodes, placed_node}
use Rattle.vw_emit_text.specs.Steps.{numbered_ports, plain_item_text, planned_by, ports_text}
use Rattle.vw_emit_text.specs.declared.ports.Kind.TheVariants.{Columns, Results, Shown}
use Rattle.vw_emit_text.specs.declared.ports.Listing.TheVariants.{Ports}
use Rattle.vw_emit_text.proofs.PrintedModels.{board_pieces}
use Rattle.vw_text.proofs.WrittenPieces.{grown}
use Rattle.vw_emit_text.proofs.models.push_board.Goals as goal

pub returns : goal.returns
returns c =
    let planned = planned_by c.args.emitter.now in
    let flat = planned.ordered.flat in
    let old = c.args.text.now.items in
    grown old (codes ".model board\n.inputs")
    (ports_text Ports (numbered_ports Columns 0 flat.inputs) ∷ codes "\n.outputs" ∷ ports_text Ports (numbered_ports Results 0 (length flat.outputs)) ∷ ports_text Ports (numbered_ports Shown 0 (latch_count flat.cells)) ∷ (10 ∷ [])
    ∷ flat_map plain_item_text (map (placed_node planned) (all_nodes planned)) ∷ codes ".end\n" ∷ [])
    c.extend_from_slice-3.new.self.items (
      _,
      c.in_ok-extend_from_slice.ensures.items,
      (
        _,
        c.in_ok-push_columns.ensures,
        (
          _,
          c.in_ok-extend_from_slice-2.ensures.items,
          (
            _,
            c.in_ok-push_design_outputs.ensures,
            (_, c.in_ok-push_shown.ensures, (_, c.in_ok-push.ensures.items, (_, c.in_ok-push_all_placed.ensures, c.in_ok-extend_from_slice-3.ensures.items))),
          ),
        ),
      ),
    )
    ∙ ap (λ (written : List ℕ). old ++ written) (board_pieces planned)
