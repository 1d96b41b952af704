use Rattle.std.proofs.Common.{◌++◌, ◌∷◌, [], ◌∙◌, ℕ, List, ap}
use Rattle.std.specs.Prelude.{codes}
use Rattle.std.specs.Fmt.{decimal}
use Rattle.vw_emit_hardware.specs.Items.{node_items}
use Rattle.vw_emit_text.specs.Steps.{inputs_of, items_text, outputs_of, planned_by, ports_text}
use Rattle.vw_emit_text.specs.declared.ports.Listing.TheVariants.{Ports}
use Rattle.vw_emit_text.proofs.PrintedModels.{node_pieces}
use Rattle.vw_text.proofs.WrittenPieces.{grown}
use Rattle.vw_emit_text.proofs.models.push_node.Goals as goal

pub returns : goal.returns
returns c =
    let emitter = c.args.emitter.now in
    let planned = planned_by emitter in
    let node = c.args.node in
    let old = c.args.text.now.items in
    grown old (codes ".model node")
    (decimal node ∷ codes "\n.inputs" ∷ ports_text Ports (inputs_of planned node) ∷ codes "\n.outputs" ∷ ports_text Ports (outputs_of planned node) ∷ (10 ∷ []) ∷ items_text (node_items planned node) ∷ codes ".end\n" ∷ [])
    c.extend_from_slice-4.new.self.items (
      _,
      c.in_ok-extend_from_slice.ensures.items,
      (
        _,
        c.in_ok-push_number.ensures ∙ ap (λ (number : ℕ). c.extend_from_slice.new.self.items ++ decimal number) c.from.ensures,
        (
          _,
          c.in_ok-extend_from_slice-2.ensures.items,
          (
            _,
            c.in_ok-push_inputs.ensures,
            (
              _,
              c.in_ok-extend_from_slice-3.ensures.items,
              (_, c.in_ok-push_outputs.ensures, (_, c.in_ok-push.ensures.items, (_, c.in_ok-push_items.ensures, c.in_ok-extend_from_slice-4.ensures.items))),
            ),
          ),
        ),
      ),
    )
    ∙ ap (λ (written : List ℕ). old ++ written) (node_pieces planned emitter.sound node)
