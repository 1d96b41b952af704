use Rattle.std.proofs.Common.{◌++◌, ◌∷◌, [], ◌∙◌, ℕ, List, ap}
use Rattle.std.specs.Prelude.{codes}
use Rattle.std.specs.Fmt.{decimal}
use Rattle.vw_emit_text.specs.Steps.{inputs_of, outputs_of, planned_by, ports_text}
use Rattle.vw_emit_text.specs.declared.ports.Listing.TheVariants.{Bindings}
use Rattle.vw_emit_text.proofs.PrintedModels.{placed_pieces}
use Rattle.vw_text.proofs.WrittenPieces.{grown}
use Rattle.vw_emit_text.proofs.models.push_placed.Goals as goal

pub returns : goal.returns
returns c =
    let emitter = c.args.emitter.now in
    let planned = planned_by emitter in
    let node = c.args.node in
    let old = c.args.text.now.items in
    grown old (codes ".subckt node") (decimal node ∷ ports_text Bindings (inputs_of planned node) ∷ ports_text Bindings (outputs_of planned node) ∷ (10 ∷ []) ∷ []) c.push.new.self.items
    (_, c.in_ok-extend_from_slice.ensures.items, (_, c.in_ok-push_number.ensures ∙ ap (λ (number : ℕ). c.extend_from_slice.new.self.items ++ decimal number) c.from.ensures, (_, c.in_ok-push_inputs.ensures, (_, c.in_ok-push_outputs.ensures, c.in_ok-push.ensures.items))))
    ∙ ap (λ (written : List ℕ). old ++ written) (placed_pieces planned emitter.sound node)
