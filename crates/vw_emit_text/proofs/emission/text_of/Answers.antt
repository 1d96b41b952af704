use Rattle.std.proofs.Common.{◌++◌, ◌∙◌, List, ℕ, ap}
use Rattle.vw_emit_names.specs.Boards.{board_model}
use Rattle.vw_emit_text.specs.Steps.{model_text, planned_by}
use Rattle.vw_emit_text.proofs.PrintedModels.{text_pieces}
use Rattle.vw_emit_text.proofs.emission.text_of.Goals as goal

pub returns : goal.returns
returns c =
    let planned = planned_by c.args.emitter.now in
    text_pieces planned c.push_board.new.text.items c.push_nodes.new.text.items (c.in_ok-push_board.ensures ∙ ap (λ (old : List ℕ). old ++ model_text (board_model planned)) c.new-text.ensures.items) c.in_ok-push_nodes.ensures
