-- There is a design that the text of an emitted board spells.
use Rattle.std.proofs.Common.{◌≡◌, ◌≤◌, ◌<◌, ◌+◌, ◌^◌, ℕ, suc, List, [], ◌∷◌, length, map, ap, refl, arith}
use Rattle.std.proofs.lemmas.List.FromFn.{length-map-range_with_len}
use Rattle.vw_text.specs.declared.limits.TheConstants.{MOST_DESIGN_BYTES}
use Rattle.vw_design.specs.declared.design.Design.{Design}
use Rattle.vw_blif.specs.Printed.{model_lines}
use Rattle.vw_blif.specs.Spelled.{spelled_model}
use Rattle.vw_plan.specs.PlannedBoard.{PlannedBoard}
use Rattle.vw_plan.specs.Sound.{IsSound}
use Rattle.vw_emit_text.specs.Emitted.{emitted_text}
use Rattle.vw_emit_names.specs.Boards.{PlainModel, all_nodes, board_models, node_model}
use Rattle.vw_emit_text.specs.Numbered.{emitting, model_from, models_from, spelled_board}
use Rattle.vw_emit.proofs.PlainBoards.{plain_board}
use Rattle.vw_emit.proofs.SpelledDesigns.{spelled_by_design}

as_many : (line : ℕ) (models : List PlainModel) → length (models_from line models) ≡ length models
as_many line [] = refl
as_many line (model ∷ models) = ap suc (as_many (line + length (model_lines emitting (model_from line model))) models)

-- a model for each node, and that of the board
few_models : (planned : PlannedBoard) → length (spelled_board planned) < 2 ^ 32
few_models planned =
    let nodes : length (map (node_model planned) (all_nodes planned)) ≡ planned.board.chips + 1 = length-map-range_with_len (node_model planned) 0 (planned.board.chips + 1) in
    omega (arith, as_many 1 (board_models planned), nodes, planned.board.few_chips)

pub a_board : (planned : PlannedBoard) → IsSound planned → length (emitted_text planned) ≤ MOST_DESIGN_BYTES
    → (board : Design) × (map spelled_model board.models ≡ spelled_board planned)
a_board planned sound short = spelled_by_design emitting (spelled_board planned) (plain_board planned sound short) (few_models planned)
