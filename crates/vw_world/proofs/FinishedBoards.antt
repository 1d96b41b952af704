-- A board of which all nodes have finished all clocks.
use Rattle.std.proofs.Common.{◌≡◌, ◌<◌, ℕ, List, length, map, slice_get, ap, sym, subst, ◌∙◌, Some, arith}
use Rattle.std.proofs.lemmas.List.{get_or-map, length-map}
use Rattle.std.proofs.lemmas.Option.{get_or_from_slice_get, slice_get_within}
use Rattle.vw_prog.specs.declared.job.Job.{Job}
use Rattle.vw_node.specs.declared.node.Node.{Node}
use Rattle.vw_node.specs.Fits.{state_of}
use Rattle.vw_node.specs.Holding.{HoldsValues}
use Rattle.vw_node.specs.States.{NodeState}
use Rattle.vw_answer.specs.Answers.{AreFinished, IsFinished}
use Rattle.vw_world.specs.Boards.{IsBoard, world_of}
use Rattle.vw_world.specs.Lanes.{SeenLanes}
use Rattle.vw_world.specs.Worlds.{node_at}

pub finished_board : (job : Job) (nodes : List Node) (all : SeenLanes) → IsBoard job nodes all
    → ((node : ℕ) → node < length (map state_of nodes) → (node_at (world_of nodes all) node).clock ≡ length job.rows) → AreFinished job nodes
finished_board job nodes all board done = record {
  count = sym (length-map nodes state_of) ∙ board.kept.count;
  numbers = board.numbers;
  each = λ node there is. each node there is;
} where
  each : (node : ℕ) (there : Node) → slice_get nodes node ≡ Some there → IsFinished job there
  each node there is =
      let within : node < length nodes = slice_get_within nodes node there is in
      let inside : node < length (map state_of nodes) = omega (arith, within, length-map nodes state_of) in
      let here = get_or_from_slice_get nodes node there there is in
      let state : node_at (world_of nodes all) node ≡ state_of there = get_or-map state_of nodes node there _ within ∙ ap state_of here in
      let holds : HoldsValues job node (state_of there) = subst (HoldsValues job node) state (board.kept.nodes node inside) in
      record {
        fits = board.fits node there is;
        holds = subst (λ (own : ℕ). HoldsValues job own (state_of there)) (sym (board.numbers node there is)) holds;
        clock = sym (ap (λ (one : NodeState). one.clock) state) ∙ done node inside;
      }
