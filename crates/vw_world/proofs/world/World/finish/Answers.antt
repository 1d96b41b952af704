use Rattle.std.proofs.Common.{◌<◌, ◌≡◌, ℕ, List, length, map, ap, subst, sym, ◌∙◌}
use Rattle.vw_node.specs.declared.node.Node.{Node}
use Rattle.vw_node.specs.Fits.{state_of}
use Rattle.vw_world.specs.Boards.{world_of}
use Rattle.vw_world.specs.Worlds.{node_at}
use Rattle.vw_world.proofs.Rounds.{all_done, whole_slice}
use Rattle.vw_world.proofs.world.World.finish.Goals as goal

pub returns-clause-done : goal.returns-clause-done
returns-clause-done c =
    let job = c.self.inside.job.now in
    let count = c.finish.ensures.count ∙ ap (λ (nodes : List Node). length nodes) c.deref_mut.ensures.value in
    let nodes = whole_slice c.finish.new.nodes c.self.inside.nodes.items c.self.inside.nodes.len count c.self.inside.nodes.ok.0 in
    let clock_at = λ (nodes : List Node) (node : ℕ). (node_at (world_of nodes c.finish.new.lanes) node).clock in
    subst (λ (nodes : List Node). (node : ℕ) → node < length (map state_of nodes) → clock_at nodes node ≡ length job.rows) (sym nodes)
    (all_done job c.finish.new.nodes c.finish.new.lanes c.share-clocks.result.clocks c.share-clocks.ensures.clocks c.finish.ensures.done)
