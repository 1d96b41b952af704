use Rattle.std.proofs.Common.{◌∙◌, ℕ, subst, sym}
use Rattle.vw_prog.specs.declared.job.Job.{Job}
use Rattle.vw_world.specs.Able.{IsUnfinished}
use Rattle.vw_world.specs.Boards.{world_of}
use Rattle.vw_world.proofs.Rounds.{finishing_more, unfinished}
use Rattle.vw_world.proofs.board.finish.Goals as goal

pub loop-nodes-preserved : goal.loop-nodes-preserved
loop-nodes-preserved c =
    let start = world_of c.args.nodes.now c.args.lanes.now in
    let more = finishing_more c.args.lanes.now.job start c.loop-nodes.nodes c.round.new.nodes c.loop-nodes.lanes c.round.new.lanes in
    more c.loop-nodes.invariant c.round.ensures.board c.round.ensures.leads c.round.ensures.count

pub round-requires-clause-some : goal.round-requires-clause-some
round-requires-clause-some c =
    let board = c.loop-nodes.invariant.board in
    let rest = c.loop-nodes-test.ensures.rest in
    subst (λ (job : Job). (node : ℕ) × IsUnfinished job (world_of c.loop-nodes.nodes c.loop-nodes.lanes) node) (sym board.same)
    (unfinished c.args.lanes.now.job c.loop-nodes.nodes c.loop-nodes.lanes board rest.0 rest.1.0 rest.1.1.0 (λ same. rest.1.1.1 (same ∙ sym c.requires.clocks)))
