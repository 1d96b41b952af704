use Rattle.std.proofs.Common.{◌≡◌, ◌<◌, ◌+◌, ℕ, false, true, List, None, length, replicate, ap, sym, ◌∙◌, arith, rules}
use Rattle.std.proofs.Math.ListN.{length-replicate, length-set, set}
use Rattle.std.proofs.lemmas.Grind.{common_steps}
use Rattle.vw_plan.specs.declared.link.Link.{Link}
use Rattle.vw_board.specs.Steps.Tables.{HaveLeast, HaveWalks}
use Rattle.vw_board.proofs.CountedWalks.{walks_more, least_more, written_back}
use Rattle.vw_board.proofs.walks.least_links_to.Goals as goal

-- before the first link, a node alone has a walk to itself
first_walks : (links : List Link) (nodes to : ℕ) → to < nodes → HaveWalks links nodes 0 to (set (replicate nodes false) to true)
first_walks links nodes to inside = record {
  each = length-set (replicate nodes false) to true ∙ length-replicate nodes false;
  walk = λ from within. grind (arith, common_steps);
}

-- and nothing is noted
first_least : (links : List Link) (nodes to : ℕ) → HaveLeast links nodes 0 to (replicate nodes None)
first_least links nodes to = record {
  each = length-replicate nodes None;
  number = λ from within. grind (arith, common_steps);
}

pub loop-links_so_far-init : goal.loop-links_so_far-init
loop-links_so_far-init c =
    let count = c.args.chips + 1 in
    let nodes : c.in_ok-nodes.nodes.items ≡ replicate count false = c.in_ok-nodes.ensures.items_if_clones_equal (λ y same. same) in
    let least : c.in_ok-least.least.items ≡ replicate count None = c.in_ok-least.ensures.items_if_clones_equal (search rules) in
    (rw nodes (first_walks c.args.links.now count c.args.to (omega arith)), rw least (first_least c.args.links.now count c.args.to))

pub loop-links_so_far-preserved : goal.loop-links_so_far-preserved
loop-links_so_far-preserved c =
    let walks = c.loop-links_so_far.invariant.0 in
    let least = c.loop-links_so_far.invariant.1 in
    let more = rw c.deref-in-loop-links_so_far.ensures.value at c.in_ok-nodes-2.ensures in
    let notes = rw (c.deref_mut.ensures.value, c.deref.ensures.value) at c.note.ensures in
    let size = ap length (sym c.deref_mut.ensures.value) ∙ c.deref_mut.ensures.len in
    (walks_more _ _ _ _ _ _ c.requires.ends walks more, rw (written_back _ c.note.new.least c.loop-links_so_far.least.items notes.each size) (least_more _ _ _ _ _ _ _ least walks notes))
