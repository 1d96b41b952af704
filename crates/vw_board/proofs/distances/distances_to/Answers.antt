use Rattle.std.proofs.Common.{◌≡◌, ◌<◌, ◌≤◌, ◌+◌, slice_index_or, ℕ, List, Option, Some, None, length, refl, sym, subst, ◌∙◌, ap, arith}
use Rattle.std.specs.Prelude.{IsSome, unwrap_or}
use Rattle.vw_plan.specs.declared.board.Board.{Board}
use Rattle.vw_plan.specs.Distance.{distance}
use Rattle.vw_board.specs.Steps.Tables.{HaveLeast}
use Rattle.vw_board.proofs.NotedWalks.{noted_distance, distances_push}
use Rattle.vw_board.proofs.distances.distances_to.Goals as goal

-- at each node its distance was noted
noted_at : (board : Board) (to : ℕ) (least : List (Option ℕ)) (from : ℕ) → to ≤ board.chips → HaveLeast board.links (board.chips + 1) (board.chips + 1) to least → from < length least → slice_index_or least from None ≡ Some (distance board from to)
noted_at board to least from to_node have within =
    let size : length least ≡ board.chips + 1 = have.each in
    have.number from (omega arith) ∙ noted_distance board from to (omega arith) to_node

pub unwrap-requires : goal.unwrap-requires
unwrap-requires c = subst IsSome (sym (noted_at c.args.board.now c.args.to c.args.least.now c.loop-links.links-index c.requires.to c.requires.least c.loop-links-test.true)) refl

pub loop-links-preserved : goal.loop-links-preserved
loop-links-preserved c =
    let noted = noted_at c.args.board.now c.args.to c.args.least.now c.loop-links.links-index c.requires.to c.requires.least c.loop-links-test.true in
    let is : c.unwrap.result ≡ distance c.args.board.now c.loop-links.links-index c.args.to = ap (λ (o : Option ℕ). unwrap_or o 0) (sym c.unwrap.ensures ∙ noted) in
    rw c.in_ok-push.ensures.items (distances_push c.args.board.now c.args.to c.loop-links.links-index c.loop-links.distances.items c.unwrap.result c.loop-links.invariant is)
