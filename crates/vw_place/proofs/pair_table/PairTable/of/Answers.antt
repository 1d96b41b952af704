use Rattle.std.proofs.Common.{◌<◌, ◌≤◌, ◌+◌, ◌*◌, ℕ, length, ap, refl, sym, subst, ◌∙◌, arith}
use Rattle.std.proofs.lemmas.List.{get_or_default}
use Rattle.std.proofs.lemmas.List.Elements.{All-weaker}
use Rattle.vw_net.specs.declared.flat.Flat.{Flat}
use Rattle.vw_plan.specs.Needs.{needed_pairs}
use Rattle.vw_plan.specs.Nets.{node_of}
use Rattle.vw_plan.proofs.ChipNumbers.{low_chips}
use Rattle.vw_place.specs.Steps.Traffic.{IsTraffic}
use Rattle.vw_place.proofs.PairTables.{all_counted, ends_within, fits_counted, none_counted, one_counted}
use Rattle.vw_place.proofs.pair_table.PairTable.of.Goals as goal

-- no pair is counted yet
pub loop-need-init : goal.loop-need-init
loop-need-init c =
    let board = c.args.placement.now.board.now in
    let chip_of = c.args.placement.now.chip_of.now in
    let chips = All-weaker (λ chip. chip ≤ board.chips) (λ chip. chip ≤ 32) (λ chip low. omega (arith, board.few_chips)) chip_of (low_chips board chip_of c.args.placement.now.chips) in
    let all = c.as_slice-need-items.ensures ∙ c.in_ok-needs.ensures ∙ ap (λ (flat : Flat). needed_pairs flat chip_of) (sym c.flat-flat.ensures) in
    none_counted c.flat-flat.result.now chip_of c.as_slice-need-items.result.now c.in_ok-counts.counts.items 1089 chips all refl (c.in_ok-counts.ensures.items_if_clones_equal (λ y same. same))

-- both ends of a pair are nodes of the board
pub node_of-from-requires-clause-net : goal.node_of-from-requires-clause-net
node_of-from-requires-clause-net c = (ends_within c.loop-need.invariant _ _ c.loop-need-test.true c.net.ensures).0

pub overflow_mul-place : goal.overflow_mul-place
overflow_mul-place c = omega (arith, c.node_of-from.ensures, ends_within c.loop-need.invariant _ _ c.loop-need-test.true c.net.ensures)

pub overflow_add-place : goal.overflow_add-place
overflow_add-place c = omega (arith, c.node_of-from.ensures, c.to.ensures, ends_within c.loop-need.invariant _ _ c.loop-need-test.true c.net.ensures)

pub index_mut-requires : goal.index_mut-requires
index_mut-requires c = omega (arith, c.node_of-from.ensures, c.to.ensures, c.loop-need.invariant.long, ends_within c.loop-need.invariant _ _ c.loop-need-test.true c.net.ensures)

-- no count is above the number of pairs so far
pub overflow_add-index_mut : goal.overflow_add-index_mut
overflow_add-index_mut c =
    let counted = c.loop-need.invariant in
    let place = c.node_of-from.result * 33 + c.to.result in
    let within : place < length c.loop-need.counts.items = omega (arith, c.node_of-from.ensures, c.to.ensures, counted.long, ends_within counted _ _ c.loop-need-test.true c.net.ensures) in
    omega (arith, c.index_mut.ensures.value, (fits_counted counted (omega (arith, c.loop-need-test.true))).low place c.index_mut.result.now within)

pub loop-need-preserved : goal.loop-need-preserved
loop-need-preserved c =
    let counts = c.loop-need.counts.items in
    let counted = c.loop-need.invariant in
    let home = c.node_of-from.result in
    let to = c.to.result in
    let within : home * 33 + to < length counts = omega (arith, c.node_of-from.ensures, c.to.ensures, counted.long, ends_within counted _ _ c.loop-need-test.true c.net.ensures) in
    let value = ap (λ (count : ℕ). count + 1) (c.index_mut.ensures.value ∙ get_or_default counts (home * 33 + to) c.index_mut.result.now 0 within) in
    one_counted counted _ home to (c.index_mut.result.now + 1) c.loop-need-test.true (c.node_of-from.ensures ∙ ap (node_of c.flat-flat.result.now c.args.placement.now.chip_of.now) c.net.ensures) c.to.ensures within value

pub invariant_of-result : goal.invariant_of-result
invariant_of-result c = fits_counted c.loop-need.invariant (omega arith)

pub returns : goal.returns
returns c =
    subst (λ (flat : Flat). IsTraffic flat c.args.placement.now.chip_of.now c.loop-need.counts.items) c.flat-flat.ensures (all_counted c.loop-need.invariant (omega (arith, c.loop-need-test.false)))
