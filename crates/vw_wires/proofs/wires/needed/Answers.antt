use Rattle.std.proofs.Common.{◌≡◌, List, ◌∙◌, sym, ap}
use Rattle.std.specs.List.{dedup, list_any}
use Rattle.std.proofs.lemmas.List.Filters.{dedup_is}
use Rattle.vw_net.specs.declared.flat.Flat.{Flat}
use Rattle.vw_plan.specs.declared.need.Need.{Need}
use Rattle.vw_plan.specs.Needs.{is_pair, needed_pairs}
use Rattle.vw_wires.specs.Steps.Crossings.{crossings}
use Rattle.vw_wires.proofs.ListedPairs.{any_crossings, same, sorted_once}
use Rattle.vw_wires.proofs.RisingPairs.{sorted_from_rising, HaveSame}
use Rattle.vw_wires.proofs.wires.needed.Goals as goal

-- each read across is a needed pair, so sorted, and kept once, they are the needed pairs
pub returns : goal.returns
returns c =
    let flat = c.args.ordered.now.flat in
    let chip_of = c.args.chip_of.now in
    let listed : c.in_ok-needs.needs.items ≡ crossings flat chip_of = c.in_ok-needs.ensures ∙ ap (λ (own : Flat). crossings own chip_of) c.flat.ensures in
    let have : HaveSame c.in_ok-needs.needs.items (needed_pairs flat chip_of) = λ net node.
    ap (λ (needs : List Need). list_any (is_pair net node) needs) listed ∙ any_crossings flat chip_of net node ∙ sym (c.needed_pairs_are_needed.ensures.listed flat chip_of net node) in
    let once : c.dedup.new.self.items ≡ dedup same c.sort.new.self.items = dedup_is same c.sort.new.self.items c.dedup.new.self.items c.dedup.ensures.filtered in
    let rise = sorted_from_rising (needed_pairs flat chip_of) (c.needed_pairs_are_needed.ensures.rising flat chip_of) in
    c.of.ensures ∙ sorted_once c.in_ok-needs.needs.items c.sort.new.self.items c.dedup.new.self.items (needed_pairs flat chip_of) c.in_ok-sort.ensures.permutation c.in_ok-sort.ensures.sorted once rise have
