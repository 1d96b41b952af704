use Rattle.std.proofs.Common.{◌≡◌, ◌≤◌, ◌+◌, ◌-◌, ◌*◌, ◌∙◌, ℕ, List, Some, length, get_or, ap, ap₂, refl, arith, rules}
use Rattle.vw_plan.specs.declared.link.Link.{Link}
use Rattle.vw_plan.proofs.FewLinks.{few_links_on}
use Rattle.vw_ready.proofs.LinkNumbers.{all_numbers, ends_low, none_from, one_more_link}
use Rattle.vw_ready.proofs.links.link_numbers.Goals as goal

-- a board has few links
pub overflow_cast-number : goal.overflow_cast-number
overflow_cast-number c = omega (arith, few_links_on c.args.board.now, ap length c.links-links.ensures, c.loop-number.auto.number)

-- the link that is put in comes before those that are there
pub loop-number-preserved : goal.loop-number-preserved
loop-number-preserved c =
    let links = c.args.board.now.links in
    let none : Link = record { from = 0; to = 0; width = 0; delay = 0 } in
    let left = c.loop-number.number in
    let within : left ≤ length links = omega (arith, ap length c.links-links.ensures, c.loop-number.auto.number) in
    let low = ends_low c.args.board.now (left - 1) none (omega (arith, within, c.loop-number-test.true)) in
    let from : c.from.result ≡ (get_or links (left - 1) none).from = c.from.ensures ∙ ap (λ (list : List Link). (get_or list (left - 1) none).from) c.links-links.ensures in
    let to : c.to.result ≡ (get_or links (left - 1) none).to = c.to.ensures ∙ ap (λ (list : List Link). (get_or list (left - 1) none).to) c.links-links.ensures in
    one_more_link links left c.loop-number.numbers.items none (c.from.result * 33 + c.to.result) (Some (left - 1)) c.loop-number-test.true within low.0 low.1 (ap₂ (λ (one other : ℕ). one * 33 + other) from to) refl c.loop-number.invariant

-- at the front all links are in
pub returns : goal.returns
returns c = all_numbers c.args.board.now c.loop-number.number c.loop-number.numbers.items (omega arith) c.loop-number.invariant

-- before the first step no link is in
pub loop-number-init : goal.loop-number-init
loop-number-init c = none_from c.args.board.now.links (length c.links-links.result.now) c.in_ok-numbers.numbers.items (omega (arith, ap length c.links-links.ensures)) (c.in_ok-numbers.ensures.items_if_clones_equal (search rules)) (omega (arith, c.in_ok-numbers.ensures.len, c.in_ok-numbers.numbers.ok.0))

-- the ends of a link are below 33
pub index_mut-requires : goal.index_mut-requires
index_mut-requires c =
    let links = c.args.board.now.links in
    let none : Link = record { from = 0; to = 0; width = 0; delay = 0 } in
    let place = c.loop-number.number - 1 in
    let low = ends_low c.args.board.now place none (omega (arith, c.loop-number-test.true, ap length c.links-links.ensures, c.loop-number.auto.number)) in
    let from : c.from.result ≡ (get_or links place none).from = c.from.ensures ∙ ap (λ (list : List Link). (get_or list place none).from) c.links-links.ensures in
    let to : c.to.result ≡ (get_or links place none).to = c.to.ensures ∙ ap (λ (list : List Link). (get_or list place none).to) c.links-links.ensures in
    omega (arith, from, to, low.0, low.1, c.loop-number.invariant.long)
