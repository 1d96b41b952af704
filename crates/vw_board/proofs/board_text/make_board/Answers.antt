use Rattle.vw_plan.proofs.FewLinks.{few_links}
use Rattle.vw_board.proofs.LinksOfWalks.{long_lists, links_of_board, apart_where_none}
use Rattle.vw_board.proofs.board_text.make_board.Goals as goal

pub first_over-requires-clause-few : goal.first_over-requires-clause-few
first_over-requires-clause-few c = rw c.deref.ensures.value (few_links c.args.head.chips c.requires.head.few_chips c.args.links.items c.requires.links.ends c.requires.links.once)

pub first_apart-requires-clause-there : goal.first_apart-requires-clause-there
first_apart-requires-clause-there c =
    let least = rw c.deref-2.ensures.value at c.in_ok-least.ensures in
    rw c.deref-3.ensures.value (long_lists c.args.head.chips c.requires.head.few_chips c.args.links.items c.requires.links c.in_ok-least.least.items least)

pub returns-in-Some-first_apart-clause-refuses : goal.returns-in-Some-first_apart-clause-refuses
returns-in-Some-first_apart-clause-refuses c =
    let least = rw c.deref-2.ensures.value at c.in_ok-least.ensures in
    let enough = rw c.deref.ensures.value at c.in_default.ensures.none in
    let pair = rw c.deref-3.ensures.value at c.in-Some-first_apart.ensures.first in
    (enough, apart_where_none c.args.head.chips c.requires.head.few_chips c.args.links.items c.requires.links c.in_ok-least.least.items least c.in-Some-first_apart.from c.in-Some-first_apart.to pair)

pub make-requires-clause-linked : goal.make-requires-clause-linked
make-requires-clause-linked c =
    let least = rw c.deref-2.ensures.value at c.in_ok-least.ensures in
    let all = rw c.deref-3.ensures.value at c.in_default-first_apart.ensures.none in
    rw c.of-links.ensures (links_of_board c.args.head.chips c.requires.head.few_chips c.args.links.items c.requires.links c.in_ok-least.least.items least all)
