use Rattle.std.proofs.Common.{◌≡◌, ◌≤◌, ◌+◌, ◌∙◌, ◌∷◌, [], ℕ, List, length, drop, get_or, ap, sym, subst, arith}
use Rattle.std.proofs.lemmas.List.{append-nil, length-map}
use Rattle.std.proofs.Math.ListN.{drop_of_length-le}
use Rattle.vw_plan.specs.declared.link.Link.{Link}
use Rattle.vw_plan.specs.Lead.{arrival}
use Rattle.vw_plan.specs.Routes.{steps_of}
use Rattle.vw_pipe.specs.Steps.SentHops.{AreLinked, AreSent}
use Rattle.vw_pipe.proofs.Sending.{IsInFirstSlot, cut_at, further_on, place_within}
use Rattle.vw_pipe.proofs.along.send_along.Goals as goal

-- the link is one of the board
pub take_first-slot-requires-clause-link : goal.take_first-slot-requires-clause-link
take_first-slot-requires-clause-link c =
    let further = c.args.further.now in
    let place = c.loop-to.to-index in
    let from = c.loop-to.from in
    let to = get_or further place 0 in
    let links = c.args.given.now.board.now.links in
    let cut = cut_at further place c.loop-to-test.true in
    let linked : AreLinked links from (to ∷ drop (place + 1) further) =
    subst (λ (left : List ℕ). AreLinked links from left) cut c.loop-to.invariant.linked in
    let long : length c.loop-to.table.widths ≡ length links = ap length c.loop-to.invariant.widths ∙ length-map links (λ (link : Link). link.width) in
    omega (arith, c.link_between-link.ensures, long, place_within links from to linked.0)

pub loop-to-preserved : goal.loop-to-preserved
loop-to-preserved c =
    let given = c.args.given.now in
    let further = c.args.further.now in
    let so_far = c.loop-to in
    let hop = c.make-hop.result in
    let link = c.link_between-link.result in
    let slot = c.take_first-slot.result in
    let next = c.arrival-microcycle.result + 1 in
    let arrives : next ≡ arrival given.board.now.links hop + 1 =
    ap (λ (at : ℕ). at + 1) (c.arrival-microcycle.ensures.value ∙ ap (λ (links : List Link). arrival links hop) given.has_links) in
    let is : IsInFirstSlot given.board.now so_far.table so_far.microcycle so_far.from (get_or further so_far.to-index 0) hop link slot = record {
      leaves = c.make-hop.ensures.from;
      comes_to = c.make-hop.ensures.to;
      on_pin = c.make-hop.ensures.pin ∙ c.pin.ensures;
      leaves_at = c.make-hop.ensures.at ∙ c.at.ensures;
      its_link = c.link_between-link.ensures;
      free = c.take_first-slot.ensures.first;
      soon = c.take_first-slot.ensures.soon;
    } in
    further_on so_far.invariant c.loop-to-test.true c.requires.few is arrives
    c.take_first-slot.new.self c.push.new.self.items c.take_first-slot.ensures.slots c.in_ok-push.ensures.items

pub returns : goal.returns
returns c =
    let way = c.loop-to.invariant in
    let further = c.args.further.now in
    let place = c.loop-to.to-index in
    let board = c.args.given.now.board.now in
    let whole : length further ≤ place = omega arith in
    let none : drop place further ≡ [] = drop_of_length-le further whole in
    let end : AreSent board c.loop-to.table.taken c.loop-to.microcycle (steps_of (c.loop-to.from ∷ drop place further)) [] = rw none tt in
    let steps = steps_of (c.args.first ∷ further) in
    let sent = subst (AreSent board c.args.table.now.taken c.args.ready steps) (append-nil c.loop-to.hops.items) (way.sent [] end) in
    record {
      soon = λ number hop within. omega (arith, way.early number hop within, way.soon);
      ok = (sent, way.taken, way.widths ∙ sym c.requires.widths);
    }
