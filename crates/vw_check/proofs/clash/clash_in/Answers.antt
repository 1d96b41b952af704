use Rattle.std.proofs.Common.{◌<◌, ◌∙◌, sym, ap, get_or, length, List, arith}
use Rattle.std.proofs.lemmas.Option.{none-some}
use Rattle.vw_plan.specs.declared.wire.Hop.{Hop}
use Rattle.vw_check.proofs.Clashes.{IsRestOfHops, left_clash, left_end, left_first, left_next, no_hop}
use Rattle.vw_check.proofs.clash.clash_in.Goals as goal

-- all hops are left at first
pub loop-place-init : goal.loop-place-init
loop-place-init c = λ placed has. left_first placed c.args.number c.args.wire.now.hops c.args.pins.now.users has

-- a hop without a clash has its pin then
pub loop-place-preserved : goal.loop-place-preserved
loop-place-preserved c = λ placed has.
    let hops = c.args.wire.now.hops in
    let place = c.loop-place.place in
    let hop = get_or c.hops-hop-items.result.now place no_hop in
    let is = ap (λ (list : List Hop). get_or list place no_hop) c.hops-hop-items.ensures in
    let within : place < length hops = omega (arith, ap length c.hops-hop-items.ensures) in
    let now : IsRestOfHops placed c.args.number place hops c.loop-place.pins.users = c.loop-place.invariant placed has in
    left_next placed c.args.number place hops c.loop-place.pins.users now hop within no_hop is c.give.new.self.users (sym c.in_ok-first_wire.ensures.0 ∙ c.in_default.is) (c.in_ok-first_wire.ensures.1 c.in_default.is now.before)

-- the first clash of the rest is the first of all
pub returns-in-Some : goal.returns-in-Some
returns-in-Some c = λ placed has.
    let hops = c.args.wire.now.hops in
    let place = c.loop-place.place in
    let hop = get_or c.hops-hop-items.result.now place no_hop in
    let is = ap (λ (list : List Hop). get_or list place no_hop) c.hops-hop-items.ensures in
    let within : place < length hops = omega (arith, ap length c.hops-hop-items.ensures) in
    (left_clash placed c.args.number place hops c.loop-place.pins.users (c.loop-place.invariant placed has) hop within no_hop is c.in-Some.first_wire c.in-Some.first_place (sym c.in_ok-first_wire.ensures.0 ∙ c.in-Some.is), λ none. absurd (none-some _ (sym none)))

-- none is left in the end
pub returns : goal.returns
returns c = λ placed has.
    let parts = left_end placed c.args.number c.loop-place.place c.args.wire.now.hops c.loop-place.pins.users (c.loop-place.invariant placed has) (omega (arith, ap length c.hops-hop-items.ensures)) in
    (parts.0, λ none. parts.1)
