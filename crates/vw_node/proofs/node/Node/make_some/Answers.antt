use Rattle.std.proofs.Common.{◌∙◌, length, Bool, List, false, ap, arith}
use Rattle.std.proofs.lemmas.List.{get_or_default}
use Rattle.vw_net.specs.declared.ordered.Ordered.{Ordered}
use Rattle.vw_plan.specs.declared.checked.Checked.{Checked}
use Rattle.vw_node.proofs.ClockEnds.{end_agrees, end_fits, end_makes, end_slots}
use Rattle.vw_node.proofs.StepAnswers.{ReadsGate, ReadsLoop, AtWork, empty_makes, full_makes, run_agrees, run_begins_first, run_fits, run_last, run_made, run_makes, run_room, run_some, run_within}
use Rattle.vw_node.proofs.StepAnswers.{send_agrees, send_fits, send_inside, send_loop, send_makes, send_next, send_place, send_slot, take_agrees, take_expected, take_fits, take_makes, take_slot}
use Rattle.vw_node.proofs.StepAnswers.{wide_agrees, wide_fits, wide_inside, wide_makes, wide_reads, wide_target, wide_within}
use Rattle.vw_node.proofs.node.Node.make_some.Given.{Over}
use Rattle.vw_node.proofs.node.Node.make_some.Goals as goal
use Rattle.vw_node.proofs.node.Node.make_some.Goals.{After-deref, After-link-link, Else-self}

-- the node and its ends are at work, as the lemmas on each op have it
at_work : (g : Over) (c : Else-self g) → AtWork (g.E.Ends.seen c.args.ends.now) c.args.self.now
at_work g c = record { fits = c.requires.fits; agrees = c.requires.agrees; differ = c.if-self.false }

-- ---- gates

pub end_of-requires : goal.end_of-requires
end_of-requires g c = run_begins_first (at_work g (goal.at.end_of-requires g c).Else-self) c.index.ensures c.in-Run.is

pub run-requires-clause-order : goal.run-requires-clause-order
run-requires-clause-order g c =
    let works = at_work g (goal.at.run-requires-clause-order g c).Else-self in
    omega (arith, run_some works c.index.ensures c.in-Run.is c.args.whole c.end_of.ensures)

pub run-requires-clause-end : goal.run-requires-clause-end
run-requires-clause-end g c =
    run_last (at_work g (goal.at.run-requires-clause-end g c).Else-self) c.index.ensures c.in-Run.is c.args.whole c.end_of.ensures

pub run-requires-clause-within : goal.run-requires-clause-within
run-requires-clause-within g c =
    run_within (at_work g (goal.at.run-requires-clause-within g c).Else-self) c.index.ensures c.in-Run.is c.args.whole c.end_of.ensures

pub run-requires-clause-room : goal.run-requires-clause-room
run-requires-clause-room g c =
    run_room (at_work g (goal.at.run-requires-clause-room g c).Else-self) c.index.ensures c.in-Run.is c.args.whole c.end_of.ensures

pub run-requires-clause-made : goal.run-requires-clause-made
run-requires-clause-made g c =
    run_made (at_work g (goal.at.run-requires-clause-made g c).Else-self) c.index.ensures c.in-Run.is c.args.whole c.end_of.ensures

pub returns-in-Run-clause-fits : goal.returns-in-Run-clause-fits
returns-in-Run-clause-fits g c =
    let works = at_work g (goal.at.returns-in-Run-clause-fits g c).Else-self in
    run_fits works c.index.ensures c.in-Run.is c.args.whole c.end_of.ensures c.run.ensures.rest c.run.ensures.slots

pub returns-in-Run-clause-agrees : goal.returns-in-Run-clause-agrees
returns-in-Run-clause-agrees g c =
    let works = at_work g (goal.at.returns-in-Run-clause-agrees g c).Else-self in
    run_agrees works c.index.ensures c.in-Run.is c.args.whole c.end_of.ensures c.run.ensures.rest c.run.ensures.slots

pub returns-in-Run-clause-makes : goal.returns-in-Run-clause-makes
returns-in-Run-clause-makes g c =
    let works = at_work g (goal.at.returns-in-Run-clause-makes g c).Else-self in
    run_makes works c.index.ensures c.in-Run.is c.args.whole c.end_of.ensures c.run.ensures.rest c.run.ensures.slots

-- ---- a gate by its rows

-- what was read for the gate
gate : (g : Over) (c : After-deref g) → ReadsGate (g.E.Ends.seen c.args.ends.now) c.args.self.now c.index.result.now c.in-Wide.place c.index-gate.result.now c.flat.result.now
gate g c = record {
  found = c.index.ensures;
  is = c.in-Wide.is;
  here = c.index-gate.ensures;
  flat_is = c.flat.ensures ∙ ap (λ (ordered : Ordered). ordered.flat) c.ordered.ensures ∙ ap (λ (checked : Checked). checked.ordered.flat) c.requires.fits.share.checked;
}

pub index-gate-requires : goal.index-gate-requires
index-gate-requires g c =
    let works = at_work g (goal.at.index-gate-requires g c).Else-self in
    omega (arith, wide_inside works c.index.ensures c.in-Wide.is, c.args.self.now.code.now.wide.ok)

pub wide_bit-bit-requires-clause-arity : goal.wide_bit-bit-requires-clause-arity
wide_bit-bit-requires-clause-arity g c =
    let at = goal.at.wide_bit-bit-requires-clause-arity g c in
    wide_reads (at_work g at.Else-self) (gate g at.After-deref)

pub wide_bit-bit-requires-clause-within : goal.wide_bit-bit-requires-clause-within
wide_bit-bit-requires-clause-within g c =
    let at = goal.at.wide_bit-bit-requires-clause-within g c in
    let within = wide_within (at_work g at.Else-self) (gate g at.After-deref) in
    λ place default below. omega (arith, within place default below, ap (λ (bits : List Bool). length bits) c.deref.ensures.value)

pub write-requires-clause-slot : goal.write-requires-clause-slot
write-requires-clause-slot g c =
    let at = goal.at.write-requires-clause-slot g c in
    wide_target (at_work g at.Else-self) (gate g at.After-deref)

pub returns-in-Wide-clause-fits : goal.returns-in-Wide-clause-fits
returns-in-Wide-clause-fits g c =
    let at = goal.at.returns-in-Wide-clause-fits g c in
    wide_fits (at_work g at.Else-self) (gate g at.After-deref) c.write.ensures.rest c.write.ensures.slots c.wide_bit-bit.ensures c.deref.ensures.value

pub returns-in-Wide-clause-agrees : goal.returns-in-Wide-clause-agrees
returns-in-Wide-clause-agrees g c =
    let at = goal.at.returns-in-Wide-clause-agrees g c in
    wide_agrees (at_work g at.Else-self) (gate g at.After-deref) c.write.ensures.rest c.write.ensures.slots c.wide_bit-bit.ensures c.deref.ensures.value

pub returns-in-Wide-clause-makes : goal.returns-in-Wide-clause-makes
returns-in-Wide-clause-makes g c =
    let at = goal.at.returns-in-Wide-clause-makes g c in
    wide_makes (at_work g at.Else-self) (gate g at.After-deref) c.write.ensures.rest c.write.ensures.slots c.wide_bit-bit.ensures c.deref.ensures.value c.args.whole

-- ---- a send

-- what was read for the send
sends : (g : Over) (c : After-link-link g) → ReadsLoop c.args.self.now c.index.result.now c.in-Send.at c.index-one.result.now c.link-link.result
sends g c = record { found = c.index.ensures; is = c.in-Send.is; there = c.index-one.ensures; link_is = c.link-link.ensures }

pub index-one-requires : goal.index-one-requires
index-one-requires g c =
    let works = at_work g (goal.at.index-one-requires g c).Else-self in
    omega (arith, send_loop works c.index.ensures c.in-Send.is, c.args.self.now.code.now.loops.ok)

pub index-place-requires : goal.index-place-requires
index-place-requires g c =
    let works = at_work g (goal.at.index-place-requires g c).Else-self in
    omega (arith, send_place works c.index.ensures c.in-Send.is, c.args.self.now.places.ok)

pub at-item-requires : goal.at-item-requires
at-item-requires g c =
    let at = goal.at.at-item-requires g c in
    send_inside (at_work g at.Else-self) (sends g at.After-link-link) c.index-place.ensures

pub index-bit-requires : goal.index-bit-requires
index-bit-requires g c =
    let at = goal.at.index-bit-requires g c in
    omega (arith, send_slot (at_work g at.Else-self) (sends g at.After-link-link) c.index-place.ensures c.at-item.ensures, c.args.self.now.slots.ok)

pub put-requires : goal.put-requires
put-requires g c =
    let at = goal.at.put-requires g c in
    let works = at_work g at.Else-self in
    let its = sends g at.After-link-link in
    let word = c.make-word.ensures in
    let same = get_or_default c.args.self.now.slots.items c.at-item.result.slot _ false (send_slot works its c.index-place.ensures c.at-item.ensures) in
    send_next works its c.index-place.ensures c.at-item.ensures c.make-word.result word.clock word.net (word.pin ∙ c.pin.ensures) (word.bit ∙ c.index-bit.ensures ∙ same)

pub returns-then-not-put-clause-makes : goal.returns-then-not-put-clause-makes
returns-then-not-put-clause-makes g c =
    let at = goal.at.returns-then-not-put-clause-makes g c in
    full_makes (at_work g at.Else-self) (sends g at.After-link-link) c.index-place.ensures c.args.whole c.if-not-put.ensures

pub next-requires : goal.next-requires
next-requires g c =
    let at = goal.at.next-requires g c in
    send_inside (at_work g at.Else-self) (sends g at.After-link-link) c.index-place.ensures

pub turn-requires-clause-at : goal.turn-requires-clause-at
turn-requires-clause-at g c = send_place (at_work g (goal.at.turn-requires-clause-at g c).Else-self) c.index.ensures c.in-Send.is

pub returns-else-not-put-clause-fits : goal.returns-else-not-put-clause-fits
returns-else-not-put-clause-fits g c =
    let at = goal.at.returns-else-not-put-clause-fits g c in
    let turned = c.turn.ensures in
    send_fits (at_work g at.Else-self) (sends g at.After-link-link) c.index-place.ensures turned.rest turned.places c.next.ensures c.if-not-put.ensures

pub returns-else-not-put-clause-agrees : goal.returns-else-not-put-clause-agrees
returns-else-not-put-clause-agrees g c =
    let at = goal.at.returns-else-not-put-clause-agrees g c in
    let turned = c.turn.ensures in
    send_agrees (at_work g at.Else-self) (sends g at.After-link-link) c.index-place.ensures turned.rest turned.places c.next.ensures c.if-not-put.ensures

pub returns-else-not-put-clause-makes : goal.returns-else-not-put-clause-makes
returns-else-not-put-clause-makes g c =
    let at = goal.at.returns-else-not-put-clause-makes g c in
    let turned = c.turn.ensures in
    send_makes (at_work g at.Else-self) (sends g at.After-link-link) c.index-place.ensures turned.rest turned.places c.next.ensures c.if-not-put.ensures c.args.whole

-- ---- a take

pub take-requires : goal.take-requires
take-requires g c = take_expected (at_work g (goal.at.take-requires g c).Else-self) c.index.ensures c.in-Take.is

pub write-requires-in-Some-clause-slot : goal.write-requires-in-Some-clause-slot
write-requires-in-Some-clause-slot g c =
    take_slot (at_work g (goal.at.write-requires-in-Some-clause-slot g c).Else-self) c.index.ensures c.in-Take.is

pub returns-in-Some-clause-fits : goal.returns-in-Some-clause-fits
returns-in-Some-clause-fits g c =
    let works = at_work g (goal.at.returns-in-Some-clause-fits g c).Else-self in
    let wrote = c.write-in-Some.ensures in
    take_fits works c.index.ensures c.in-Take.is c.in-Some.ensures wrote.rest wrote.slots c.bit.ensures

pub returns-in-Some-clause-agrees : goal.returns-in-Some-clause-agrees
returns-in-Some-clause-agrees g c =
    let works = at_work g (goal.at.returns-in-Some-clause-agrees g c).Else-self in
    let wrote = c.write-in-Some.ensures in
    take_agrees works c.index.ensures c.in-Take.is c.in-Some.ensures wrote.rest wrote.slots c.bit.ensures

pub returns-in-Some-clause-makes : goal.returns-in-Some-clause-makes
returns-in-Some-clause-makes g c =
    let works = at_work g (goal.at.returns-in-Some-clause-makes g c).Else-self in
    let wrote = c.write-in-Some.ensures in
    take_makes works c.index.ensures c.in-Take.is c.in-Some.ensures wrote.rest wrote.slots c.bit.ensures c.args.whole

pub returns-in-None-clause-makes : goal.returns-in-None-clause-makes
returns-in-None-clause-makes g c =
    empty_makes (at_work g (goal.at.returns-in-None-clause-makes g c).Else-self) c.index.ensures c.in-Take.is c.args.whole c.in-None.ensures

-- ---- the end of a clock

pub end_clock-requires-clause-slots : goal.end_clock-requires-clause-slots
end_clock-requires-clause-slots g c = end_slots (at_work g (goal.at.end_clock-requires-clause-slots g c).Else-self)

pub returns-in-Step-clause-fits : goal.returns-in-Step-clause-fits
returns-in-Step-clause-fits g c =
    let works = at_work g (goal.at.returns-in-Step-clause-fits g c).Else-self in
    let ended = c.end_clock.ensures in
    end_fits works ended.rest ended.slots ended.next ended.rows c.index.ensures c.in-Step.is

pub returns-in-Step-clause-agrees : goal.returns-in-Step-clause-agrees
returns-in-Step-clause-agrees g c =
    let works = at_work g (goal.at.returns-in-Step-clause-agrees g c).Else-self in
    let ended = c.end_clock.ensures in
    end_agrees works ended.rest ended.slots ended.next ended.rows c.index.ensures c.in-Step.is

pub returns-in-Step-clause-makes : goal.returns-in-Step-clause-makes
returns-in-Step-clause-makes g c =
    let works = at_work g (goal.at.returns-in-Step-clause-makes g c).Else-self in
    let ended = c.end_clock.ensures in
    end_makes works ended.rest ended.slots ended.next ended.rows c.index.ensures c.in-Step.is c.args.whole
