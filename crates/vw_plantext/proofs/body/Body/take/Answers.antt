use Rattle.std.proofs.Common.{◌≡◌, ◌≤◌, ◌-◌, ◌==◌, ℕ, List, Some, None, Option, false, ap, sym, subst, arith}
use Rattle.std.specs.Prelude.{option_map}
use Rattle.std.proofs.lemmas.Bool.{eqb-false}
use Rattle.vw_plan.specs.declared.wire.Hop.{Hop}
use Rattle.vw_plantext.specs.Steps.Bodies.{UnfinishedWire, part_of, body_state, is_complete_but, HasSomeLeft, TakesPlanLine}
use Rattle.vw_plantext.proofs.HopAndWireLines.{refuses_hop, takes_hop, refuses_wire, takes_wire}
use Rattle.vw_plantext.proofs.body.Body.take.Goals as goal

-- where wires are left between two wires, there is one
some_wires : (part : Option UnfinishedWire) (left : ℕ) → part ≡ None → is_complete_but part left ≡ false → 1 ≤ left
some_wires part left is incomplete =
    let some : (left == 0) ≡ false = subst (λ (p : Option UnfinishedWire). is_complete_but p left ≡ false) is incomplete in
    let none = eqb-false left 0 some in
    omega arith

pub returns-in_default : goal.returns-in_default
returns-in_default c =
    let is : option_map part_of c.args.self.wire ≡ Some (part_of c.in-Some.wire) = ap (option_map part_of) c.in-Some.is in
    let some : HasSomeLeft (Some (part_of c.in-Some.wire)) = subst HasSomeLeft is c.requires.some_left in
    let none = rw c.in_default.is at c.in_ok-hop-in-Some.ensures in
    refuses_hop (body_state c.args.self) c.requires.fits (part_of c.in-Some.wire) is c.args.line.now some none

pub returns-in_default-2 : goal.returns-in_default-2
returns-in_default-2 c =
    let is : option_map part_of c.args.self.wire ≡ None = ap (option_map part_of) c.in-None.is in
    let none = rw c.in_default-2.is at c.in_ok-wire-in-None.ensures in
    refuses_wire (body_state c.args.self) c.requires.fits is c.args.line.now (some_wires (option_map part_of c.args.self.wire) c.args.self.left is c.requires.incomplete) none

pub returns-in_ok-with_hop-in-Some : goal.returns-in_ok-with_hop-in-Some
returns-in_ok-with_hop-in-Some c =
    let state = body_state c.args.self in
    let is : option_map part_of c.args.self.wire ≡ Some (part_of c.in-Some.wire) = ap (option_map part_of) c.in-Some.is in
    let some : HasSomeLeft (Some (part_of c.in-Some.wire)) = subst HasSomeLeft is c.requires.some_left in
    let hop = rw c.in-Some-2.is at c.in_ok-hop-in-Some.ensures in
    let takes = takes_hop state c.requires.fits (part_of c.in-Some.wire) is c.args.line.now c.in-Some-2.hop some hop in
    subst (λ (made : UnfinishedWire). TakesPlanLine state c.args.line.now (record { chip_of = state.chip_of; period = state.period; wires = state.wires; part = Some made; left = state.left; room = state.room })) (sym c.in_ok-with_hop-in-Some.ensures) takes

pub returns-in-Some-3 : goal.returns-in-Some-3
returns-in-Some-3 c =
    let state = body_state c.args.self in
    let wire = c.in-Some-3.wire in
    let is : option_map part_of c.args.self.wire ≡ None = ap (option_map part_of) c.in-None.is in
    let head = rw c.in-Some-3.is at c.in_ok-wire-in-None.ensures in
    let takes = takes_wire state c.requires.fits is c.args.line.now wire.net wire.to wire.left (some_wires (option_map part_of c.args.self.wire) c.args.self.left is c.requires.incomplete) head.is head.net head.to head.few in
    subst (λ (hops : List Hop). TakesPlanLine state c.args.line.now (record { chip_of = state.chip_of; period = state.period; wires = state.wires; part = Some (record { net = wire.net; to = wire.to; hops = hops; left = wire.left }); left = state.left - 1; room = state.room - wire.left })) (sym head.none) takes
