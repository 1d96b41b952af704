use Rattle.std.proofs.Common.{◌≡◌, ◌++◌, ◌∷◌, [], Some, ap, ◌∙◌}
use Rattle.std.specs.Prelude.{option_map}
use Rattle.vw_plan.specs.declared.wire.Wire.{Wire}
use Rattle.vw_plantext.specs.Steps.Bodies.{part_of, body_state}
use Rattle.vw_plantext.proofs.HopAndWireLines.{closes_full, wire_of_parts}
use Rattle.vw_plantext.proofs.body.Body.closed.Goals as goal

pub returns-in_ok-push-in-Some : goal.returns-in_ok-push-in-Some
returns-in_ok-push-in-Some c =
    let wire = c.in-Some.wire in
    let is : option_map part_of c.args.self.wire ≡ Some (part_of wire) = ap (option_map part_of) c.in-Some.is in
    let made : c.make.result ≡ record { net = wire.net; to = wire.to; hops = wire.hops.items } = wire_of_parts c.make.result wire.net wire.to wire.hops.items c.make.ensures.net c.make.ensures.to (c.make.ensures.hops ∙ c.of.ensures) in
    let wires : c.push.new.self.items ≡ c.args.self.wires.items ++ record { net = wire.net; to = wire.to; hops = wire.hops.items } ∷ [] = c.in_ok-push-in-Some.ensures.items ∙ ap (λ (w : Wire). c.args.self.wires.items ++ w ∷ []) made in
    rw wires (closes_full (body_state c.args.self) c.requires (part_of wire) is c.if-wire-eq0.true)
