use Rattle.std.proofs.Common.{◌≡◌, ◌<◌, true, refl, arith}
use Rattle.std.proofs.lemmas.Bool.{lt-ltb}
use Rattle.std.specs.Prelude.{nat_lt}
use Rattle.vw_order.proofs.read.gate_of.Goals as goal

pub returns-then-net-inputs : goal.returns-then-net-inputs
returns-then-net-inputs c =
    let within : c.args.net < c.args.flat.now.inputs = omega (arith, c.if-net-inputs.true, c.inputs.ensures) in
    let test : nat_lt c.args.net c.args.flat.now.inputs ≡ true = lt-ltb c.args.net c.args.flat.now.inputs within in
    rw test refl
