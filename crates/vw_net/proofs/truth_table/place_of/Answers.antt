use Rattle.std.proofs.Common.{◌≤◌, length, drop, arith}
use Rattle.std.proofs.lemmas.List.{length-drop}
use Rattle.vw_net.proofs.Places.{byte-le}
use Rattle.vw_net.proofs.TruthTables.{place_of-below}
use Rattle.vw_net.proofs.truth_table.place_of.Goals as goal

-- a place is below 64
pub overflow_mul-place : goal.overflow_mul-place
overflow_mul-place c =
    let bits = drop c.loop-i.i c.args.bits.now in
    let few : length bits ≤ 6 = omega (arith, length-drop c.loop-i.i c.args.bits.now) in
    omega (arith, place_of-below bits few)

pub overflow_add-place : goal.overflow_add-place
overflow_add-place c =
    let bits = drop c.loop-i.i c.args.bits.now in
    let few : length bits ≤ 6 = omega (arith, length-drop c.loop-i.i c.args.bits.now) in
    omega (arith, place_of-below bits few, byte-le)
