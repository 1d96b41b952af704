use Rattle.std.proofs.Common.{◌≤◌, length, drop, arith}
use Rattle.std.proofs.lemmas.List.{length-drop}
use Rattle.vw_net.proofs.Places.{byte-le, place_of-wide}
use Rattle.vw_net.proofs.masks.number_of.Goals as goal

-- a place of at most 128 values is below the 128th power of 2
pub overflow_mul-number : goal.overflow_mul-number
overflow_mul-number c =
    let bits = drop c.loop-i.i c.args.bits.now in
    let few : length bits ≤ 127 = omega (arith, length-drop c.loop-i.i c.args.bits.now) in
    omega (arith, place_of-wide bits few)

pub overflow_add-number : goal.overflow_add-number
overflow_add-number c =
    let bits = drop c.loop-i.i c.args.bits.now in
    let few : length bits ≤ 127 = omega (arith, length-drop c.loop-i.i c.args.bits.now) in
    omega (arith, place_of-wide bits few, byte-le)
