use Rattle.std.proofs.Common.{◌≤◌, length, drop, map, arith}
use Rattle.std.proofs.lemmas.List.{length-drop, length-map}
use Rattle.vw_net.specs.Steps.Masks.{is_looked, is_wanted}
use Rattle.vw_net.proofs.Places.{byte-le, place_of-wide}
use Rattle.vw_net.proofs.masks.Masks.of.Goals as goal

-- the number of at most 127 bits is below the 127th power of 2
pub overflow_mul-looked : goal.overflow_mul-looked
overflow_mul-looked c =
    let marks = drop c.loop-i.i c.args.marks.now in
    let few : length (map is_looked marks) ≤ 127 = omega (arith, length-map marks is_looked, length-drop c.loop-i.i c.args.marks.now) in
    omega (arith, place_of-wide (map is_looked marks) few)

pub overflow_add-looked : goal.overflow_add-looked
overflow_add-looked c =
    let marks = drop c.loop-i.i c.args.marks.now in
    let few : length (map is_looked marks) ≤ 127 = omega (arith, length-map marks is_looked, length-drop c.loop-i.i c.args.marks.now) in
    omega (arith, place_of-wide (map is_looked marks) few, byte-le)

pub overflow_mul-wanted : goal.overflow_mul-wanted
overflow_mul-wanted c =
    let marks = drop c.loop-i.i c.args.marks.now in
    let few : length (map is_wanted marks) ≤ 127 = omega (arith, length-map marks is_wanted, length-drop c.loop-i.i c.args.marks.now) in
    omega (arith, place_of-wide (map is_wanted marks) few)

pub overflow_add-wanted : goal.overflow_add-wanted
overflow_add-wanted c =
    let marks = drop c.loop-i.i c.args.marks.now in
    let few : length (map is_wanted marks) ≤ 127 = omega (arith, length-map marks is_wanted, length-drop c.loop-i.i c.args.marks.now) in
    omega (arith, place_of-wide (map is_wanted marks) few, byte-le)
