use Rattle.std.proofs.Common.{◌≡◌, drop, length, map}
use Rattle.vw_node.specs.Fits.{bit_at_slot}
use Rattle.vw_answer.specs.Latches.{with_latches}
use Rattle.vw_answer.proofs.rows.put_present.Given as goal

abbrev pub invariant-loop-i : goal.invariant-loop-i
invariant-loop-i l =
    (with_latches (drop l.i l.fn.node.code.now.numbers.items) (map (bit_at_slot l.fn.node.slots.items) (drop l.i l.fn.node.code.now.latches.items)) l.row
    ≡ with_latches l.fn.node.code.now.numbers.items (map (bit_at_slot l.fn.node.slots.items) l.fn.node.code.now.latches.items) l.fn.row)
    × (length l.row ≡ length l.fn.row)
