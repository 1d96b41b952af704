use Rattle.std.proofs.Common.{length, set, List, Bool, ap, sym, ◌∙◌, arith}
use Rattle.vw_net.specs.Cut.{cut}
use Rattle.vw_net.proofs.Cuts.{ends_at, length-part, cut_written}
use Rattle.vw_net.proofs.rows.pick_at.Goals as goal

pub slice_bounds-pick_bits-count : goal.slice_bounds-pick_bits-count
slice_bounds-pick_bits-count c = omega (arith, c.start_of-start.ensures, ends_at 0 (length c.args.bits.now) c.args.ends.now c.args.row c.requires.ends c.requires.row)

pub slice_bounds-pick_bits-start : goal.slice_bounds-pick_bits-start
slice_bounds-pick_bits-start c = omega (arith, c.start_of-start.ensures, ends_at 0 (length c.args.bits.now) c.args.ends.now c.args.row c.requires.ends c.requires.row)

pub slice_bounds-pick_bits-end : goal.slice_bounds-pick_bits-end
slice_bounds-pick_bits-end c = omega (arith, c.start_of-start.ensures, ends_at 0 (length c.args.bits.now) c.args.ends.now c.args.row c.requires.ends c.requires.row)

pub pick_bits-requires-clause-size : goal.pick_bits-requires-clause-size
pick_bits-requires-clause-size c = length-part c.args.ends.now c.args.bits.now c.args.row c.start_of-start.result c.requires.ends c.requires.row c.start_of-start.ensures ∙ sym c.requires.size

pub returns-clause-rows : goal.returns-clause-rows
returns-clause-rows c =
    cut_written c.args.ends.now c.args.bits.now c.pick_bits.new.to c.args.row c.start_of-start.result c.requires.ends c.requires.row
    (c.pick_bits.ensures.length ∙ length-part c.args.ends.now c.args.bits.now c.args.row c.start_of-start.result c.requires.ends c.requires.row c.start_of-start.ensures)
    c.start_of-start.ensures
    ∙ ap (λ (xs : List Bool). set (cut 0 c.args.ends.now c.args.bits.now) c.args.row xs) c.pick_bits.ensures.bits
