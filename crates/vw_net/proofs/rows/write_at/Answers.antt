use Rattle.std.proofs.Common.{length, set, List, Bool, ap, sym, ◌∙◌, arith}
use Rattle.vw_net.specs.Cut.{cut}
use Rattle.vw_net.proofs.Cuts.{ends_at, length-part, cut_written}
use Rattle.vw_net.proofs.rows.write_at.Goals as goal

pub slice_bounds-copy_from_slice-count : goal.slice_bounds-copy_from_slice-count
slice_bounds-copy_from_slice-count c = omega (arith, c.start_of-start.ensures, ends_at 0 (length c.args.bits.now) c.args.ends.now c.args.row c.requires.ends c.requires.row)

pub slice_bounds-copy_from_slice-start : goal.slice_bounds-copy_from_slice-start
slice_bounds-copy_from_slice-start c = omega (arith, c.start_of-start.ensures, ends_at 0 (length c.args.bits.now) c.args.ends.now c.args.row c.requires.ends c.requires.row)

pub slice_bounds-copy_from_slice-end : goal.slice_bounds-copy_from_slice-end
slice_bounds-copy_from_slice-end c = omega (arith, c.start_of-start.ensures, ends_at 0 (length c.args.bits.now) c.args.ends.now c.args.row c.requires.ends c.requires.row)

pub copy_from_slice-requires : goal.copy_from_slice-requires
copy_from_slice-requires c = length-part c.args.ends.now c.args.bits.now c.args.row c.start_of-start.result c.requires.ends c.requires.row c.start_of-start.ensures ∙ sym c.requires.size

pub returns-clause-rows : goal.returns-clause-rows
returns-clause-rows c =
    cut_written c.args.ends.now c.args.bits.now c.copy_from_slice.new.self c.args.row c.start_of-start.result c.requires.ends c.requires.row
    (c.copy_from_slice.ensures.len ∙ length-part c.args.ends.now c.args.bits.now c.args.row c.start_of-start.result c.requires.ends c.requires.row c.start_of-start.ensures)
    c.start_of-start.ensures
    ∙ ap (λ (xs : List Bool). set (cut 0 c.args.ends.now c.args.bits.now) c.args.row xs) c.copy_from_slice.ensures.after
