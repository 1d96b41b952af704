use Rattle.std.proofs.Common.{◌+◌, ◌∙◌, ℕ, List, Some, length, map, slice_index, ap, refl, sym}
use Rattle.std.proofs.lemmas.Option.{slice_get_past, slice_get_read}
use Rattle.std.specs.List.{slice_get}
use Rattle.vw_net.specs.Lists.{greatest}
use Rattle.vw_net.specs.declared.cell.Cell.{Cell}
use Rattle.vw_plan.specs.Needs.{crossing}
use Rattle.vw_plan.specs.Nets.{greatest_read}
use Rattle.vw_wires.proofs.table.depth_of_cell.Goals as goal

pub returns-in-Some-Gate : goal.returns-in-Some-Gate
returns-in-Some-Gate c =
    let depth_there = λ (read : ℕ). slice_index c.args.table.now read + crossing c.args.flat.now c.args.chip_of.now c.args.net read in
    let cells = c.cells.result.now in
    let found = c.in-Some-Gate.ensures.lookup in
    let is = slice_get_read cells (length cells) c.args.number c.in-Some-Gate.field-0.now refl found.3.0 found.1 ∙ ap Some c.in-Some-Gate.field-0-is in
    c.deepest.ensures
    ∙ ap (λ (nets : List ℕ). greatest (map depth_there nets)) c.as_slice.ensures
    ∙ sym (ap (greatest_read depth_there) is)
    ∙ ap (λ (list : List Cell). greatest_read depth_there (slice_get list c.args.number)) c.cells.ensures

pub returns-in-Some-Latch : goal.returns-in-Some-Latch
returns-in-Some-Latch c =
    let depth_there = λ (read : ℕ). slice_index c.args.table.now read + crossing c.args.flat.now c.args.chip_of.now c.args.net read in
    let cells = c.cells.result.now in
    let found = c.in-Some-Latch.ensures.lookup in
    let is = slice_get_read cells (length cells) c.args.number c.in-Some-Latch.field-0.now refl found.3.0 found.1 ∙ ap Some c.in-Some-Latch.field-0-is in
    sym (ap (greatest_read depth_there) is) ∙ ap (λ (list : List Cell). greatest_read depth_there (slice_get list c.args.number)) c.cells.ensures

pub returns-in-None : goal.returns-in-None
returns-in-None c =
    let depth_there = λ (read : ℕ). slice_index c.args.table.now read + crossing c.args.flat.now c.args.chip_of.now c.args.net read in
    let none = slice_get_past c.cells.result.now c.args.number c.in-None.ensures.lookup.3 in
    sym (ap (greatest_read depth_there) none) ∙ ap (λ (list : List Cell). greatest_read depth_there (slice_get list c.args.number)) c.cells.ensures
