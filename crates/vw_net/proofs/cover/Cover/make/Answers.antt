use Rattle.std.proofs.Common.{◌≡◌, ◌<◌, ◌^◌, List, length, map, ap, sym, subst, ◌∙◌, All}
use Rattle.vw_net.specs.declared.cover.Row.{Row}
use Rattle.vw_net.specs.declared.masks.Masks.{Masks}
use Rattle.vw_net.specs.Steps.Masks.{masks_of, rows_of}
use Rattle.vw_net.specs.Steps.MatchedPlaces.{truth_table_of}
use Rattle.vw_net.proofs.RowMasks.{masks_within, rows_kept}
use Rattle.vw_net.proofs.cover.Cover.make.Goals.{In_ok-masks}
use Rattle.vw_net.proofs.cover.Cover.make.Goals as goal

-- the masks are those of the rows, so they are kept for these rows
masks_are : (c : In_ok-masks) → c.in_ok-masks.masks.items ≡ map (λ (row : Row). masks_of row.marks) c.args.rows
masks_are c = c.in_ok-masks.ensures ∙ ap (map (λ (row : Row). masks_of row.marks)) c.as_slice-2.ensures

rows_are : (c : In_ok-masks) → rows_of c.args.inputs c.in_ok-masks.masks.items ≡ c.args.rows
rows_are c = ap (rows_of c.args.inputs) (masks_are c) ∙ rows_kept c.args.inputs c.args.rows c.requires.even

pub invariant_of-result : goal.invariant_of-result
invariant_of-result c =
    let at = (goal.at.invariant_of-result c).In_ok-masks in
    let inputs = c.args.inputs in
    let rows = rows_are at in
    let even = subst (λ (list : List Row). All (λ (row : Row). length row.marks ≡ inputs) list) (sym rows) c.requires.even in
    let within = subst (λ (list : List Masks). All (λ (masks : Masks). masks.looked < 2 ^ inputs) list) (sym (masks_are at)) (masks_within inputs c.args.rows c.requires.even) in
    let table = c.truth_table_of-truth_table.ensures ∙ ap (truth_table_of inputs c.args.on) (c.as_slice.ensures ∙ sym rows) in
    (c.requires.narrow, (even, (within, (table, tt))))

pub returns-clause-rows : goal.returns-clause-rows
returns-clause-rows c = rows_are ((goal.at.returns-clause-rows c).In_ok-masks)
