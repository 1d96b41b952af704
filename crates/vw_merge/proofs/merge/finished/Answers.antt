use Rattle.std.proofs.Common.{◌∙◌, ◌++◌, ℕ, List, Option, map, ap, subst, sym}
use Rattle.vw_net.specs.declared.cell.Cell.{Cell}
use Rattle.vw_net.specs.declared.flat.Flat.{Flat}
use Rattle.vw_merge.specs.Merging.{AreLatchesOf, SameThere}
use Rattle.vw_merge.proofs.SameHistories.{does_the_same}
use Rattle.vw_merge.proofs.merge.finished.Goals as goal

-- its cells are the latches and then the tables
pub returns-in-Ok : goal.returns-in-Ok
returns-in-Ok c =
    let to = c.args.merging.to.items in
    let latches = c.in-Some.cells.items in
    let made = c.in-Ok.ensures.ordered in
    let its = c.in-Some-made.ensures in
    let are : AreLatchesOf c.cells.result.now c.deref.result.now latches = rw c.in-Some.is at c.in_ok-cells.ensures in
    does_the_same c.args.flat.now c.in-Ok.ordered latches c.args.merging.gates.items to c.in-Some-2.outputs.items
    (ap (λ (flat : Flat). flat.inputs) made ∙ its.inputs ∙ c.inputs.ensures)
    (ap (λ (flat : Flat). flat.cells) made ∙ its.cells ∙ c.of.ensures ∙ c.in_ok-append.ensures ∙ ap (λ v. latches ++ v.items) c.into_gates.ensures)
    (ap (λ (flat : Flat). flat.outputs) made ∙ its.outputs ∙ c.of-2.ensures)
    c.requires.gates c.requires.carries
    (subst (λ (nets : List (Option ℕ)). AreLatchesOf c.args.flat.now.cells nets latches) c.deref.ensures.value (subst (λ (cells : List Cell). AreLatchesOf cells c.deref.result.now latches) c.cells.ensures are))
    (λ value other there. (rw c.in-Some-2.is at (c.in_ok-outputs.ensures value other (subst (λ (nets : List (Option ℕ)). SameThere nets value other) (sym c.deref-2.ensures.value) there))) ∙ ap (λ (nets : List ℕ). map other nets) c.outputs.ensures)
    (c.gates_settle.ensures c.in-Ok.ordered)
