use Rattle.std.proofs.Common.{◌≡◌, ◌<◌, ◌≤◌, ◌+◌, ◌∙◌, ◌++◌, ℕ, List, [], ◌∷◌, length, get_or, take, ap, sym, subst, arith, All}
use Rattle.std.proofs.lemmas.List.{length-take-le, take_all, take_more}
use Rattle.vw_net.specs.declared.cell.Cell.{Cell}
use Rattle.vw_net.specs.declared.flat.Flat.{Flat}
use Rattle.vw_part.specs.Steps.CellNets.{AreNetCells, AreNetsOf, AreCellNets}
use Rattle.vw_part.proofs.CellNets.{nets_long, nets_once, nets_push, nets_within}
use Rattle.vw_part.proofs.cell_nets.CellNets.of.Goals as goal

pub loop-number-preserved : goal.loop-number-preserved
loop-number-preserved c =
    let flat = c.args.flat.now in
    let number = c.loop-number.number in
    let cell = c.cell-item.result in
    let same : c.cells-cell-items.result.now ≡ flat.cells = c.cells-cell-items.ensures in
    let within : number < length flat.cells = omega (arith, ap (λ (l : List Cell). length l) same, c.loop-number-test.true) in
    let here : cell ≡ get_or flat.cells number cell = c.cell-item.is ∙ ap (λ (l : List Cell). get_or l number cell) same in
    let more : take (number + 1) flat.cells ≡ take number flat.cells ++ cell ∷ [] = take_more flat.cells number cell within ∙ ap (λ (x : Cell). take number flat.cells ++ x ∷ []) (sym here) in
    let place : c.inputs.result + number ≡ flat.inputs + length (take number flat.cells) = omega (arith, c.inputs.ensures, length-take-le number flat.cells (omega arith)) in
    let next : AreNetsOf (flat.inputs + length (take number flat.cells)) cell c.in_ok-nets.nets = subst (λ (own : ℕ). AreNetsOf own cell c.in_ok-nets.nets) place c.in_ok-nets.ensures in
    let pushed = nets_push flat.inputs (take number flat.cells) c.loop-number.of_cells.items cell c.in_ok-nets.nets c.loop-number.invariant next in
    subst (λ (l : List (List ℕ)). AreCellNets flat.inputs (take (number + 1) flat.cells) l) (sym c.in_ok-push.ensures.items) (subst (λ (l : List Cell). AreCellNets flat.inputs l (c.loop-number.of_cells.items ++ c.in_ok-nets.nets ∷ [])) (sym more) pushed)

-- when all cells are done
all_cells : (flat : Flat) (number : ℕ) (cell_nets : List (List ℕ)) → length flat.cells ≤ number → AreCellNets flat.inputs (take number flat.cells) cell_nets → AreCellNets flat.inputs flat.cells cell_nets
all_cells flat number cell_nets long so_far = subst (λ (l : List Cell). AreCellNets flat.inputs l cell_nets) (take_all number flat.cells long) so_far

all_within : (flat : Flat) (nets : ℕ) (cell_nets : List (List ℕ)) → nets ≡ flat.inputs + length flat.cells → AreCellNets flat.inputs flat.cells cell_nets → All (λ own. All (λ net. net < nets) own) cell_nets
all_within flat nets cell_nets same all = subst (λ (bound : ℕ). All (λ own. All (λ net. net < bound) own) cell_nets) (sym same) (nets_within flat.inputs (flat.inputs + length flat.cells) flat.cells cell_nets (omega arith) flat.cells_fit all)

pub of-requires-clause-few : goal.of-requires-clause-few
of-requires-clause-few c =
    let flat = c.args.flat.now in
    let long : length flat.cells ≤ c.loop-number.number = omega (arith, ap (λ (l : List Cell). length l) c.cells-cell-items.ensures, c.loop-number-test.false) in
    omega (arith, ap (λ (l : List (List ℕ)). length l) c.as_slice.ensures.value, nets_long flat.inputs flat.cells c.loop-number.of_cells.items (all_cells flat c.loop-number.number c.loop-number.of_cells.items long c.loop-number.invariant), flat.few_cells)

pub of-requires-clause-within : goal.of-requires-clause-within
of-requires-clause-within c =
    let flat = c.args.flat.now in
    let nets = c.inputs-2.result + length c.cells-2.result.now in
    let same : nets ≡ flat.inputs + length flat.cells = omega (arith, c.inputs-2.ensures, ap (λ (l : List Cell). length l) c.cells-2.ensures) in
    let long : length flat.cells ≤ c.loop-number.number = omega (arith, ap (λ (l : List Cell). length l) c.cells-cell-items.ensures, c.loop-number-test.false) in
    let within = all_within flat nets c.loop-number.of_cells.items same (all_cells flat c.loop-number.number c.loop-number.of_cells.items long c.loop-number.invariant) in
    subst (λ (cell_nets : List (List ℕ)). All (λ own. All (λ net. net < nets) own) cell_nets) (sym c.as_slice.ensures.value) within

pub invariant_of-result : goal.invariant_of-result
invariant_of-result c =
    let flat = c.args.flat.now in
    let cell_nets = c.loop-number.of_cells.items in
    let nets = c.inputs-2.result + length c.cells-2.result.now in
    let same : nets ≡ flat.inputs + length flat.cells = omega (arith, c.inputs-2.ensures, ap (λ (l : List Cell). length l) c.cells-2.ensures) in
    let long : length flat.cells ≤ c.loop-number.number = omega (arith, ap (λ (l : List Cell). length l) c.cells-cell-items.ensures, c.loop-number-test.false) in
    let all = all_cells flat c.loop-number.number cell_nets long c.loop-number.invariant in
    record {
      few_nets = omega (arith, same, flat.few_inputs, flat.few_cells);
      few_cells = omega (arith, nets_long flat.inputs flat.cells cell_nets all, flat.few_cells);
      within = all_within flat nets cell_nets same all;
      once = nets_once flat.inputs flat.cells cell_nets all;
      turned = subst (λ (lists : List (List ℕ)). AreNetCells lists nets c.in_ok-net_cells.net_cells.of_nets.items) c.as_slice.ensures.value c.in_ok-net_cells.ensures;
    }
