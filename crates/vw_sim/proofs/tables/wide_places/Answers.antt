use Rattle.std.proofs.Common.{◌≡◌, ◌<◌, ◌∙◌, ℕ, true, false, List, length, get_or, slice_get, nat_le, Option, Some, ap, ap₂, sym, refl, arith}
use Rattle.std.proofs.lemmas.Bool.{le-leb, lt-leb}
use Rattle.std.proofs.lemmas.List.{get_or_default}
use Rattle.vw_net.specs.declared.cell.Cell.{Cell}
use Rattle.vw_net.specs.Order.{gate_inputs}
use Rattle.vw_net.proofs.GatheredLists.{one_gathered, none_gathered}
use Rattle.vw_net.proofs.ReadyNets.{order_cell, order_within}
use Rattle.vw_sim.specs.Steps.Tables.{wide_places}
use Rattle.vw_sim.proofs.tables.wide_places.Goals as goal
use Rattle.vw_sim.proofs.tables.wide_places.Goals.{then-width-room+in_ok-push, else-width-room}

-- the number of a gate is below the number of cells
pub bounds-cells-number : goal.bounds-cells-number
bounds-cells-number c =
    let ordered = c.args.ordered.now in
    let place = c.loop-place.place in
    let within : place < length ordered.order = omega (arith, ap length c.order-number-items.ensures) in
    let number : get_or c.order-number-items.result.now place 0 ≡ get_or ordered.order place 0 = cc in
    let cells : length c.cells-cells.result.now ≡ length ordered.flat.cells = cc in
    omega (arith, order_within ordered.is_order place within)

-- a gate that reads more nets has its place listed
pub loop-place-preserved : goal.loop-place-preserved
loop-place-preserved c =
    let ordered = c.args.ordered.now in
    let cells = c.cells-cells.result.now in
    let order = c.order-number-items.result.now in
    let place = c.loop-place.place in
    let room = c.args.room in
    let listed : ℕ → List ℕ → List ℕ = λ at left. wide_places room cells at left in
    let places = c.loop-place.places.items in
    let whole = wide_places room cells 0 order in
    let within : place < length ordered.order = omega (arith, ap length c.order-number-items.ensures) in
    let number : get_or order place 0 ≡ get_or ordered.order place 0 = cc in
    let same : cells ≡ ordered.flat.cells = cc in
    let here = order_cell ordered.is_order place _ _ _ within c.order-number-items.ensures same c.index-cells-number.is in
    let there : slice_get cells (get_or order place 0) ≡ Some c.index-cells-number.result = ap₂ slice_get same number ∙ here in
    let width : length (gate_inputs (slice_get cells (get_or order place 0))) ≡ c.width.result = ap (λ (cell : Option Cell). length (gate_inputs cell)) there ∙ sym c.width.ensures in
    let item = get_or_default order place 0 (get_or order place 0) c.loop-place-test.true in
    elim c.if-width-room.branch [
      | then-width-room+in_ok-push w ↦
          let wide : nat_le (length (gate_inputs (slice_get cells (get_or order place 0)))) room ≡ false = lt-leb _ room (omega (arith, width, w.if-width-room.true)) in
          one_gathered listed order place (get_or order place 0) places whole c.loop-place-test.true item c.loop-place.invariant c.if-width-room.places.items place (rw wide refl) (ap (λ v. v.items) w.places-is ∙ w.in_ok-push.ensures.items)
      | else-width-room w ↦
          let narrow : nat_le (length (gate_inputs (slice_get cells (get_or order place 0)))) room ≡ true = le-leb _ room (omega (arith, width, w.if-width-room.false)) in
          none_gathered listed order place (get_or order place 0) places whole c.loop-place-test.true item c.loop-place.invariant c.if-width-room.places.items (rw narrow refl) (ap (λ v. v.items) w.places-is)
    ]
