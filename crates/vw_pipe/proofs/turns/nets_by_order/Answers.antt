use Rattle.std.proofs.Common.{◌≡◌, ◌<◌, ◌≤◌, ◌+◌, ◌∙◌, ℕ, get_or, length, ap, ap₂, refl, arith}
use Rattle.vw_net.specs.declared.flat.Flat.{Flat}
use Rattle.vw_net.proofs.ReadyNets.{order_within}
use Rattle.vw_pipe.proofs.TurnsKept.{HasTurns, none_turned, one_turned, turns_kept}
use Rattle.vw_pipe.proofs.turns.nets_by_order.Goals as goal

-- before any gate all turns are 0
pub loop-place-init : goal.loop-place-init
loop-place-init c =
    let ordered = c.args.given.now.ordered.now in
    let inputs : c.inputs-inputs.result ≡ ordered.flat.inputs = c.inputs-inputs.ensures ∙ ap (λ (flat : Flat). flat.inputs) c.flat.ensures in
    let cells : length c.cells.result.now ≡ length ordered.flat.cells = ap length (c.cells.ensures ∙ ap (λ (flat : Flat). flat.cells) c.flat-2.ensures) in
    let nets = c.inputs-inputs.result + length c.cells.result.now in
    let zeros = c.in_ok-turns.ensures.items_if_clones_equal (λ y same. same) in
    none_turned ordered c.in_ok-turns.turns.items nets zeros (ap₂ (λ (first second : ℕ). first + second) inputs cells)

-- the list has a place for the gate's net
pub index_mut-requires : goal.index_mut-requires
index_mut-requires c =
    let ordered = c.args.given.now.ordered.now in
    let place = c.loop-place.place in
    let within : place < length ordered.order = omega (arith, ap length c.order-number-items.ensures, c.loop-place-test.true) in
    let number : get_or c.order-number-items.result.now place 0 ≡ get_or ordered.order place 0 = cc in
    let inputs : c.inputs-inputs.result ≡ ordered.flat.inputs = c.inputs-inputs.ensures ∙ ap (λ (flat : Flat). flat.inputs) c.flat.ensures in
    omega (arith, order_within ordered.is_order place within, c.loop-place.invariant.long, inputs, number)

pub loop-place-preserved : goal.loop-place-preserved
loop-place-preserved c =
    let ordered = c.args.given.now.ordered.now in
    let place = c.loop-place.place in
    let within : place < length ordered.order = omega (arith, ap length c.order-number-items.ensures, c.loop-place-test.true) in
    let number : get_or c.order-number-items.result.now place 0 ≡ get_or ordered.order place 0 = cc in
    let inputs : c.inputs-inputs.result ≡ ordered.flat.inputs = c.inputs-inputs.ensures ∙ ap (λ (flat : Flat). flat.inputs) c.flat.ensures in
    let net = ap₂ (λ (first second : ℕ). first + second) inputs number in
    one_turned ordered place c.loop-place.turns.items _ (place + 1) within net refl c.loop-place.invariant

-- in the end each gate comes behind what it reads
pub returns : goal.returns
returns c =
    let ordered = c.args.given.now.ordered.now in
    let place = c.loop-place.place in
    let whole : length ordered.order ≤ place = omega (arith, ap length c.order-number-items.ensures) in
    let has = c.loop-place.invariant in
    let kept : HasTurns ordered (length ordered.order) c.loop-place.turns.items = record {
      long = has.long;
      gates = λ at before within. has.gates at (omega (arith, before, whole)) within;
      others = has.others;
    } in
    turns_kept ordered c.loop-place.turns.items kept
