use Rattle.std.proofs.Common.{◌<◌, ◌^◌, ◌∙◌, ℕ, All, ap, sym, subst, arith}
use Rattle.std.proofs.Math.Path.{fun_ext}
use Rattle.std.proofs.lemmas.List.Sorted.{All-permutation, IsNonDecreasingBy-from_sort}
use Rattle.vw_bound.specs.Given.{design_in}
use Rattle.vw_bound.specs.Steps.Rooms.{times_at}
use Rattle.vw_bound.proofs.NodeLinks.{some_pins}
use Rattle.vw_bound.proofs.RisingTimes.{least_at}
use Rattle.vw_bound.proofs.rooms.node_bound.Goals as goal

pub least_room-requires-clause-some : goal.least_room-requires-clause-some
least_room-requires-clause-some c = omega (arith, c.pins_into.ensures, some_pins c.args.placed.now.board.now c.args.node c.requires.node)

pub least_room-requires-clause-low : goal.least_room-requires-clause-low
least_room-requires-clause-low c =
    subst (All (λ (time : ℕ). time < 2 ^ 63)) (sym c.deref.ensures.value) (All-permutation (λ (time : ℕ). time < 2 ^ 63) c.in_ok-times.times.items c.sort.new.self.items c.in_ok-sort.ensures.permutation c.in_ok-times.ensures.low)

pub returns : goal.returns
returns c =
    let placed = design_in c.args.placed.now in
    let times = c.in_ok-times.ensures.times ∙ ap (λ (soon_of : ℕ → ℕ). times_at placed soon_of c.args.node c.args.needs.now) (fun_ext c.requires.table.times) ∙ ap (times_at placed _ c.args.node) c.requires.needs in
    least_at placed c.args.node c.in_ok-times.times.items c.sort.new.self.items c.least_room.result times c.in_ok-sort.ensures.permutation (IsNonDecreasingBy-from_sort (λ (time : ℕ). time) c.sort.new.self.items c.in_ok-sort.ensures.sorted) (rw (c.deref.ensures.value, c.pins_into.ensures) at c.least_room.ensures)
