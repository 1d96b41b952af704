use Rattle.std.proofs.Common.{◌≡◌, ◌<◌, ◌+◌, [], ◌∙◌, ℕ, suc, List, length, map, get_or, ap, subst, arith}
use Rattle.std.specs.Global.{Vec}
use Rattle.std.proofs.lemmas.Option.{slice_get_within}
use Rattle.vw_net.specs.declared.cell.Cell.{Cell}
use Rattle.vw_net.specs.declared.flat.Flat.{Flat}
use Rattle.vw_net.specs.declared.ordered.Ordered.{Ordered}
use Rattle.vw_plan.specs.PlannedBoard.{planned_board}
use Rattle.vw_prog.specs.declared.entry.Entry.{Entry}
use Rattle.vw_prog.specs.declared.owners.OwnLatch.{OwnLatch}
use Rattle.vw_prog.specs.Coding.{IsCodeOf, own_latch, owned_of}
use Rattle.vw_prog.specs.Due.{own_latches}
use Rattle.vw_prog.specs.Steps.{lists_of}
use Rattle.vw_prog.specs.Timetable.{entries_at, timetable}
use Rattle.vw_prog.proofs.CodesStand.{stands}
use Rattle.vw_prog.proofs.codes.codes_of.Goals as goal

pub returns-clause-each : goal.returns-clause-each
returns-clause-each c node code at =
    let checked = c.args.checked.now in
    let planned = planned_board checked.ordered checked.board checked.plan in
    let flat : c.flat-flat.result.now ≡ checked.ordered.flat = c.flat-flat.ensures ∙ ap (λ (ordered : Ordered). ordered.flat) c.ordered.ensures in
    let low : node < suc checked.board.chips = omega (arith, slice_get_within c.in_ok-codes.codes.items node code at, c.in_ok-codes.ensures.count, c.requires.count) in
    let own : get_or (owned_of c.deref.result.now) node [] ≡ map (own_latch checked.ordered.flat) (own_latches planned node) = ap (λ (lists : List (Vec OwnLatch)). get_or (owned_of lists) node []) c.deref.ensures.value ∙ c.in_ok-owned.ensures.each node low in
    let count : length c.deref_mut.result.now ≡ checked.ordered.flat.inputs + length checked.ordered.flat.cells = omega (arith, c.deref_mut.ensures.len, c.in_ok-table.ensures.len, c.in_ok-table.table.ok, c.inputs.ensures, ap (λ (list : List Cell). length list) c.cells.ensures, ap (λ (one : Flat). one.inputs) flat, ap (λ (one : Flat). length one.cells) flat) in
    let made = c.in_ok-codes.ensures.each node code at in
    let here : IsCodeOf checked.ordered.flat node (map (own_latch checked.ordered.flat) (own_latches planned node)) (entries_at node (timetable planned)) (checked.ordered.flat.inputs + length checked.ordered.flat.cells) code =
    subst (λ (one : Flat). IsCodeOf one node (map (own_latch checked.ordered.flat) (own_latches planned node)) (entries_at node (timetable planned)) (checked.ordered.flat.inputs + length checked.ordered.flat.cells) code) flat
    (subst (λ (latches : List OwnLatch). IsCodeOf c.flat-flat.result.now node latches (entries_at node (timetable planned)) (checked.ordered.flat.inputs + length checked.ordered.flat.cells) code) own
    (subst (λ (list : List Entry). IsCodeOf c.flat-flat.result.now node (get_or (owned_of c.deref.result.now) node []) list (checked.ordered.flat.inputs + length checked.ordered.flat.cells) code) (c.requires.each node low)
    (subst (λ (many : ℕ). IsCodeOf c.flat-flat.result.now node (get_or (owned_of c.deref.result.now) node []) (get_or (lists_of c.args.lists.now) node []) many code) count made))) in
    stands planned checked.sound node code here
