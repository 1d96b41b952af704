use Rattle.std.proofs.Common.{ℕ, length, arith, refl, sym, ◌∙◌, subst}
use Rattle.std.proofs.lemmas.Result.{err_from_is_err_and}
use Rattle.vw_files.specs.Ready.{by_of}
use Rattle.vw_files.specs.Watched.{shown_words}
use Rattle.vw_course.specs.Goes.{GoesOver, MovedFrom}
use Rattle.vw_courses.specs.Messages.{vocabulary}
use Rattle.vw_courses.specs.Commands.{board_course, netlist_trace_until}
use Rattle.vw_courses.proofs.FlatTraces.{probes_fit}
use Rattle.vw_top.proofs.WorkedRows.{shown_fit}
use Rattle.vw_files.proofs.ReadyLaws.{goes_unready, goes_ready}
use Rattle.vw_top.proofs.run.run_by_several.Goals as goal

pub returns-in_err-checked-clause-goes : goal.returns-in_err-checked-clause-goes
returns-in_err-checked-clause-goes g c =
    let p = err_from_is_err_and c.from_residual.result c.from_residual.ensures.1 in
    let links = g.F.Fabric.carried c.args.floor.now.fabric.now in
    rw (p.1, p.2)
    (goes_unready g.S.Shelf.seen g.O.Sink.seen (MovedFrom links links) c.args.files.now.probes.nets.now (board_course c.args.stimulus.now (netlist_trace_until c.args.files.now.probes.until (length (shown_words c.args.files.now.probes.until c.args.files.now.probes.nets.now)) c.args.unknown) c.args.files.now.probes.until c.args.floor.now.workers c.args.unknown) c.args.files.now.design.now c.args.files.now.board.now (by_of c.args.files.now.plan) c.args.outside.now _ (record { shelf = refl; out = refl }) refl
    (λ before after moved. moved.1 ∙ sym moved.0) c.in_err-checked.field-0.0 c.in_err-checked.ensures)

-- the probes are among the outputs
pub run_checked_together-requires-clause-probes : goal.run_checked_together-requires-clause-probes
run_checked_together-requires-clause-probes g c =
    let ready = c.in_ok-checked.ensures.1 in
    let probes = c.args.files.now.probes in
    omega (arith, probes.few, c.count-shown.ensures, shown_fit probes.until probes.nets.now (length c.in_ok-checked.checked.ordered.flat.outputs) probes.some (probes_fit probes.nets.now ready.d c.in_ok-checked.checked.ordered ready.on.netlist))

pub returns-clause-goes : goal.returns-clause-goes
returns-clause-goes g c =
    let mid = record c.args.outside.now { shelf = record c.args.outside.now.shelf { now = c.ready_board.new.shelf } } in
    let Moved = MovedFrom (g.F.Fabric.carried c.args.floor.now.fabric.now) (g.F.Fabric.carried c.run_checked_together.new.floor.fabric.now) in
    goes_ready g.S.Shelf.seen g.O.Sink.seen Moved c.args.files.now.probes.nets.now (board_course c.args.stimulus.now (netlist_trace_until c.args.files.now.probes.until (length (shown_words c.args.files.now.probes.until c.args.files.now.probes.nets.now)) c.args.unknown) c.args.files.now.probes.until c.args.floor.now.workers c.args.unknown) c.args.files.now.design.now c.args.files.now.board.now (by_of c.args.files.now.plan) c.args.outside.now mid (record { shelf = refl; out = refl }) refl
    c.in_ok-checked.checked _ c.run_checked_together.result c.in_ok-checked.ensures
    (subst (λ (count : ℕ). GoesOver g.S.Shelf.seen g.O.Sink.seen vocabulary Moved (board_course c.args.stimulus.now (netlist_trace_until c.args.files.now.probes.until count c.args.unknown) c.args.files.now.probes.until c.args.floor.now.workers c.args.unknown c.in_ok-checked.checked.ordered c.in_ok-checked.checked.board c.in_ok-checked.checked.plan) mid c.run_checked_together.new.outside c.run_checked_together.result)
    c.count-shown.ensures c.run_checked_together.ensures.goes)
