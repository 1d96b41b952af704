use Rattle.std.proofs.Common.{ℕ, length, arith, refl, subst}
use Rattle.std.proofs.lemmas.Result.{err_from_is_err_and}
use Rattle.vw_files.specs.Ready.{by_of}
use Rattle.vw_files.specs.Watched.{shown_words}
use Rattle.vw_course.specs.Goes.{Goes, Unmoved}
use Rattle.vw_course.proofs.GoesLaws.{unmoved_still}
use Rattle.vw_courses.specs.Messages.{vocabulary}
use Rattle.vw_courses.specs.Commands.{board_course, netlist_trace_until}
use Rattle.vw_courses.proofs.FlatTraces.{probes_fit}
use Rattle.vw_top.proofs.WorkedRows.{shown_fit}
use Rattle.vw_files.proofs.ReadyLaws.{goes_unready, goes_ready}
use Rattle.vw_top.proofs.run.run_by_one.Goals as goal

pub returns-in_err-checked : goal.returns-in_err-checked
returns-in_err-checked g c = λ workers few.
    let p = err_from_is_err_and c.from_residual.result c.from_residual.ensures.1 in
    rw (p.1, p.2)
    (goes_unready g.S.Shelf.seen g.O.Sink.seen Unmoved c.args.files.now.probes.nets.now (board_course c.args.stimulus.now (netlist_trace_until c.args.files.now.probes.until (length (shown_words c.args.files.now.probes.until c.args.files.now.probes.nets.now)) c.args.unknown) c.args.files.now.probes.until workers c.args.unknown) c.args.files.now.design.now c.args.files.now.board.now (by_of c.args.files.now.plan) c.args.outside.now _ (record { shelf = refl; out = refl }) refl
    (unmoved_still vocabulary) c.in_err-checked.field-0.0 c.in_err-checked.ensures)

-- the probes are among the outputs
pub run_checked-requires : goal.run_checked-requires
run_checked-requires g c =
    let ready = c.in_ok-checked.ensures.1 in
    let probes = c.args.files.now.probes in
    omega (arith, probes.few, c.count-shown.ensures, shown_fit probes.until probes.nets.now (length c.in_ok-checked.checked.ordered.flat.outputs) probes.some (probes_fit probes.nets.now ready.d c.in_ok-checked.checked.ordered ready.on.netlist))

pub returns : goal.returns
returns g c = λ workers few.
    let mid = record c.args.outside.now { shelf = record c.args.outside.now.shelf { now = c.ready_board.new.shelf } } in
    goes_ready g.S.Shelf.seen g.O.Sink.seen Unmoved c.args.files.now.probes.nets.now (board_course c.args.stimulus.now (netlist_trace_until c.args.files.now.probes.until (length (shown_words c.args.files.now.probes.until c.args.files.now.probes.nets.now)) c.args.unknown) c.args.files.now.probes.until workers c.args.unknown) c.args.files.now.design.now c.args.files.now.board.now (by_of c.args.files.now.plan) c.args.outside.now mid (record { shelf = refl; out = refl }) refl
    c.in_ok-checked.checked _ c.run_checked.result c.in_ok-checked.ensures
    (subst (λ (count : ℕ). Goes g.S.Shelf.seen g.O.Sink.seen vocabulary (board_course c.args.stimulus.now (netlist_trace_until c.args.files.now.probes.until count c.args.unknown) c.args.files.now.probes.until workers c.args.unknown c.in_ok-checked.checked.ordered c.in_ok-checked.checked.board c.in_ok-checked.checked.plan) mid c.run_checked.new.outside c.run_checked.result)
    c.count-shown.ensures (c.run_checked.ensures workers few))
