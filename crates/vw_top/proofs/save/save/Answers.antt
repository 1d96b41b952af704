use Rattle.std.proofs.Common.{option_map, refl, sym, ◌∙◌}
use Rattle.std.proofs.lemmas.Result.{err_from_is_err_and}
use Rattle.vw_files.specs.Ready.{by_of}
use Rattle.vw_course.specs.Goes.{MovedFrom}
use Rattle.vw_courses.specs.declared.command.Interval.{Interval}
use Rattle.vw_courses.specs.Commands.{board_course, netlist_counted, netlist_state, texts_kept}
use Rattle.vw_files.proofs.ReadyLaws.{goes_unready, goes_ready}
use Rattle.vw_top.proofs.save.save.Goals as goal

pub returns-in_err-checked-clause-goes : goal.returns-in_err-checked-clause-goes
returns-in_err-checked-clause-goes g c =
    let p = err_from_is_err_and c.from_residual.result c.from_residual.ensures.1 in
    let files = c.args.files.now in
    let links = g.F.Fabric.carried c.args.floor.now.fabric.now in
    rw (p.1, p.2)
    (goes_unready g.S.Shelf.seen g.O.Sink.seen (MovedFrom links links) files.probes.nets.now (board_course c.args.stimulus.now (netlist_counted files.probes.until c.args.unknown (texts_kept (option_map (λ (interval : Interval). interval.clocks) c.args.every) (netlist_state c.args.unknown))) files.probes.until c.args.floor.now.workers c.args.unknown) files.design.now files.board.now (by_of files.plan) c.args.outside.now _ (record { shelf = refl; out = refl }) refl
    (λ before after moved. moved.1 ∙ sym moved.0) c.in_err-checked.field-0.0 c.in_err-checked.ensures)

pub returns-clause-goes : goal.returns-clause-goes
returns-clause-goes g c =
    let files = c.args.files.now in
    let mid = record c.args.outside.now { shelf = record c.args.outside.now.shelf { now = c.ready_board.new.shelf } } in
    let Moved = MovedFrom (g.F.Fabric.carried c.args.floor.now.fabric.now) (g.F.Fabric.carried c.save_checked.new.floor.fabric.now) in
    goes_ready g.S.Shelf.seen g.O.Sink.seen Moved files.probes.nets.now (board_course c.args.stimulus.now (netlist_counted files.probes.until c.args.unknown (texts_kept (option_map (λ (interval : Interval). interval.clocks) c.args.every) (netlist_state c.args.unknown))) files.probes.until c.args.floor.now.workers c.args.unknown) files.design.now files.board.now (by_of files.plan) c.args.outside.now mid (record { shelf = refl; out = refl }) refl
    c.in_ok-checked.checked _ c.save_checked.result c.in_ok-checked.ensures c.save_checked.ensures.goes
