use Rattle.std.proofs.Common.{◌≡◌, Bool, List, length, take, sym, ◌∙◌, ap, subst, arith}
use Rattle.std.specs.Option.{option_copied}
use Rattle.vw_course.specs.Goes.{Goes}
use Rattle.vw_design.specs.Paths.{Word}
use Rattle.vw_courses.specs.Commands.{course_of, ends_by, netlist_trace_until, over_design_course, over_rows_course, replay_course, replayed_wave_of_until, watched_words, wave_of_until}
use Rattle.vw_courses.specs.MayPlan.{PlanBy, by_file}
use Rattle.vw_courses.specs.Messages.{vocabulary}
use Rattle.vw_courses.specs.Steps.Commands.{plain_view}
use Rattle.vw_courses.specs.Words.{Spelled}
use Rattle.vw_courses.specs.declared.forms.TheConstants.{MOST_PROBES}
use Rattle.vw_courses.specs.Words as words
use Rattle.vw_files.specs.Watched.{shown_words}
use Rattle.vw_top.proofs.WorkedRows.{as_named}
use Rattle.vw_top.proofs.commands.carry_out.Goals as goal

-- this demo is by one worker
pub returns-in-Demo : goal.returns-in-Demo
returns-in-Demo g c =
    let is : plain_view c.args.command ≡ words.demo c.in-Demo.size.cells 1 = ap plain_view c.in-Demo.is in
    subst (λ (spelled : Spelled). Goes g.S.Shelf.seen g.O.Sink.seen vocabulary (course_of spelled) c.args.outside.now c.demo_by_one.new.outside c.demo_by_one.result) (sym is)
    (c.demo_by_one.ensures 1 (omega arith))

-- and this wave, with the nets that the words watch
pub returns-in_ok-watched-in-Wave : goal.returns-in_ok-watched-in-Wave
returns-in_ok-watched-in-Wave g c =
    let its = c.in-Wave in
    let until = option_copied its.until in
    let probes = take MOST_PROBES its.probes in
    let nets : c.probes-in-Wave.result.nets.now ≡ watched_words until probes =
    c.probes-in-Wave.ensures.nets ∙ c.in_ok-watched-in-Wave.ensures.nets ∙ ap (watched_words until) c.in_ok-probes-in-Wave.ensures.values in
    let ends : c.probes-in-Wave.result.until ≡ ends_by until = c.probes-in-Wave.ensures.until ∙ c.in_ok-watched-in-Wave.ensures.until in
    let is : plain_view c.args.command ≡ words.wave its.design.now its.stimulus.now its.unknown until probes = ap plain_view its.is in
    subst (λ (spelled : Spelled). Goes g.S.Shelf.seen g.O.Sink.seen vocabulary (course_of spelled) c.args.outside.now c.wave.new.outside c.wave.result) (sym is)
    (as_named (λ (list : List Word) (one : Bool) (shown : List Word).
    Goes g.S.Shelf.seen g.O.Sink.seen vocabulary (over_design_course list its.design.now its.stimulus.now (wave_of_until one shown its.unknown)) c.args.outside.now c.wave.new.outside c.wave.result)
    until probes c.probes-in-Wave.result.nets.now c.probes-in-Wave.result.until nets ends c.wave.ensures)

-- and from a state on
pub returns-in_ok-watched-in-ReplayWave : goal.returns-in_ok-watched-in-ReplayWave
returns-in_ok-watched-in-ReplayWave g c =
    let its = c.in-ReplayWave.words in
    let until = option_copied its.until in
    let probes = take MOST_PROBES its.probes in
    let nets : c.probes-in-ReplayWave.result.nets.now ≡ watched_words until probes =
    c.probes-in-ReplayWave.ensures.nets ∙ c.in_ok-watched-in-ReplayWave.ensures.nets ∙ ap (watched_words until) c.in_ok-probes-in-ReplayWave.ensures.values in
    let ends : c.probes-in-ReplayWave.result.until ≡ ends_by until = c.probes-in-ReplayWave.ensures.until ∙ c.in_ok-watched-in-ReplayWave.ensures.until in
    let is : plain_view c.args.command ≡ words.replay_wave its.design.now its.stimulus.now its.state.now until probes = ap plain_view c.in-ReplayWave.is in
    subst (λ (spelled : Spelled). Goes g.S.Shelf.seen g.O.Sink.seen vocabulary (course_of spelled) c.args.outside.now c.replay_wave.new.outside c.replay_wave.result) (sym is)
    (as_named (λ (list : List Word) (one : Bool) (shown : List Word).
    Goes g.S.Shelf.seen g.O.Sink.seen vocabulary (replay_course list its.design.now its.state.now its.stimulus.now (replayed_wave_of_until one shown)) c.args.outside.now c.replay_wave.new.outside c.replay_wave.result)
    until probes c.probes-in-ReplayWave.result.nets.now c.probes-in-ReplayWave.result.until nets ends c.replay_wave.ensures)

-- and this run
pub returns-in_ok-watched-in-Run : goal.returns-in_ok-watched-in-Run
returns-in_ok-watched-in-Run g c =
    let its = c.in-Run.words in
    let until = option_copied its.until in
    let probes = take MOST_PROBES its.probes in
    let nets : c.probes-in-Run.result.nets.now ≡ watched_words until probes =
    c.probes-in-Run.ensures.nets ∙ c.in_ok-watched-in-Run.ensures.nets ∙ ap (watched_words until) c.in_ok-probes-in-Run.ensures.values in
    let ends : c.probes-in-Run.result.until ≡ ends_by until = c.probes-in-Run.ensures.until ∙ c.in_ok-watched-in-Run.ensures.until in
    let is : plain_view c.args.command ≡ words.run its.design.now its.board.now its.stimulus.now (option_copied its.plan) 1 its.unknown until probes = ap plain_view c.in-Run.is in
    subst (λ (spelled : Spelled). Goes g.S.Shelf.seen g.O.Sink.seen vocabulary (course_of spelled) c.args.outside.now c.run_by_one.new.outside c.run_by_one.result) (sym is)
    (as_named (λ (list : List Word) (one : Bool) (shown : List Word).
    Goes g.S.Shelf.seen g.O.Sink.seen vocabulary (over_rows_course list its.design.now its.board.now (by_file (option_copied its.plan)) its.stimulus.now (netlist_trace_until one (length shown) its.unknown) one 1 its.unknown)
    c.args.outside.now c.run_by_one.new.outside c.run_by_one.result) until probes c.probes-in-Run.result.nets.now c.probes-in-Run.result.until nets ends
    (subst (λ (by : PlanBy). Goes g.S.Shelf.seen g.O.Sink.seen vocabulary (over_rows_course c.probes-in-Run.result.nets.now its.design.now its.board.now by its.stimulus.now
    (netlist_trace_until c.probes-in-Run.result.until (length (shown_words c.probes-in-Run.result.until c.probes-in-Run.result.nets.now)) its.unknown) c.probes-in-Run.result.until 1 its.unknown)
    c.args.outside.now c.run_by_one.new.outside c.run_by_one.result) c.file.ensures (c.run_by_one.ensures 1 (omega arith))))
