use Rattle.std.proofs.Common.{◌≡◌, Bool, List, [], length, take, option_map, sym, ◌∙◌, ap, subst}
use Rattle.std.specs.Option.{option_copied}
use Rattle.vw_course.specs.Course.{Course}
use Rattle.vw_course.specs.Goes.{GoesOver, MovedFrom}
use Rattle.vw_design.specs.Paths.{Word}
use Rattle.vw_courses.specs.Commands.{course_of, ends_by, netlist_counted, netlist_state, netlist_trace_until, over_rows_course, ready_course, resume_rest, texts_kept, watched_words}
use Rattle.vw_courses.specs.MayPlan.{PlanBy, by_file}
use Rattle.vw_courses.specs.Messages.{vocabulary}
use Rattle.vw_courses.specs.Steps.Commands.{runtime_view, share_view}
use Rattle.vw_courses.specs.Words.{Spelled}
use Rattle.vw_courses.specs.declared.command.Interval.{Interval}
use Rattle.vw_courses.specs.declared.forms.TheConstants.{MOST_PROBES}
use Rattle.vw_courses.specs.Words as words
use Rattle.vw_files.specs.Watched.{shown_words}
use Rattle.vw_top.proofs.WorkedRows.{as_named}
use Rattle.vw_top.proofs.commands.carry_out_together.Goals as goal

-- the words spell this demo
pub returns-in-Demo-clause-goes : goal.returns-in-Demo-clause-goes
returns-in-Demo-clause-goes g c =
    let is : runtime_view c.args.command ≡ words.demo c.in-Demo.size.cells c.in-Demo.several.workers = ap runtime_view c.in-Demo.is in
    subst (λ (spelled : Spelled). GoesOver g.S.Shelf.seen g.O.Sink.seen vocabulary (MovedFrom (g.F.Fabric.carried c.args.floor.now.fabric.now) (g.F.Fabric.carried c.demo_by_several.new.floor.fabric.now)) (course_of spelled) c.args.outside.now c.demo_by_several.new.outside c.demo_by_several.result) (sym is)
    c.demo_by_several.ensures.goes

-- and this grading, which moves no link
pub returns-in-Grade-clause-goes : goal.returns-in-Grade-clause-goes
returns-in-Grade-clause-goes g c =
    let graded = c.in-Grade in
    let is : runtime_view c.args.command ≡ words.grade graded.design.now graded.stimulus.now graded.settings.workers graded.settings.unknown (share_view graded.settings) = ap runtime_view graded.is in
    let goes = c.grade.ensures in
    subst (λ (spelled : Spelled). GoesOver g.S.Shelf.seen g.O.Sink.seen vocabulary (MovedFrom (g.F.Fabric.carried c.args.floor.now.fabric.now) (g.F.Fabric.carried c.args.floor.now.fabric.now)) (course_of spelled) c.args.outside.now c.grade.new.outside c.grade.result) (sym is)
    (record { same = goes.same; leads = record { follows = λ links links_after moved. goes.leads.follows links links_after (moved.1 ∙ sym moved.0) } })

-- and this run, with the nets that the words watch
pub returns-in_ok-watched-in-Run-clause-goes : goal.returns-in_ok-watched-in-Run-clause-goes
returns-in_ok-watched-in-Run-clause-goes g c =
    let its = c.in-Run.words in
    let until = option_copied its.until in
    let probes = take MOST_PROBES its.probes in
    let found = c.probes.result in
    let nets : found.nets.now ≡ watched_words until probes =
    c.probes.ensures.nets ∙ c.in_ok-watched-in-Run.ensures.nets ∙ ap (watched_words until) c.in_ok-probes-in-Run.ensures.values in
    let ends : found.until ≡ ends_by until = c.probes.ensures.until ∙ c.in_ok-watched-in-Run.ensures.until in
    let goes = λ (course : Course vocabulary). GoesOver g.S.Shelf.seen g.O.Sink.seen vocabulary (MovedFrom (g.F.Fabric.carried c.args.floor.now.fabric.now) (g.F.Fabric.carried c.run_by_several.new.floor.fabric.now)) course c.args.outside.now c.run_by_several.new.outside c.run_by_several.result in
    let is : runtime_view c.args.command ≡ words.run its.design.now its.board.now its.stimulus.now (option_copied its.plan) c.in-Run.several.workers its.unknown until probes = ap runtime_view c.in-Run.is in
    let course : PlanBy → List Word → Bool → List Word → Course vocabulary = λ by list one shown. over_rows_course list its.design.now its.board.now by its.stimulus.now (netlist_trace_until one (length shown) its.unknown) one c.in-Run.several.workers its.unknown in
    subst (λ (spelled : Spelled). goes (course_of spelled)) (sym is)
    (as_named (λ (list : List Word) (one : Bool) (shown : List Word). goes (course (by_file (option_copied its.plan)) list one shown)) until probes found.nets.now found.until nets ends
    (subst (λ (by : PlanBy). goes (course by found.nets.now found.until (shown_words found.until found.nets.now))) c.file.ensures c.run_by_several.ensures.goes))

-- and this saving, which watches a trigger at most
pub returns-in_ok-watched-in-Save-clause-goes : goal.returns-in_ok-watched-in-Save-clause-goes
returns-in_ok-watched-in-Save-clause-goes g c =
    let its = c.in-Save in
    let until = option_copied its.until in
    let probes = [] in
    let found = c.probes-in-Save.result in
    let nets : found.nets.now ≡ watched_words until probes =
    c.probes-in-Save.ensures.nets ∙ c.in_ok-watched-in-Save.ensures.nets ∙ ap (watched_words until) c.new.ensures.items in
    let ends : found.until ≡ ends_by until = c.probes-in-Save.ensures.until ∙ c.in_ok-watched-in-Save.ensures.until in
    let goes = λ (course : Course vocabulary). GoesOver g.S.Shelf.seen g.O.Sink.seen vocabulary (MovedFrom (g.F.Fabric.carried c.args.floor.now.fabric.now) (g.F.Fabric.carried c.save.new.floor.fabric.now)) course c.args.outside.now c.save.new.outside c.save.result in
    let is : runtime_view c.args.command ≡ words.save its.design.now its.board.now its.stimulus.now (option_copied its.plan) its.workers its.unknown (option_map (λ (interval : Interval). interval.clocks) its.every) until = ap runtime_view its.is in
    let course : PlanBy → List Word → Bool → List Word → Course vocabulary = λ by list one shown. over_rows_course list its.design.now its.board.now by its.stimulus.now (netlist_counted one its.unknown (texts_kept (option_map (λ (interval : Interval). interval.clocks) its.every) (netlist_state its.unknown))) one its.workers its.unknown in
    subst (λ (spelled : Spelled). goes (course_of spelled)) (sym is)
    (as_named (λ (list : List Word) (one : Bool) (shown : List Word). goes (course (by_file (option_copied its.plan)) list one shown)) until probes found.nets.now found.until nets ends
    (subst (λ (by : PlanBy). goes (course by found.nets.now found.until (shown_words found.until found.nets.now))) c.file-in-Save.ensures c.save.ensures.goes))

-- and this resumption, with the nets that the words watch
pub returns-in_ok-watched-in-Resume-clause-goes : goal.returns-in_ok-watched-in-Resume-clause-goes
returns-in_ok-watched-in-Resume-clause-goes g c =
    let its = c.in-Resume in
    let until = option_copied its.until in
    let probes = take MOST_PROBES its.probes in
    let found = c.probes-in-Resume.result in
    let nets : found.nets.now ≡ watched_words until probes =
    c.probes-in-Resume.ensures.nets ∙ c.in_ok-watched-in-Resume.ensures.nets ∙ ap (watched_words until) c.in_ok-probes-in-Resume.ensures.values in
    let ends : found.until ≡ ends_by until = c.probes-in-Resume.ensures.until ∙ c.in_ok-watched-in-Resume.ensures.until in
    let goes = λ (course : Course vocabulary). GoesOver g.S.Shelf.seen g.O.Sink.seen vocabulary (MovedFrom (g.F.Fabric.carried c.args.floor.now.fabric.now) (g.F.Fabric.carried c.resume.new.floor.fabric.now)) course c.args.outside.now c.resume.new.outside c.resume.result in
    let is : runtime_view c.args.command ≡ words.resume its.design.now its.board.now its.state.now its.stimulus.now (option_copied its.plan) its.workers until probes = ap runtime_view its.is in
    let course : PlanBy → List Word → Bool → List Word → Course vocabulary = λ by list one shown. ready_course list its.design.now its.board.now by (resume_rest one (length shown) its.state.now its.stimulus.now its.workers) in
    subst (λ (spelled : Spelled). goes (course_of spelled)) (sym is)
    (as_named (λ (list : List Word) (one : Bool) (shown : List Word). goes (course (by_file (option_copied its.plan)) list one shown)) until probes found.nets.now found.until nets ends
    (subst (λ (by : PlanBy). goes (course by found.nets.now found.until (shown_words found.until found.nets.now))) c.file-in-Resume.ensures c.resume.ensures.goes))
