-- Commands of the code as those of the words.
use Rattle.std.specs.Prelude.{ℕ, take, Option, option_map}
use Rattle.std.specs.Option.{option_copied}
use Rattle.vw_courses.specs.declared.command.Command.{Command}
use Rattle.vw_courses.specs.declared.command.Command.TheVariants.{Plain, OnRuntime}
use Rattle.vw_courses.specs.declared.command.GradeSettings.{GradeSettings}
use Rattle.vw_courses.specs.declared.command.PlainCommand.{PlainCommand}
use Rattle.vw_courses.specs.declared.command.PlainCommand.TheVariants as plain
use Rattle.vw_courses.specs.declared.command.RunWords.{RunWords}
use Rattle.vw_courses.specs.declared.command.RuntimeCommand.{RuntimeCommand}
use Rattle.vw_courses.specs.declared.command.RuntimeCommand.TheVariants as runtime
use Rattle.vw_courses.specs.declared.forms.TheConstants.{MOST_PROBES}
use Rattle.vw_words.specs.declared.forms.Entry.{Entry}
use Rattle.vw_words.specs.Views.{form_view}
use Rattle.vw_courses.specs.declared.forms.Verb.{Verb}
use Rattle.vw_courses.specs.Words.{Spelled, CommandForm}
use Rattle.vw_courses.specs.Words as words

-- the share that a grading is of, by its number and how many there are
abbrev pub share_view : GradeSettings → Option (ℕ × ℕ)
share_view settings = option_map (λ share. (share.number, share.shares)) settings.share

-- a run by so many workers
abbrev pub run_view : RunWords → ℕ → Spelled
run_view its workers =
    words.run its.design.now its.board.now its.stimulus.now (option_copied its.plan) workers its.unknown (option_copied its.until) (take MOST_PROBES its.probes)

abbrev pub plain_view : PlainCommand → Spelled
plain_view (plain.Sim design stimulus unknown until probes) = words.sim design.now stimulus.now unknown (option_copied until) (take MOST_PROBES probes)
plain_view (plain.Wave design stimulus unknown until probes) = words.wave design.now stimulus.now unknown (option_copied until) (take MOST_PROBES probes)
plain_view (plain.Replay its) = words.replay its.design.now its.stimulus.now its.state.now (option_copied its.until) (take MOST_PROBES its.probes)
plain_view (plain.ReplayWave its) = words.replay_wave its.design.now its.stimulus.now its.state.now (option_copied its.until) (take MOST_PROBES its.probes)
plain_view (plain.Nets design probes) = words.nets design.now (take MOST_PROBES probes)
plain_view (plain.Check design board plan probes) = words.check design.now board.now plan.now (take MOST_PROBES probes)
plain_view (plain.Plan design board chips probes) = words.plan design.now board.now (option_copied chips) (take MOST_PROBES probes)
plain_view (plain.Run its) = run_view its 1
plain_view (plain.Report design board plan probes) = words.report design.now board.now (option_copied plan) (take MOST_PROBES probes)
plain_view (plain.Emit design board plan) = words.emit design.now board.now (option_copied plan)
plain_view (plain.Demo size) = words.demo size.cells 1
plain_view plain.Help = words.help
plain_view plain.Version = words.version
plain_view (plain.Nothing place) = words.nothing place

abbrev pub runtime_view : RuntimeCommand → Spelled
runtime_view (runtime.Grade design stimulus settings) =
    words.grade design.now stimulus.now settings.workers settings.unknown (share_view settings)
runtime_view (runtime.Run its several) = run_view its several.workers
runtime_view (runtime.Save design board stimulus plan workers unknown every until) =
    words.save design.now board.now stimulus.now (option_copied plan) workers unknown (option_map (λ interval. interval.clocks) every) (option_copied until)
runtime_view (runtime.Resume design board state stimulus plan workers until probes) =
    words.resume design.now board.now state.now stimulus.now (option_copied plan) workers (option_copied until) (take MOST_PROBES probes)
runtime_view (runtime.Demo size several) = words.demo size.cells several.workers

abbrev pub command_view : Command → Spelled
command_view (Plain command) = plain_view command
command_view (OnRuntime command) = runtime_view command

-- an entry of the table of commands as one of the definitions
abbrev pub command_form : Entry Verb → CommandForm
command_form entry = record { verb = entry.command; form = form_view entry.form }
