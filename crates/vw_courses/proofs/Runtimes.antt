-- Which commands need a runtime.
use Rattle.std.proofs.Common.{◌≡◌, true, false, refl}
use Rattle.std.proofs.lemmas.Bool.{lt-ltb}
use Rattle.vw_courses.specs.declared.command.PlainCommand.{PlainCommand}
use Rattle.vw_courses.specs.declared.command.PlainCommand.TheVariants as plain
use Rattle.vw_courses.specs.declared.command.RuntimeCommand.{RuntimeCommand}
use Rattle.vw_courses.specs.declared.command.RuntimeCommand.TheVariants as runtime
use Rattle.vw_courses.specs.Steps.Commands.{plain_view, runtime_view}
use Rattle.vw_courses.specs.Words.{needs_runtime}

pub plain_needs_none : (command : PlainCommand) → needs_runtime (plain_view command) ≡ false
plain_needs_none (plain.Sim design stimulus unknown until probes) = refl
plain_needs_none (plain.Wave design stimulus unknown until probes) = refl
plain_needs_none (plain.Replay its) = refl
plain_needs_none (plain.ReplayWave its) = refl
plain_needs_none (plain.Nets design probes) = refl
plain_needs_none (plain.Check design board plan probes) = refl
plain_needs_none (plain.Plan design board chips probes) = refl
plain_needs_none (plain.Run its) = refl
plain_needs_none (plain.Report design board plan probes) = refl
plain_needs_none (plain.Emit design board plan) = refl
plain_needs_none (plain.Demo size) = refl
plain_needs_none plain.Help = refl
plain_needs_none plain.Version = refl
plain_needs_none (plain.Nothing place) = refl

pub runtime_needs_one : (command : RuntimeCommand) → needs_runtime (runtime_view command) ≡ true
runtime_needs_one (runtime.Grade design stimulus settings) = refl
runtime_needs_one (runtime.Run its several) = lt-ltb 1 several.workers several.several
runtime_needs_one (runtime.Save design board stimulus plan workers unknown every until) = refl
runtime_needs_one (runtime.Resume design board state stimulus plan workers until probes) = refl
runtime_needs_one (runtime.Demo size several) = lt-ltb 1 several.workers several.several
