use Rattle.std.proofs.Common.{None, ap, refl, ◌∙◌}
use Rattle.vw_courses.specs.Words.{needs_runtime}
use Rattle.vw_courses.proofs.Runtimes.{plain_needs_none, runtime_needs_one}
use Rattle.vw_top.proofs.CalledWords.{called_by}
use Rattle.vw_top.proofs.commands.alone.Goals as goal

-- the words spell a command that needs no runtime
pub returns-in-Plain-clause-called : goal.returns-in-Plain-clause-called
returns-in-Plain-clause-called g c = (
  ap needs_runtime c.in-Plain.ensures ∙ plain_needs_none c.in-Plain.command,
  λ links. called_by c.args.words.now _ c.in-Plain.ensures _ (c.without_runtime.ensures links),
)

-- whatever links have carried
pub returns-in-Plain-clause-headline : goal.returns-in-Plain-clause-headline
returns-in-Plain-clause-headline g c =
    c.headline.ensures.spelled c.args.words.now _ (called_by c.args.words.now _ c.in-Plain.ensures _ (c.without_runtime.ensures None))

pub returns-in-Plain-clause-promise : goal.returns-in-Plain-clause-promise
returns-in-Plain-clause-promise g c =
    c.promises.ensures _ _ (called_by c.args.words.now _ c.in-Plain.ensures _ (c.without_runtime.ensures None))

-- or one that does
pub returns-in-OnRuntime-clause-called : goal.returns-in-OnRuntime-clause-called
returns-in-OnRuntime-clause-called g c = (ap needs_runtime c.in-OnRuntime.ensures ∙ runtime_needs_one c.in-OnRuntime.field-0, refl, refl, refl)
