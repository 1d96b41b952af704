use Rattle.vw_top.proofs.CalledWords.{called_by}
use Rattle.vw_top.proofs.commands.virtual_wires.Goals as goal

-- a command that needs no runtime, whatever links have carried
pub returns-in-Plain-clause-called : goal.returns-in-Plain-clause-called
returns-in-Plain-clause-called g c =
    called_by c.args.words.now _ c.in-Plain.ensures _ (c.without_runtime.ensures (g.F.Fabric.carried c.args.fabric.now))

pub returns-in-Plain-clause-headline : goal.returns-in-Plain-clause-headline
returns-in-Plain-clause-headline g c =
    c.headline.ensures.spelled c.args.words.now _ (called_by c.args.words.now _ c.in-Plain.ensures _ (c.without_runtime.ensures (g.F.Fabric.carried c.args.fabric.now)))

pub returns-in-Plain-clause-promise : goal.returns-in-Plain-clause-promise
returns-in-Plain-clause-promise g c =
    c.promises.ensures _ _ (called_by c.args.words.now _ c.in-Plain.ensures _ (c.without_runtime.ensures (g.F.Fabric.carried c.args.fabric.now)))

-- and one on a runtime
pub returns-in-OnRuntime-clause-headline : goal.returns-in-OnRuntime-clause-headline
returns-in-OnRuntime-clause-headline g c =
    c.headline.ensures.spelled c.args.words.now _ (called_by c.args.words.now _ c.in-OnRuntime.ensures _ c.together.ensures.called)

pub returns-in-OnRuntime-clause-promise : goal.returns-in-OnRuntime-clause-promise
returns-in-OnRuntime-clause-promise g c =
    c.promises.ensures _ _ (called_by c.args.words.now _ c.in-OnRuntime.ensures _ c.together.ensures.called)
