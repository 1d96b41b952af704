use Rattle.std.proofs.Common.{ap, refl}
use Rattle.std.specs.Option.{is_some}
use Rattle.vw_crew_tests.proofs.LaidEnds.{ends_are}
use Rattle.vw_crew_tests.proofs.ends.idle.Goals as goal

pub lift-requires : goal.lift-requires
lift-requires g c = ends_are c.args.job.now c.args.link _ _ _ c.requires.link c.in_ok-tx.ensures.laid _ (ap is_some c.lay.ensures.same) _ _ _ _ refl refl
