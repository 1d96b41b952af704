use Rattle.std.proofs.Common.{refl}
use Rattle.vw_prog.specs.Scripts.{planned_of}
use Rattle.vw_batches.proofs.LinkWords.{none_carried}
use Rattle.vw_batches.proofs.OtherRecords.{records_as}
use Rattle.vw_batches.proofs.going.go_on.Goals as goal

-- one worker needs no link
pub returns-then-floor-lt2-clause-records : goal.returns-then-floor-lt2-clause-records
returns-then-floor-lt2-clause-records g c =
    let job = c.args.board.now.job in
    let carried = g.F.Fabric.carried c.args.floor.now.fabric.now in
    records_as (λ these done. none_carried c.args.floor.now.workers c.if-floor-lt2.true (planned_of job) job.first job.start these carried carried refl) c.record_run.ensures
