use Rattle.std.proofs.Common.{◌<◌, length, arith}
use Rattle.std.proofs.lemmas.Option.{slice_get_within}
use Rattle.vw_fault.proofs.Groups.{seen_is}
use Rattle.vw_fault.proofs.group.seen_faults.Goals as goal

-- each fault is in its lane, and no lane of a fault is idle
pub returns : goal.returns
returns c = λ lane fault is.
    let within : lane < length c.args.faults.now = slice_get_within c.args.faults.now lane fault is in
    let low : lane < 64 = omega (arith, within, c.requires.few) in
    seen_is c.args.grading.now c.in_ok-stuck.stuck c.in_ok-state.state c.seen_lanes.result c.idle_lanes.result lane fault (c.seen_lanes.ensures lane low) (c.idle_lanes.ensures lane within) (c.in_ok-state.ensures.bits lane low) (c.in_ok-stuck.ensures.found lane fault is)
