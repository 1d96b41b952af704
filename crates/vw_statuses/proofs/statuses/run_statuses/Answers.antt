use Rattle.std.proofs.Common.{length}
use Rattle.vw_courses.specs.Commands.{ends_by, netlist_trace_until, trace_of_until, watched_words}
use Rattle.vw_statuses.proofs.RunLaws.{run_table}
use Rattle.vw_courses.proofs.TextsOfDesigns.{traces_until_agree}
use Rattle.vw_statuses.proofs.statuses.run_statuses.Goals as goal

pub returns : goal.returns
returns c = λ probes until few design board stimulus by workers unknown call.
    run_table (watched_words until probes) (trace_of_until (ends_by until) unknown) (netlist_trace_until (ends_by until) (length probes) unknown)
    (traces_until_agree until probes unknown) design board by stimulus (ends_by until) workers unknown call few
