use Rattle.std.proofs.Common.{◌≤◌, [], Option, Some, None, length, arith}
use Rattle.vw_design.specs.Paths.{Word}
use Rattle.vw_courses.specs.Commands.{ends_by, netlist_counted, netlist_state, over_counted, saved_of, texts_kept, watched_words}
use Rattle.vw_statuses.proofs.RunLaws.{run_table}
use Rattle.vw_courses.proofs.TextsOfDesigns.{saves_until_agree}
use Rattle.vw_statuses.proofs.statuses.save_statuses.Goals as goal

few_words : (until : Option Word) → length (watched_words until []) ≤ 65
few_words None = omega arith
few_words (Some net) = omega arith

pub returns : goal.returns
returns c = λ until design board stimulus by workers unknown every call.
    run_table (watched_words until []) (over_counted (ends_by until) unknown (texts_kept every (saved_of unknown)))
    (netlist_counted (ends_by until) unknown (texts_kept every (netlist_state unknown))) (saves_until_agree (ends_by until) every (watched_words until []) unknown)
    design board by stimulus (ends_by until) workers unknown call (few_words until)
