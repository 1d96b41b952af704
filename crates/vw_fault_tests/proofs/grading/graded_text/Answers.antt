use Rattle.std.proofs.Common.{◌∙◌, List, Bool, false, length, ap}
use Rattle.vw_net.specs.declared.flat.Flat.{Flat}
use Rattle.vw_net.specs.Cells.{latch_count}
use Rattle.vw_net.proofs.Counts.{length-start_values}
use Rattle.vw_fault_tests.proofs.grading.graded_text.Goals as goal

-- there is a start value for each latch
pub grading_text-requires-clause-latches : goal.grading_text-requires-clause-latches
grading_text-requires-clause-latches g c κs alive =
    ap (λ (bits : List Bool). length bits) c.in_ok-start.ensures ∙ length-start_values false c.flat-flat.result.now.cells ∙ ap (λ (flat : Flat). latch_count flat.cells) c.flat-flat.ensures
