use Rattle.vw_prog.proofs.DueReads.{finds_ends, finds_reads}
use Rattle.vw_prog.proofs.laws.reads_are_due.Goals as goal

pub returns : goal.returns
returns c = record { reads = λ planned node sound. finds_reads planned sound node; ends = λ planned node sound. finds_ends planned sound node }
