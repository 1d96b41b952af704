use Rattle.vw_design.proofs.FlatReads.{reads_agree}
use Rattle.vw_design.proofs.laws.values.reads_agree.Goals as goal

-- a driver is a cell exactly where its number is the cell's
pub returns : goal.returns
returns c = reads_agree
