use Rattle.vw_design.proofs.DriverNumbers.{read_numbered}
use Rattle.vw_design.proofs.laws.drivers.reads_are_numbered.Goals as goal

-- its driver is there, and is a column or a cell, since it is no clock port
pub returns : goal.returns
returns c = read_numbered
