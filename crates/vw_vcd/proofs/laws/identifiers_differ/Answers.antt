use Rattle.vw_vcd.proofs.Digits.{same_number}
use Rattle.vw_vcd.proofs.laws.identifiers_differ.Goals as goal

pub returns : goal.returns
returns c = same_number
