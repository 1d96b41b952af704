use Rattle.vw_fault.proofs.Lanes.{lane_chosen}
use Rattle.vw_fault.proofs.table.chosen.Goals as goal

-- the other word, with the bits changed that are to be the one's and differ from its
pub returns : goal.returns
returns c = lane_chosen c.args.by c.args.one c.args.other
