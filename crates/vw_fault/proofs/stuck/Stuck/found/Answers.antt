use Rattle.vw_fault.proofs.Lanes.{lane_found}
use Rattle.vw_fault.proofs.stuck.Stuck.found.Goals as goal

-- the net's own bit in the lanes that keep it, and 1 in those that force it
pub returns : goal.returns
returns c = λ lane. lane_found c.args.self.now c.args.net c.args.word c.get.result c.get-2.result lane c.requires.kept c.get.ensures c.get-2.ensures
