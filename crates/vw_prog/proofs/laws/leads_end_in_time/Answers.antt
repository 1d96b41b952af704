use Rattle.vw_prog.proofs.LeadsInTime.{lead_in_time}
use Rattle.vw_prog.proofs.laws.leads_end_in_time.Goals as goal

pub returns : goal.returns
returns c = lead_in_time
