-- the greatest so far, or of the rest
use Rattle.std.proofs.Common.{◌≡◌, ◌<◌, ◌^◌, drop, map, max}
use Rattle.vw_net.specs.Lists.{greatest}
use Rattle.vw_ready.specs.Leads.{lead_in}
use Rattle.vw_ready.proofs.lead_table.LeadTable.greatest_lead.Given as goal

abbrev pub invariant-loop-net : goal.invariant-loop-net
invariant-loop-net l = record {
  rest : max l.greatest (greatest (map (lead_in l.self l.node) (drop l.net-index l.nets))) ≡ greatest (map (lead_in l.self l.node) l.nets);
  low : l.greatest < 2 ^ 63;
}
