-- What stands at the number of a link.
use Rattle.std.proofs.Common.{◌≡◌, ◌&&◌, ℕ, Bool, List, ap₂}
use Rattle.vw_net.proofs.Orders.{eqb_comm}
use Rattle.vw_plan.specs.declared.link.Link.{Link}
use Rattle.vw_ready.specs.Links.{joins, link_number}
use Rattle.vw_ready.specs.Pairs.{is_number_pair}
use Rattle.vw_ready.proofs.FirstPlaces.{LeadsTo, first_leads}

joins_by_pair : (from to : ℕ) (link : Link) → joins from to link ≡ is_number_pair from to (link.from, link.to)
joins_by_pair from to link = ap₂ (λ (first second : Bool). first && second) (eqb_comm link.from from) (eqb_comm link.to to)

-- the number of the link from a node to another leads to it
pub link_leads : (links : List Link) (from to : ℕ) → LeadsTo (joins from to) links (link_number links from to)
link_leads links from to = first_leads (λ (link : Link). (link.from, link.to)) (joins from to) from to (joins_by_pair from to) links
