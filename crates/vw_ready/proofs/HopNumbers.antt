-- The number of the link over which a hop goes is that of its ends.
use Rattle.std.proofs.Common.{◌≡◌, ◌∙◌, ℕ, true, false, Option, Some, None, ap, sym, true≢false}
use Rattle.vw_net.proofs.ListedLists.{any_stands, find_none, find_stands, stands_below}
use Rattle.vw_plan.specs.declared.board.Board.{Board}
use Rattle.vw_plan.specs.declared.wire.Hop.{Hop}
use Rattle.vw_plan.specs.Lead.{carries}
use Rattle.vw_plan.proofs.HopLinks.{HopLink, one_link}
use Rattle.vw_ready.specs.Links.{joins, link_number}
use Rattle.vw_ready.proofs.FirstPlaces.{LeadsTo}
use Rattle.vw_ready.proofs.LinkPlaces.{link_leads}

-- it is the first link from the node that the hop leaves to the node that it reaches
pub hop_number : (board : Board) (hop : Hop) (own : HopLink board hop) → link_number board.links hop.from hop.to ≡ Some own.number
hop_number board hop own = by (link_number board.links hop.from hop.to) (link_leads board.links hop.from hop.to) where
  by : (found : Option ℕ) → LeadsTo (joins hop.from hop.to) board.links found → found ≡ Some own.number
  by None leads = absurd (true≢false (sym (any_stands (carries hop) own.link board.links (own.number, own.there) own.carried) ∙ find_none (carries hop) board.links leads))
  by (Some place) leads =
      let at = stands_below board.links place leads.0 in
      let found = find_stands (carries hop) at.0 board.links (sym leads.1 ∙ at.1) in
      ap Some (one_link board hop own place at.0 at.1 found.1)
