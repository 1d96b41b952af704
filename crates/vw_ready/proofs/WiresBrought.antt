-- The first wire that brings a net to a node, by its place.
use Rattle.std.proofs.Common.{◌≡◌, ◌&&◌, ℕ, Bool, List, [], get_or, slice_get, slice_index, Option, Some, None, ap, ap₂, sym, ◌∙◌}
use Rattle.std.specs.Option.{option_map_or}
use Rattle.std.specs.HashMap.{HashMap}
use Rattle.std.proofs.Math.Path.{fun_ext}
use Rattle.std.proofs.lemmas.List.{get_or-map}
use Rattle.std.proofs.lemmas.Option.{slice_get-get_or}
use Rattle.vw_plan.specs.declared.link.Link.{Link}
use Rattle.vw_plan.specs.declared.wire.Wire.{Wire}
use Rattle.vw_plan.specs.Lead.{after_last, brings, brought_at}
use Rattle.vw_plan.specs.PlannedBoard.{PlannedBoard}
use Rattle.vw_ready.specs.Pairs.{HasPairs, is_number_pair, pair_in}
use Rattle.vw_ready.specs.Leads.{arrival_by}
use Rattle.vw_ready.specs.LeadTables.{arrivals_of}
use Rattle.vw_ready.specs.Wires.{wire_pairs}
use Rattle.vw_net.proofs.Orders.{eqb_comm}
use Rattle.vw_ready.proofs.FirstPlaces.{LeadsTo, leads}

pub brings_by_pair : (net node : ℕ) (wire : Wire) → brings net node wire ≡ is_number_pair net node (wire.net, wire.to)
brings_by_pair net node wire = ap₂ (λ (first second : Bool). first && second) (eqb_comm wire.net net) (eqb_comm wire.to node)

-- what a table of the wires finds
pub wire_leads : {S : Type 0} (wires : List Wire) (table : HashMap (ℕ × ℕ) ℕ S) → HasPairs (wire_pairs wires) table → (net node : ℕ) → LeadsTo (brings net node) wires (pair_in table net node)
wire_leads wires table has net node = leads (λ (wire : Wire). (wire.net, wire.to)) (brings net node) net node (brings_by_pair net node) wires table has

module _ (planned : PlannedBoard) (node net : ℕ) where
  abbrev links : List Link
  links = planned.board.links

  -- the arrival at the place that a table has
  by_place : (arrivals : List ℕ) → arrivals ≡ arrivals_of planned → (found : Option ℕ) → LeadsTo (brings net node) planned.plan.wires found → option_map_or (slice_index arrivals) found 0 ≡ brought_at planned node net
  by_place arrivals are None leads = ap (λ (wire : Option Wire). option_map_or (λ (one : Wire). after_last links one.hops) wire 0) (sym leads)
  by_place arrivals are (Some place) leads =
      let none : Wire = record { net = 0; to = 0; hops = [] } in
      let wires = planned.plan.wires in
      let there : slice_get wires place ≡ Some (get_or wires place none) = slice_get-get_or wires place none leads.0 in
      ap (λ (list : List ℕ). slice_index list place) are
      ∙ get_or-map (λ (wire : Wire). after_last links wire.hops) wires place none 0 leads.0
      ∙ ap (λ (wire : Option Wire). option_map_or (λ (one : Wire). after_last links one.hops) wire 0) (sym there ∙ leads.1)

-- the table of the wires, and their arrivals, tell when a net is brought to a node
pub brought_by : {S : Type 0} (planned : PlannedBoard) (table : HashMap (ℕ × ℕ) ℕ S) (arrivals : List ℕ) → HasPairs (wire_pairs planned.plan.wires) table → arrivals ≡ arrivals_of planned → arrival_by table arrivals ≡ (λ net node. brought_at planned node net)
brought_by planned table arrivals has are = fun_ext (λ net. fun_ext (λ node. by_place planned node net arrivals are (pair_in table net node) (wire_leads planned.plan.wires table has net node)))
