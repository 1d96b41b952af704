-- Leads in a plan, from the leads and hops of a schedule.
use Rattle.std.proofs.Common.{◌≡◌, ◌+◌, ◌&&◌, ℕ, Bool, true, false, List, [], ◌∷◌, slice_index, if◌then◌else◌, eqb, ap, refl, sym, ◌∙◌, ⊎_elim, eqb-true}
use Rattle.std.specs.List.{find}
use Rattle.std.specs.Option.{option_map_or}
use Rattle.std.proofs.lemmas.Bool.{cases_Bool}
use Rattle.vw_net.specs.declared.ordered.Ordered.{Ordered}
use Rattle.vw_net.specs.Order.{is_gate}
use Rattle.vw_plan.specs.declared.board.Board.{Board}
use Rattle.vw_plan.specs.declared.link.Link.{Link}
use Rattle.vw_plan.specs.declared.need.Route.{Route}
use Rattle.vw_plan.specs.declared.plan.Plan.{Plan}
use Rattle.vw_plan.specs.declared.wire.Hop.{Hop}
use Rattle.vw_plan.specs.declared.wire.Wire.{Wire}
use Rattle.vw_plan.specs.Lead.{after_last, brings, brought_at, lead, usable}
use Rattle.vw_plan.specs.Nets.{driving_cell, greatest_read}
use Rattle.vw_plan.specs.PlannedBoard.{PlannedBoard, home, planned_board}
use Rattle.vw_plan.proofs.LeadLevels.{LeadsFollowDrivers}
use Rattle.vw_pipe.specs.Steps.Leads.{route_hops_to, lead_so_far, usable_so_far, wires_of}

-- one past the arrival of a net at a node, by wires
abbrev brought_by : List Link → ℕ → ℕ → List Wire → ℕ
brought_by links node net wires = option_map_or (λ (wire : Wire). after_last links wire.hops) (find (brings net node) wires) 0

brought_wires : (links : List Link) (node net : ℕ) (routes : List Route) (hops : List (List Hop))
    → brought_by links node net (wires_of routes hops) ≡ after_last links (route_hops_to routes hops node net)
brought_wires links node net [] hops = refl
brought_wires links node net (route ∷ routes) [] = refl
brought_wires links node net (route ∷ routes) (sent ∷ hops) =
    let here = eqb route.net net && eqb route.to node in
    let by_wires = brought_by links node net (wires_of (route ∷ routes) (sent ∷ hops)) in
    let by_hops = after_last links (route_hops_to (route ∷ routes) (sent ∷ hops) node net) in
    let IsSame = by_wires ≡ by_hops in
    let if_here = λ (is : here ≡ true). let whole : IsSame = rw is refl in whole in
    let if_later = λ (is : here ≡ false). let whole : IsSame = rw is (brought_wires links node net routes hops) in whole in
    ⊎_elim if_here if_later (cases_Bool here)

module _ (ordered : Ordered) (board : Board) (plan : Plan) (routes : List Route) (hops : List (List Hop)) (leads : List ℕ)
    (wires : plan.wires ≡ wires_of routes hops) (settles : LeadsFollowDrivers (planned_board ordered board plan)) where
  abbrev planned : PlannedBoard
  planned = planned_board ordered board plan

  -- one past the arrival of a net at a node, by hops
  abbrev brought : ℕ → ℕ → ℕ
  brought node net = after_last board.links (route_hops_to routes hops node net)

  brought_is : (node net : ℕ) → brought_at planned node net ≡ brought node net
  brought_is node net = ap (brought_by board.links node net) wires ∙ brought_wires board.links node net routes hops

  pub lead_is : (node net : ℕ) → lead (planned_board ordered board plan) (home (planned_board ordered board plan) net) net ≡ slice_index leads net
      → lead (planned_board ordered board plan) node net ≡ lead_so_far ordered.flat board plan.chip_of routes hops leads node net
  lead_is node net right =
      let own = home planned net in
      let by : Bool → ℕ = λ here. if here then slice_index leads net else brought node net in
      let by_driver : Bool → ℕ = λ here. if here then greatest_read (lead planned node) (driving_cell ordered.flat net) else brought_at planned node net in
      let if_home = λ (is : eqb own node ≡ true). ap (λ (at : ℕ). lead planned at net) (sym (eqb-true own node is)) ∙ right ∙ sym (ap by is) in
      let if_away = λ (is : eqb own node ≡ false). settles node net ∙ ap by_driver is ∙ brought_is node net ∙ sym (ap by is) in
      ⊎_elim if_home if_away (cases_Bool (eqb own node))

  pub usable_is : (node net : ℕ) → lead (planned_board ordered board plan) (home (planned_board ordered board plan) net) net ≡ slice_index leads net
      → usable (planned_board ordered board plan) node net ≡ usable_so_far ordered.flat board plan.chip_of routes hops leads node net
  usable_is node net right =
      let settle = if is_gate (driving_cell ordered.flat net) && eqb (home planned net) node then board.settle else 0 in
      ap (λ (at : ℕ). at + settle) (lead_is node net right)
