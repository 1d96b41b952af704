-- What stays when leads and hops are added that nothing done rests on.
use Rattle.std.proofs.Common.{◌≡◌, ◌<◌, ◌+◌, ◌∙◌, ◌∷◌, ◌&&◌, ℕ, suc, Bool, true, false, List, [], length, eqb, if◌then◌else◌, slice_get, slice_index, slice_index_or, ap, refl, sym, ⊎_elim, true≢false, arith, eqb-true, eq-eqb}
use Rattle.std.specs.List.{All}
use Rattle.std.proofs.lemmas.Bool.{cases_Bool}
use Rattle.vw_net.specs.declared.ordered.Ordered.{Ordered}
use Rattle.vw_net.specs.Order.{is_gate, gate_inputs}
use Rattle.vw_plan.specs.declared.board.Board.{Board}
use Rattle.vw_plan.specs.declared.need.Route.{Route}
use Rattle.vw_plan.specs.declared.wire.Hop.{Hop}
use Rattle.vw_plan.specs.Lead.{after_last}
use Rattle.vw_plan.specs.Nets.{driving_cell, node_of}
use Rattle.vw_plan.proofs.GreatestReads.{greatest_read-agree}
use Rattle.vw_pipe.specs.declared.task.Task.{Task}
use Rattle.vw_pipe.specs.Steps.Leads.{route_hops_to, lead_so_far}
use Rattle.vw_pipe.specs.Steps.Underway.{is_passed, lead_at_place, ready_by}

-- the number of the first route that brings a net to a node; that of the routes where there is none
abbrev pub route_place : List Route → ℕ → ℕ → ℕ
route_place [] net node = 0
route_place (route ∷ routes) net node = if eqb route.net net && eqb route.to node then 0 else suc (route_place routes net node)

-- its hops are those that bring the net there
pub route_hops_to-place : (routes : List Route) (hops : List (List Hop)) (node net : ℕ) → length hops ≡ length routes
    → route_hops_to routes hops node net ≡ slice_index_or hops (route_place routes net node) []
route_hops_to-place [] [] node net long = refl
route_hops_to-place [] (sent ∷ hops) node net long = absurd (omega (arith, long))
route_hops_to-place (route ∷ routes) [] node net long = absurd (omega (arith, long))
route_hops_to-place (route ∷ routes) (sent ∷ hops) node net long =
    let rest = route_hops_to-place routes hops node net (omega (arith, long)) in
    let place_in : Bool → ℕ = λ here. if here then 0 else suc (route_place routes net node) in
    let hops_in : Bool → List Hop = λ here. if here then sent else route_hops_to routes hops node net in
    elim (eqb route.net net && eqb route.to node) as (λ here. hops_in here ≡ slice_index_or (sent ∷ hops) (place_in here) []) [
      | true ↦ refl
      | false ↦ rest
    ]

module _ (ordered : Ordered) (board : Board) (chip_of : List ℕ) (routes : List Route) (tasks : List Task) (count : ℕ) where
  -- if a gate drives a net, its lead is worked out
  abbrev pub IsHomeDone : ℕ → Type 0
  IsHomeDone net = is_gate (driving_cell ordered.flat net) ≡ true
      → (place : ℕ) × (place < length ordered.order) × (net ≡ ordered.flat.inputs + slice_index ordered.order place)
      × (is_passed tasks count false place ≡ true)

  -- the lead of a net at a node rests on what is done
  abbrev pub RestsOnDone : ℕ → ℕ → Type 0
  RestsOnDone node net = (node_of ordered.flat chip_of net ≡ node → IsHomeDone net)
      × ((node_of ordered.flat chip_of net ≡ node → ⊥) → is_passed tasks count true (route_place routes net node) ≡ true)

  -- so does the lead of all that the gate at a place of the order reads
  abbrev pub ReadsRestOnDone : ℕ → Type 0
  ReadsRestOnDone place = let number = slice_index ordered.order place in
      All (RestsOnDone (slice_index chip_of number)) (gate_inputs (slice_get ordered.flat.cells number))

  -- hops and leads are the same where something is done
  pub record AreUntouched (hops more : List (List Hop)) (leads later : List ℕ) : Type 0 where
    pub long : length hops ≡ length routes
    pub long_more : length more ≡ length routes
    pub leads_same : (net : ℕ) → IsHomeDone net → slice_index later net ≡ slice_index leads net
    pub hops_same : (number : ℕ) → is_passed tasks count true number ≡ true → slice_index_or more number [] ≡ slice_index_or hops number []

module _ {ordered : Ordered} {board : Board} {chip_of : List ℕ} {routes : List Route} {tasks : List Task} {count : ℕ}
    {hops more : List (List Hop)} {leads later : List ℕ}
    (kept : AreUntouched ordered board chip_of routes tasks count hops more leads later) where
  -- the leads before, and those now
  abbrev lead_before : ℕ → ℕ → ℕ
  lead_before = lead_so_far ordered.flat board chip_of routes hops leads

  abbrev lead_now : ℕ → ℕ → ℕ
  lead_now = lead_so_far ordered.flat board chip_of routes more later

  pub lead_kept : (node net : ℕ) → RestsOnDone ordered board chip_of routes tasks count node net
      → lead_so_far ordered.flat board chip_of routes more later node net ≡ lead_so_far ordered.flat board chip_of routes hops leads node net
  lead_kept node net settled =
      let own = node_of ordered.flat chip_of net in
      let place = route_place routes net node in
      let now : Bool → ℕ = λ home. if home then slice_index later net else after_last board.links (route_hops_to routes more node net) in
      let before : Bool → ℕ = λ home. if home then slice_index leads net else after_last board.links (route_hops_to routes hops node net) in
      let if_home = λ (is : eqb own node ≡ true). ap now is ∙ kept.leads_same net (settled.0 (eqb-true own node is)) ∙ sym (ap before is) in
      let if_away = λ (is : eqb own node ≡ false).
      let apart : own ≡ node → ⊥ = λ same. true≢false (sym (eq-eqb own node same) ∙ is) in
      let hops_now = route_hops_to-place routes more node net kept.long_more in
      let hops_before = route_hops_to-place routes hops node net kept.long in
      ap now is ∙ ap (after_last board.links) (hops_now ∙ kept.hops_same place (settled.1 apart) ∙ sym hops_before) ∙ sym (ap before is) in
      ⊎_elim if_home if_away (cases_Bool (eqb own node))

  -- the lead of a gate that reads what is settled
  pub place_kept : (place : ℕ) → ReadsRestOnDone ordered board chip_of routes tasks count place
      → lead_at_place ordered board chip_of routes more later place ≡ lead_at_place ordered board chip_of routes hops leads place
  place_kept place settled =
      let number = slice_index ordered.order place in
      let node = slice_index chip_of number in
      let cell = slice_get ordered.flat.cells number in
      greatest_read-agree (lead_now node) (lead_before node) cell (λ at default within. lead_kept node _ (settled at default within))

  -- when a net is usable at home
  pub ready_kept : (net : ℕ) → IsHomeDone ordered board chip_of routes tasks count net
      → ready_by ordered board chip_of routes more later net ≡ ready_by ordered board chip_of routes hops leads net
  ready_kept net home =
      let node = node_of ordered.flat chip_of net in
      let settle = if is_gate (driving_cell ordered.flat net) && eqb node node then board.settle else 0 in
      ap (λ (lead : ℕ). lead + settle) (lead_kept node net (λ _. home, λ apart. absurd (apart refl)))
