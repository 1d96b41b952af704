-- Leads that are those of their gates' inputs are the leads of the planned.
use Rattle.std.proofs.Common.{◌≡◌, ◌<◌, ◌+◌, ◌-◌, ◌∙◌, ℕ, suc, Bool, true, false, List, length, nat_lt, if◌then◌else◌, slice_get, slice_index, Option, Some, None, ap, ap₂, refl, sym, ⊎_elim, true≢false, arith, eq-eqb, le-ltb}
use Rattle.std.specs.List.{All}
use Rattle.std.proofs.lemmas.Bool.{cases_Bool}
use Rattle.vw_net.specs.declared.cell.Cell.{Cell}
use Rattle.vw_net.specs.declared.cell.Cell.TheVariants.{Gate, Latch}
use Rattle.vw_net.specs.declared.ordered.Ordered.{Ordered}
use Rattle.vw_net.specs.Order.{is_gate, gate_inputs}
use Rattle.vw_plan.specs.declared.board.Board.{Board}
use Rattle.vw_plan.specs.declared.need.Route.{Route}
use Rattle.vw_plan.specs.declared.plan.Plan.{Plan}
use Rattle.vw_plan.specs.declared.wire.Hop.{Hop}
use Rattle.vw_plan.specs.Lead.{brought_at, lead}
use Rattle.vw_plan.specs.Nets.{driving_cell, greatest_read}
use Rattle.vw_plan.specs.PlannedBoard.{PlannedBoard, home, planned_board}
use Rattle.vw_plan.proofs.AlongOrder.{every_net}
use Rattle.vw_plan.proofs.LeadLevels.{lead-by_driver}
use Rattle.vw_pipe.specs.Steps.Leads.{lead_so_far, wires_of}
use Rattle.vw_pipe.specs.Steps.Underway.{lead_at_place}
use Rattle.vw_plan.proofs.GreatestReads.{greatest_read-agree}
use Rattle.vw_net.proofs.Orders.{among_at}
use Rattle.vw_pipe.proofs.BroughtLeads.{lead_is}
use Rattle.vw_pipe.proofs.SettledReads.{gate_number}

-- what no gate drives has lead 0
no_gate_zero : (lead_at : ℕ → ℕ) (cell : Option Cell) → is_gate cell ≡ false → greatest_read lead_at cell ≡ 0
no_gate_zero lead_at None none = refl
no_gate_zero lead_at (Some (Gate ins cover)) none = absurd (true≢false none)
no_gate_zero lead_at (Some (Latch d init)) none = refl

-- leads and hops of a plan, in which the lead of each gate is worked out from what the gate reads
pub record HasRightLeads (ordered : Ordered) (board : Board) (plan : Plan) (routes : List Route) (hops : List (List Hop)) (leads : List ℕ) : Type 0 where
  pub long : length hops ≡ length routes
  pub wires : plan.wires ≡ wires_of routes hops
  pub worked : (place : ℕ) → place < length ordered.order
      → slice_index leads (ordered.flat.inputs + slice_index ordered.order place) ≡ lead_at_place ordered board plan.chip_of routes hops leads place
  pub zero_at : (net : ℕ) → is_gate (driving_cell ordered.flat net) ≡ false → slice_index leads net ≡ 0

module _ {ordered : Ordered} {board : Board} {plan : Plan} {routes : List Route} {hops : List (List Hop)} {leads : List ℕ}
    (has : HasRightLeads ordered board plan routes hops leads) where
  abbrev planned : PlannedBoard
  planned = planned_board ordered board plan

  -- the lead of a net at a node, in the plan and by the hops and leads
  abbrev lead_at : ℕ → ℕ → ℕ
  lead_at = lead planned

  abbrev lead_by : ℕ → ℕ → ℕ
  lead_by = lead_so_far ordered.flat board plan.chip_of routes hops leads

  abbrev IsRight : ℕ → ℕ → Type 0
  IsRight from net = lead planned (home planned net) net ≡ slice_index leads net

  -- at its own node
  own_lead : (net : ℕ) → lead_at (home planned net) net ≡ greatest_read (lead_at (home planned net)) (driving_cell ordered.flat net)
  own_lead net =
      let own = home planned net in
      let from_driver = greatest_read (lead_at own) (driving_cell ordered.flat net) in
      lead-by_driver planned own net ∙ ap (λ (here : Bool). if here then from_driver else brought_at planned own net) (eq-eqb own own refl)

  -- where a net is right at home, it is right at each node
  pub right_at : (node net : ℕ) → lead (planned_board ordered board plan) (home (planned_board ordered board plan) net) net ≡ slice_index leads net
      → lead (planned_board ordered board plan) node net ≡ lead_so_far ordered.flat board plan.chip_of routes hops leads node net
  right_at node net right = lead_is ordered board plan routes hops leads has.wires (lead-by_driver planned) node net right

  -- a net is right if the nets that its gate reads are
  right_step : (from net : ℕ) → All (IsRight from) (gate_inputs (driving_cell ordered.flat net)) → IsRight (suc from) net
  right_step from net reads =
      let flat = ordered.flat in
      let own = home planned net in
      let driver = driving_cell flat net in
      let if_gate = λ (gate : is_gate driver ≡ true).
      let its = gate_number flat net gate in
      let found = among_at ordered.order (net - flat.inputs) (sym (ordered.is_order.each (net - flat.inputs)) ∙ its.1) in
      let its_number = slice_index ordered.order found.0 in
      let number : its_number ≡ net - flat.inputs = found.2 in
      let same : flat.inputs + its_number ≡ net = omega (arith, its.0, number) in
      let no_input : nat_lt net flat.inputs ≡ false = le-ltb net flat.inputs its.0 in
      let its_driver : driver ≡ slice_get flat.cells its_number =
      ap (λ (bit : Bool). if bit then None else slice_get flat.cells (net - flat.inputs)) no_input ∙ ap (slice_get flat.cells) (sym number) in
      let its_node : own ≡ slice_index plan.chip_of its_number =
      ap (λ (bit : Bool). if bit then 0 else slice_index plan.chip_of (net - flat.inputs)) no_input ∙ ap (slice_index plan.chip_of) (sym number) in
      own_lead net
      ∙ greatest_read-agree (lead_at own) (lead_by own) driver (λ place default within. right_at own _ (reads place default within))
      ∙ ap₂ (λ (at : ℕ) (cell : Option Cell). greatest_read (lead_by at) cell) its_node its_driver
      ∙ sym (has.worked found.0 found.1) ∙ ap (slice_index leads) same in
      let if_not = λ (no : is_gate driver ≡ false). own_lead net ∙ no_gate_zero (lead_at own) driver no ∙ sym (has.zero_at net no) in
      ⊎_elim if_gate if_not (cases_Bool (is_gate driver))

  pub leads_right : (net : ℕ) → lead (planned_board ordered board plan) (home (planned_board ordered board plan) net) net ≡ slice_index leads net
  leads_right net = every_net ordered IsRight (λ from to other before right. right) right_step net
