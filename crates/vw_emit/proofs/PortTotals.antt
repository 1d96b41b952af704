-- The ports of all nodes are no more than the columns, outputs and latches of a planned board, and two for each pin.
use Rattle.std.proofs.Common.{◌≡◌, ◌≤◌, ◌+◌, ◌==◌, ℕ, zero, suc, Bool, true, false, cond, List, [], ◌∷◌, length, slice_index, refl, sym, eqb-true, arith}
use Rattle.std.specs.Prelude.{sum_by}
use Rattle.std.specs.List.{range_with_len}
use Rattle.std.proofs.lemmas.List.{length-append}
use Rattle.std.proofs.lemmas.List.Sums.{sum_by-cons, sum_by-le-sum_by}
use Rattle.vw_net.specs.Cells.{latch_count}
use Rattle.vw_net.specs.Gathered.{gather, listed}
use Rattle.vw_net.specs.declared.cell.Cell.{Cell}
use Rattle.vw_net.specs.declared.cell.Cell.TheVariants.{Gate, Latch}
use Rattle.vw_net.proofs.ListedLists.{sum_gather}
use Rattle.vw_net.proofs.SumsOverLists.{sum_agree, sum_flat_map, sum_plus}
use Rattle.vw_plan.specs.PlannedBoard.{PlannedBoard}
use Rattle.vw_plan.specs.Sound.{IsSound}
use Rattle.vw_plan.specs.declared.link.Link.{Link}
use Rattle.vw_plan.proofs.HopsOfWires.{at_place}
use Rattle.vw_emit_text.specs.Emitted.{pin_cells, pin_delays, used_delay}
use Rattle.vw_emit_hardware.specs.Items.{User, users}
use Rattle.vw_emit_hardware.specs.Locals.{Local, column, pin_in, pin_out, result}
use Rattle.vw_emit_hardware.specs.Ports.{latch_port, node_inputs, node_outputs, pin_ports, used_port}
use Rattle.vw_emit_names.specs.Boards.{node_ports}
use Rattle.vw_emit.proofs.CellTotals.{cell_total, node_total}
use Rattle.vw_emit.proofs.Totals.{length_singles, total, total_listed}

-- ---- a used pin has cells, as its link has a delay

module _ (planned : PlannedBoard) (link : Link) (timely : 1 ≤ link.delay) where
  one_pin : (port : Local) (list : List User) → length (used_port port list) ≤ sum_by (λ delay. delay) (used_delay link.delay list)
  one_pin port [] = omega arith
  one_pin port (user ∷ others) = omega (arith, timely, sum_by-cons (λ (delay : ℕ). delay) link.delay [])

  few_ports : (port : ℕ → Local) → length (pin_ports port planned link) ≤ sum_by (λ delay. delay) (pin_delays planned link)
  few_ports port = upto link.width where
    upto : (width : ℕ) → length (gather (λ pin. used_port (port pin) (users planned link pin)) width)
        ≤ sum_by (λ delay. delay) (gather (λ pin. used_delay link.delay (users planned link pin)) width)
    upto zero = omega arith
    upto (suc pin) =
        omega (
          arith,
          upto pin,
          one_pin (port pin) (users planned link pin),
          length-append (gather (λ pin. used_port (port pin) (users planned link pin)) pin) (used_port (port pin) (users planned link pin)),
          sum_gather (λ (delay : ℕ). delay) (λ pin. used_delay link.delay (users planned link pin)) pin,
        )

-- ---- ports

module _ (planned : PlannedBoard) (from count : ℕ) where
  latch_one : Cell → ℕ
  latch_one (Gate ins cover) = 0
  latch_one (Latch d init) = 1

  few_latches : (node cell : ℕ) (is : Cell) → length (latch_port cell is) ≤ latch_one is
  unfolding latch_one
  few_latches node cell (Gate ins cover) = omega arith
  few_latches node cell (Latch d init) = omega arith

  all_latches : (cells : List Cell) → sum_by latch_one cells ≡ latch_count cells
  unfolding latch_one
  all_latches [] = refl
  all_latches (Gate ins cover ∷ cells) = let is : Cell = Gate ins cover in omega (arith, sum_by-cons latch_one is cells, all_latches cells)
  all_latches (Latch d init ∷ cells) = let is : Cell = Latch d init in omega (arith, sum_by-cons latch_one is cells, all_latches cells)

  module _ (sound : IsSound planned) where
    -- the ports of pins at one of their ends
    pins_total : (end : Link → ℕ) (port : ℕ → ℕ → Local)
        → total (λ node. length (listed (λ at link. cond (end link == node) (pin_ports (port at) planned link) []) 0 planned.board.links)) from count ≤ pin_cells planned
    pins_total end port =
        let cells = λ (link : Link). sum_by (λ delay. delay) (pin_delays planned link) in
        let whole = total_listed (λ node at link. cond (end link == node) (pin_ports (port at) planned link) []) cells from count 0 planned.board.links (λ place link there at.
        let timely = at_place (λ (one : Link). (1 ≤ one.delay) × (one.delay ≤ 16)) planned.board.links place link planned.board.linked.separate.timely there in
        node_total planned from count (end link) (λ node. end link == node) (λ node own. sym (eqb-true (end link) node own)) (λ node. pin_ports (port at) planned link) (cells link)
        (λ node. few_ports planned link timely.0 (port at))) in
        omega (arith, whole, sum_flat_map (λ (delay : ℕ). delay) (pin_delays planned) planned.board.links)

    inputs_total : total (λ node. length (node_inputs planned node)) from count ≤ planned.ordered.flat.inputs + pin_cells planned
    inputs_total =
        let numbers = range_with_len from count in
        let own = λ (node : ℕ). cond (node == 0) (gather (λ number. column number ∷ []) planned.ordered.flat.inputs) [] in
        let pins = λ (node : ℕ). listed (λ at link. cond (link.to == node) (pin_ports (pin_in at) planned link) []) 0 planned.board.links in
        let whole = sum_agree (λ (node : ℕ). length (node_inputs planned node)) (λ (node : ℕ). length (own node) + length (pins node)) numbers (λ node. length-append (own node) (pins node)) in
        let both = sum_plus (λ (node : ℕ). length (own node)) (λ (node : ℕ). length (pins node)) numbers in
        let columns = node_total planned from count 0 (λ node. node == 0) (λ node is. eqb-true node 0 is) (λ node. gather (λ number. column number ∷ []) planned.ordered.flat.inputs) planned.ordered.flat.inputs
        (λ node. let long = length_singles column planned.ordered.flat.inputs in omega (arith, long)) in
        omega (arith, whole, both, columns, pins_total (λ link. link.to) pin_in)

    outputs_total : total (λ node. length (node_outputs planned node)) from count ≤ pin_cells planned + (length planned.ordered.flat.outputs + latch_count planned.ordered.flat.cells)
    outputs_total =
        let numbers = range_with_len from count in
        let pins = λ (node : ℕ). listed (λ at link. cond (link.from == node) (pin_ports (pin_out at) planned link) []) 0 planned.board.links in
        let shown : List Local = gather (λ output. result output ∷ []) (length planned.ordered.flat.outputs) in
        let latches = λ (node : ℕ). listed (λ cell is. cond (slice_index planned.plan.chip_of cell == node) (latch_port cell is) []) 0 planned.ordered.flat.cells in
        let whole = sum_by-le-sum_by (λ (node : ℕ). length (node_outputs planned node)) (λ (node : ℕ). length (pins node) + (length (cond (node == 0) shown []) + length (latches node))) numbers (λ node.
        let parts = length-append (pins node) (cond (node == 0) shown (latches node)) in
        omega (arith, parts, either (node == 0) shown (latches node))) in
        let one = sum_plus (λ (node : ℕ). length (pins node)) (λ (node : ℕ). length (cond (node == 0) shown []) + length (latches node)) numbers in
        let two = sum_plus (λ (node : ℕ). length (cond (node == 0) shown [])) (λ (node : ℕ). length (latches node)) numbers in
        let results = node_total planned from count 0 (λ node. node == 0) (λ node is. eqb-true node 0 is) (λ node. shown) (length planned.ordered.flat.outputs)
        (λ node. let long = length_singles result (length planned.ordered.flat.outputs) in omega (arith, long)) in
        let own = cell_total planned from count (λ node cell is. latch_port cell is) latch_one few_latches planned.ordered.flat.cells in
        omega (arith, whole, one, two, results, own, all_latches planned.ordered.flat.cells, pins_total (λ link. link.from) pin_out) where
          either : (test : Bool) (one other : List Local) → length (cond test one other) ≤ length (cond test one []) + length other
          either true one other = omega arith
          either false one other = omega arith

    pub ports_total : total (λ node. length (node_ports planned node)) from count
        ≤ planned.ordered.flat.inputs + pin_cells planned + (pin_cells planned + (length planned.ordered.flat.outputs + latch_count planned.ordered.flat.cells))
    ports_total =
        let numbers = range_with_len from count in
        let whole = sum_agree (λ (node : ℕ). length (node_ports planned node)) (λ (node : ℕ). length (node_inputs planned node) + length (node_outputs planned node)) numbers (λ node. length-append (node_inputs planned node) (node_outputs planned node)) in
        let both = sum_plus (λ (node : ℕ). length (node_inputs planned node)) (λ (node : ℕ). length (node_outputs planned node)) numbers in
        omega (arith, whole, both, inputs_total, outputs_total)
