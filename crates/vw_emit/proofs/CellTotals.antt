-- The items of all nodes are no more than the cells that are counted of a planned board.
use Rattle.std.proofs.Common.{◌≡◌, ◌∙◌, ◌≤◌, ◌+◌, ◌-◌, ◌*◌, ◌++◌, ◌==◌, ℕ, zero, suc, Bool, true, false, cond, List, [], ◌∷◌, length, map, replicate, slice_get, slice_index, Option, Some, None, ap, ap₂, refl, sym, eqb-true, ne_eqb, arith}
use Rattle.std.specs.Prelude.{sum_by}
use Rattle.std.specs.List.{AllByRecursion, flat_map, range_with_len}
use Rattle.std.proofs.lemmas.List.{length-append, length-map}
use Rattle.std.proofs.lemmas.List.Concat.{length-flat_map}
use Rattle.std.proofs.lemmas.List.Sums.{sum_by-cons}
use Rattle.vw_net.specs.Cells.{latch_count}
use Rattle.vw_net.specs.Gathered.{gather, listed}
use Rattle.vw_net.specs.Sorting.{put, sorted}
use Rattle.vw_net.specs.declared.cell.Cell.{Cell}
use Rattle.vw_net.specs.declared.cell.Cell.TheVariants.{Gate, Latch}
use Rattle.vw_net.proofs.ListedLists.{listed_plain}
use Rattle.vw_net.proofs.SumsOverLists.{sum_agree, sum_plus}
use Rattle.vw_plan.specs.HopCounts.{hop_count}
use Rattle.vw_plan.specs.PlannedBoard.{PlannedBoard}
use Rattle.vw_plan.specs.Sound.{IsSound}
use Rattle.vw_plan.specs.declared.link.Link.{Link}
use Rattle.vw_plan.specs.declared.wire.Hop.{Hop}
use Rattle.vw_plan.specs.declared.wire.Wire.{Wire}
use Rattle.vw_plan.proofs.HopLinks.{hop_facts}
use Rattle.vw_emit_text.specs.Emitted.{emitted_cells}
use Rattle.vw_emit_text.specs.Outlets.{hops_of_wire, hops_of_wires, leaves_before, numbered_hops, outlets, outlets_behind}
use Rattle.vw_emit_text.specs.Steps.{outlet_cells}
use Rattle.vw_emit_text.specs.declared.numbered_hop.NumberedHop.{NumberedHop}
use Rattle.vw_emit_text.specs.declared.outlet.Outlet.{Outlet}
use Rattle.vw_emit_hardware.specs.Items.{User, cell_items, delay_item, gate_items, hop_items, hops_to, latch_items, late_name, link_items, node_items, pin_items, pins_from, results, send_item, sequencer, ring_stage, users, wire_items}
use Rattle.vw_emit_hardware.specs.Locals.{pin_out, result, table}
use Rattle.vw_emit_hardware.specs.Names.{name_at}
use Rattle.vw_emit_hardware.specs.Tables.{pass}
use Rattle.vw_emit_text.proofs.Blocks.{in_turn}
use Rattle.vw_emit_text.proofs.ByPins.{IsOf, by_pins}
use Rattle.vw_emit_text.proofs.PinCells.{pins_are}
use Rattle.vw_emit_text.proofs.PinUsers.{user_of}
use Rattle.vw_emit_text.proofs.HopItems.{hop_items_are}
use Rattle.vw_emit.proofs.Totals.{length_singles, length_when, total, total_listed, total_one, total_same}

-- ---- hops in order

length_put : (before : NumberedHop → NumberedHop → Bool) (x : NumberedHop) (xs : List NumberedHop) → length (put before x xs) ≡ suc (length xs)
length_put before x [] = refl
length_put before x (y ∷ ys) = by (before y x) (length_put before x ys) where
  by : (behind : Bool) → length (put before x ys) ≡ suc (length ys) → length (cond behind (y ∷ put before x ys) (x ∷ y ∷ ys)) ≡ suc (suc (length ys))
  by true rest = omega (arith, rest)
  by false rest = refl

length_sorted : (before : NumberedHop → NumberedHop → Bool) (xs : List NumberedHop) → length (sorted before xs) ≡ length xs
length_sorted before [] = refl
length_sorted before (x ∷ xs) = omega (arith, length_put before x (sorted before xs), length_sorted before xs)

length_wire : (links : List Link) (net wire number : ℕ) (hops : List Hop) → length (hops_of_wire links net wire number hops) ≡ length hops
length_wire links net wire number [] = refl
length_wire links net wire number (hop ∷ hops) = ap suc (length_wire links net wire (suc number) hops)

length_wires : (links : List Link) (number : ℕ) (wires : List Wire) → length (hops_of_wires links number wires) ≡ hop_count wires
length_wires links number [] = refl
length_wires links number (wire ∷ wires) =
    omega (
      arith,
      length-append (hops_of_wire links wire.net number 0 wire.hops) (hops_of_wires links (suc number) wires),
      length_wire links wire.net number 0 wire.hops,
      length_wires links (suc number) wires,
      sum_by-cons (λ (one : Wire). length one.hops) wire wires,
    )

length_behind : (before : Option NumberedHop) (number : ℕ) (hops : List NumberedHop) → length (outlets_behind before number hops) ≡ length hops
length_behind before number [] = refl
length_behind before number (hop ∷ hops) = ap suc (length_behind (Some hop) _ hops)

pub length_outlets : (planned : PlannedBoard) → length (outlets planned) ≡ hop_count planned.plan.wires
length_outlets planned =
    length_behind None 0 (sorted leaves_before (numbered_hops planned))
    ∙ length_sorted leaves_before (numbered_hops planned) ∙ length_wires planned.board.links 0 planned.plan.wires

-- ---- lists

module _ {A X : Type 0} where
  length_listed : (each : ℕ → A → X) (number : ℕ) (xs : List A) → length (listed (λ k x. each k x ∷ []) number xs) ≡ length xs
  length_listed each number [] = refl
  length_listed each number (x ∷ xs) = ap suc (length_listed each (suc number) xs)

module _ {A : Type 0} where
  sum_same : (value : ℕ) (xs : List A) → sum_by (λ (x : A). value) xs ≡ length xs * value
  sum_same value [] = let none : 0 * value ≡ 0 = omega arith in sym none
  sum_same value (x ∷ xs) =
      let more : suc (length xs) * value ≡ value + length xs * value = omega arith in
      omega (arith, sum_by-cons (λ (one : A). value) x xs, sum_same value xs, more)

module _ {X Y : Type 0} where
  -- gathered lists that are as long, number by number
  pub length_gathered : (one : ℕ → List X) (other : ℕ → List Y) (count : ℕ) → ((number : ℕ) → length (one number) ≡ length (other number))
      → length (gather one count) ≡ length (gather other count)
  length_gathered one other zero same = refl
  length_gathered one other (suc count) same =
      omega (arith, length-append (gather one count) (one count), length-append (gather other count) (other count), length_gathered one other count same, same count)

-- ---- pins

-- so many zeros
abbrev zeros : ℕ → List ℕ
zeros count = replicate count 0

length_zeros : (count : ℕ) → length (zeros count) ≡ count
length_zeros zero = refl
length_zeros (suc count) = ap suc (length_zeros count)

abbrev nought : User → ℕ
nought user = 0

-- as many zeros as a pin with these users has items, where a bit is under way for so long
zeros_of : ℕ → List User → List ℕ
zeros_of lag [] = []
zeros_of lag (user ∷ others) = 0 ∷ (zeros (suc lag) ++ map nought others)

pin_length : (at pin lag : ℕ) (list : List User) → length (pin_items at pin lag list) ≡ length (zeros_of lag list)
unfolding zeros_of
pin_length at pin lag [] = refl
pin_length at pin lag (user ∷ others) =
    let sends = listed (λ number one. send_item at pin number one ∷ []) 0 (user ∷ others) in
    let delays = gather (λ later. delay_item at pin (length others) later ∷ []) lag in
    let zero_list = zeros (suc lag) in
    let last = table (late_name at pin (length others) lag ∷ []) (pin_out at pin) true pass ∷ [] in
    omega (
      arith,
      length-append sends (delays ++ last),
      length-append delays last,
      length_listed (send_item at pin) 0 (user ∷ others),
      length_singles (delay_item at pin (length others)) lag,
      length-append zero_list (map nought others),
      length_zeros (suc lag),
      length-map others nought,
    )

-- what an outlet counts: 1, and at the first hop of a pin its registers and its port
zeros_at : Outlet → List ℕ
zeros_at outlet = 0 ∷ cond (outlet.number == 0) (zeros (suc (outlet.hop.arrival - outlet.hop.at))) []

later_zeros : (planned : PlannedBoard) (k : ℕ) (hops : List NumberedHop) → flat_map zeros_at (in_turn (suc k) hops) ≡ map nought (map (user_of planned) hops)
unfolding zeros_at
later_zeros planned k [] = refl
later_zeros planned k (hop ∷ hops) =
    let other = ne_eqb (suc k) 0 (λ same. omega (arith, same)) in
    let rest = flat_map zeros_at (in_turn (suc (suc k)) hops) in
    ap (λ (test : Bool). 0 ∷ (cond test (zeros (suc (hop.arrival - hop.at))) [] ++ rest)) other ∙ ap (λ (behind : List ℕ). 0 ∷ behind) (later_zeros planned (suc k) hops)

pin_zeros : (planned : PlannedBoard) (number pin : ℕ) (link : Link) (hops : List NumberedHop)
    → slice_get planned.board.links number ≡ Some link → AllByRecursion (IsOf planned number pin link) hops
    → flat_map zeros_at (in_turn 0 hops) ≡ zeros_of (link.delay - 1) (map (user_of planned) hops)
unfolding zeros_of zeros_at
pin_zeros planned number pin link [] there all = refl
pin_zeros planned number pin link (hop ∷ hops) there all =
    ap₂ (λ (lag : ℕ) (rest : List ℕ). 0 ∷ (zeros (suc lag) ++ rest)) all.0.goes.late (later_zeros planned 0 hops)

outlet_zeros : (outlet : Outlet) → length (zeros_at outlet) ≡ 1 + cond (outlet.number == 0) (outlet.hop.arrival - outlet.hop.at + 1) 0
unfolding zeros_at
outlet_zeros outlet = by (outlet.number == 0) where
  by : (first : Bool)
      → suc (length (cond first (zeros (suc (outlet.hop.arrival - outlet.hop.at))) [])) ≡ 1 + cond first (outlet.hop.arrival - outlet.hop.at + 1) 0
  by true = omega (arith, length_zeros (suc (outlet.hop.arrival - outlet.hop.at)))
  by false = omega arith

module _ (planned : PlannedBoard) (from count : ℕ) where
  -- ---- what is at one node alone

  -- cells
  pub cell_total : {X : Type 0} (of_cell : ℕ → ℕ → Cell → List X) (most : Cell → ℕ)
      → ((node cell : ℕ) (is : Cell) → length (of_cell node cell is) ≤ most is) → (cells : List Cell)
      → total (λ node. length (listed (λ cell is. cond (slice_index planned.plan.chip_of cell == node) (of_cell node cell is) []) 0 cells)) from count ≤ sum_by most cells
  cell_total {X} of_cell most few cells =
      total_listed (λ node cell is. cond (slice_index planned.plan.chip_of cell == node) (of_cell node cell is) []) most from count 0 cells (λ place is at cell.
      let own = slice_index planned.plan.chip_of cell in
      let same = sum_agree (λ (node : ℕ). length (cond (own == node) (of_cell node cell is) [])) (λ (node : ℕ). cond (own == node) (length (of_cell node cell is)) 0) (range_with_len from count) (λ node. length_when (own == node) (of_cell node cell is)) in
      let whole = total_one own (λ node. own == node) (λ node is_own. sym (eqb-true own node is_own)) (λ node. length (of_cell node cell is)) (most is) (λ node. few node cell is) from count in
      omega (arith, same, whole))

  -- what is at one node, and there within a bound
  pub node_total : {X : Type 0} (own : ℕ) (test : ℕ → Bool) → ((node : ℕ) → test node ≡ true → node ≡ own) → (list : ℕ → List X) (most : ℕ)
      → ((node : ℕ) → length (list node) ≤ most)
      → total (λ node. length (cond (test node) (list node) [])) from count ≤ most
  node_total {X} own test only list most few =
      let same = sum_agree (λ (node : ℕ). length (cond (test node) (list node) [])) (λ (node : ℕ). cond (test node) (length (list node)) 0) (range_with_len from count) (λ node. length_when (test node) (list node)) in
      omega (arith, same, total_one own test only (λ node. length (list node)) most few from count)

  -- ---- gates and latches

  gate_most : Cell → ℕ
  gate_most (Gate ins cover) = 1
  gate_most (Latch d init) = 0

  latch_most : Cell → ℕ
  latch_most (Gate ins cover) = 0
  latch_most (Latch d init) = 2

  few_gates : (node cell : ℕ) (is : Cell) → length (gate_items planned node cell is) ≤ gate_most is
  unfolding gate_most
  few_gates node cell (Gate ins cover) = omega arith
  few_gates node cell (Latch d init) = omega arith

  few_latches : (node cell : ℕ) (is : Cell) → length (latch_items planned node cell is) ≤ latch_most is
  unfolding latch_most
  few_latches node cell (Gate ins cover) = omega arith
  few_latches node cell (Latch d init) = omega arith

  both_most : (cells : List Cell) → sum_by gate_most cells + sum_by latch_most cells ≡ length cells + latch_count cells
  unfolding gate_most latch_most
  both_most [] = refl
  both_most (Gate ins cover ∷ cells) =
      let is : Cell = Gate ins cover in omega (arith, sum_by-cons gate_most is cells, sum_by-cons latch_most is cells, both_most cells)
  both_most (Latch d init ∷ cells) =
      let is : Cell = Latch d init in omega (arith, sum_by-cons gate_most is cells, sum_by-cons latch_most is cells, both_most cells)

  -- ---- all items

  module _ (sound : IsSound planned) where
    hop_length : (wire number place : ℕ) (is : Wire) (hop : Hop) → slice_get planned.plan.wires place ≡ Some is → (at : ℕ)
        → slice_get is.hops at ≡ Some hop → length (hop_items planned wire number hop) ≤ 2
    hop_length wire number place is hop there at stands =
        let own = (hop_facts planned sound place at is hop there stands).over in
        let same = ap length (hop_items_are planned sound wire number hop own) in
        omega (arith, same)

    hops_total : total (λ node. length (hops_to planned node)) from count ≤ 2 * hop_count planned.plan.wires
    hops_total =
        let whole = total_listed (wire_items planned) (λ wire. 2 * length wire.hops) from count 0 planned.plan.wires of_wire in
        omega (arith, whole, twice planned.plan.wires) where
          twice : (wires : List Wire) → sum_by (λ (wire : Wire). 2 * length wire.hops) wires ≡ 2 * hop_count wires
          twice [] = refl
          twice (wire ∷ wires) = omega (arith, sum_by-cons (λ (one : Wire). 2 * length one.hops) wire wires, sum_by-cons (λ (one : Wire). length one.hops) wire wires, twice wires)

          of_wire : (place : ℕ) (is : Wire) → slice_get planned.plan.wires place ≡ Some is → (wire : ℕ)
              → total (λ node. length (wire_items planned node wire is)) from count ≤ 2 * length is.hops
          of_wire place is there wire =
              let whole = total_listed (λ node number hop. cond (hop.to == node) (hop_items planned wire number hop) []) (λ hop. 2) from count 0 is.hops (λ at hop stands number.
              node_total hop.to (λ node. hop.to == node) (λ node own. sym (eqb-true hop.to node own)) (λ node. hop_items planned wire number hop) 2 (λ node. hop_length wire number place is hop there at stands)) in
              omega (arith, whole, sum_same 2 is.hops)

    -- as many zeros as the pins of a link have items
    link_zeros : Link → List ℕ
    link_zeros link = gather (λ pin. zeros_of (link.delay - 1) (users planned link pin)) link.width

    pins_total : total (λ node. length (pins_from planned node)) from count ≤ hop_count planned.plan.wires + outlet_cells (outlets planned)
    unfolding link_zeros
    pins_total =
        let whole = total_listed (link_items planned) (λ link. length (link_zeros link)) from count 0 planned.board.links (λ place link there number.
        node_total link.from (λ node. link.from == node) (λ node own. sym (eqb-true link.from node own)) (λ node. gather (λ pin. pin_items number pin (link.delay - 1) (users planned link pin)) link.width) (length (link_zeros link))
        (λ node. let same = length_gathered (λ pin. pin_items number pin (link.delay - 1) (users planned link pin)) (λ pin. zeros_of (link.delay - 1) (users planned link pin)) link.width (λ pin. pin_length number pin (link.delay - 1) (users planned link pin)) in
        omega (arith, same))) in
        let all_zeros : flat_map zeros_at (outlets planned) ≡ flat_map link_zeros planned.board.links =
        by_pins planned sound zeros_at (λ number link pin list. zeros_of (link.delay - 1) list) (pin_zeros planned) ∙ listed_plain link_zeros 0 planned.board.links in
        let counted = length-flat_map zeros_at (outlets planned) in
        let spread = length-flat_map link_zeros planned.board.links in
        let each = sum_agree (λ (outlet : Outlet). length (zeros_at outlet)) (λ (outlet : Outlet). 1 + cond (outlet.number == 0) (outlet.hop.arrival - outlet.hop.at + 1) 0) (outlets planned) outlet_zeros in
        let two = sum_plus (λ (outlet : Outlet). 1) (λ (outlet : Outlet). cond (outlet.number == 0) (outlet.hop.arrival - outlet.hop.at + 1) 0) (outlets planned) in
        let ones = sum_same 1 (outlets planned) in
        let long = length_outlets planned in
        let same = ap length all_zeros in
        omega (arith, whole, same, counted, spread, each, two, ones, long)

    results_total : total (λ node. length (results planned node)) from count ≤ length planned.ordered.flat.outputs
    results_total =
        node_total 0 (λ node. node == 0) (λ node own. eqb-true node 0 own) (λ node. listed (λ output net. table (name_at planned 0 net ∷ []) (result output) true pass ∷ []) 0 planned.ordered.flat.outputs) (length planned.ordered.flat.outputs)
        (λ node. let long = length_listed (λ output net. table (name_at planned 0 net ∷ []) (result output) true pass) 0 planned.ordered.flat.outputs in omega (arith, long))

    stages_long : length (sequencer planned.plan.period) ≡ planned.plan.period + 1
    stages_long = omega (arith, length_singles ring_stage planned.plan.period)

    pub items_total : total (λ node. length (node_items planned node)) from count
        ≤ count * (planned.plan.period + 1) + (length planned.ordered.flat.cells + latch_count planned.ordered.flat.cells)
        + 3 * hop_count planned.plan.wires + outlet_cells (outlets planned) + length planned.ordered.flat.outputs
    items_total =
        let nodes = range_with_len from count in
        let a = λ (node : ℕ). planned.plan.period + 1 in
        let b = λ (node : ℕ). length (cell_items (gate_items planned) planned node) in
        let c = λ (node : ℕ). length (cell_items (latch_items planned) planned node) in
        let d = λ (node : ℕ). length (hops_to planned node) in
        let e = λ (node : ℕ). length (pins_from planned node) in
        let f = λ (node : ℕ). length (results planned node) in
        let whole = sum_agree (λ (node : ℕ). length (node_items planned node)) (λ (node : ℕ). a node + (b node + (c node + (d node + (e node + f node))))) nodes parts in
        let one = sum_plus a (λ (node : ℕ). b node + (c node + (d node + (e node + f node)))) nodes in
        let two = sum_plus b (λ (node : ℕ). c node + (d node + (e node + f node))) nodes in
        let three = sum_plus c (λ (node : ℕ). d node + (e node + f node)) nodes in
        let four = sum_plus d (λ (node : ℕ). e node + f node) nodes in
        let five = sum_plus e f nodes in
        let stages = total_same (planned.plan.period + 1) from count in
        let gates = cell_total (gate_items planned) gate_most few_gates planned.ordered.flat.cells in
        let latches = cell_total (latch_items planned) latch_most few_latches planned.ordered.flat.cells in
        omega (arith, whole, one, two, three, four, five, stages, gates, latches, both_most planned.ordered.flat.cells, hops_total, pins_total, results_total) where
          parts : (node : ℕ) → length (node_items planned node)
              ≡ planned.plan.period + 1 + (length (cell_items (gate_items planned) planned node) + (length (cell_items (latch_items planned) planned node)
              + (length (hops_to planned node) + (length (pins_from planned node) + length (results planned node)))))
          parts node =
              let gates = cell_items (gate_items planned) planned node in
              let latches = cell_items (latch_items planned) planned node in
              let hops = hops_to planned node in
              let pins = pins_from planned node in
              let outs = results planned node in
              omega (
                arith,
                stages_long,
                length-append (sequencer planned.plan.period) (gates ++ (latches ++ (hops ++ (pins ++ outs)))),
                length-append gates (latches ++ (hops ++ (pins ++ outs))),
                length-append latches (hops ++ (pins ++ outs)),
                length-append hops (pins ++ outs),
                length-append pins outs,
              )

    -- so they are no more than the cells that are counted
    pub items_few : from ≡ 0 → count ≡ planned.board.chips + 1 → total (λ node. length (node_items planned node)) from count ≤ emitted_cells planned
    items_few first all =
        let stages : count * (planned.plan.period + 1) ≡ (planned.board.chips + 1) * (planned.plan.period + 1) = ap (λ (n : ℕ). n * (planned.plan.period + 1)) all in
        omega (arith, stages, items_total, pins_are planned sound)
