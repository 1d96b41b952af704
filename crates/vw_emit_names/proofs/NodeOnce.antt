-- The nets that the inputs and the items of a node claim are all different.
use Rattle.std.proofs.Common.{◌≡◌, ◌≢◌, ◌<◌, ◌+◌, ◌-◌, ◌++◌, ◌==◌, ◌∙◌, ℕ, zero, suc, true, cond, List, [], ◌∷◌, length, map, slice_index, if◌then◌else◌, ap, refl, sym, subst, ⊎_elim, arith}
use Rattle.std.proofs.lemmas.List.{map-id}
use Rattle.std.proofs.lemmas.Option.{none-some}
use Rattle.vw_net.specs.Gathered.{gather, listed}
use Rattle.vw_net.specs.declared.cell.Cell.{Cell}
use Rattle.vw_net.specs.declared.cell.Cell.TheVariants.{Gate, Latch}
use Rattle.vw_net.specs.declared.cell.Init.TheVariants.{Zero as StartsAtZero}
use Rattle.vw_net.proofs.ListedLists.{StandsIn, from_append, from_gather, from_listed, from_when}
use Rattle.vw_plan.specs.Lead.{carries}
use Rattle.vw_plan.specs.PlannedBoard.{PlannedBoard}
use Rattle.vw_plan.specs.Sound.{IsSound}
use Rattle.vw_plan.specs.declared.link.Link.{Link}
use Rattle.vw_plan.specs.declared.wire.Hop.{Hop}
use Rattle.vw_plan.proofs.LinkDelays.{one_number, same_ends}
use Rattle.vw_design.proofs.DistinctNames.{AreOnce, once_append}
use Rattle.vw_design.proofs.ListElements.{Has, at-Has}
use Rattle.vw_emit_hardware.specs.Items.{User, catch_items, cell_items, delay_item, gate_items, hop_items, hops_to, late_name, latch_items, link_items, node_items, pin_items, pins_from, results, send_item, sequencer, ring_stage, users, wire_items}
use Rattle.vw_emit_hardware.specs.Locals.{Local, LocalItem, caught, column, coming, delayed, drives, gate, held, kept, moment, pin_in, pin_out, register, result, sent, table}
use Rattle.vw_emit_hardware.specs.Names.{name_at}
use Rattle.vw_emit_hardware.specs.Ports.{node_inputs, pin_ports, used_port}
use Rattle.vw_emit_hardware.specs.Tables.{cover_table, pass}
use Rattle.vw_emit_hardware.proofs.DrivenNets.{drives_gate}
use Rattle.vw_emit_hardware.proofs.Origins.{OfPin, catch_table, either, from_gates, from_hops, from_latches, from_pins, from_results, from_stages, latch_table, leaves, of_pin, only, sends, waits}
use Rattle.vw_emit_names.proofs.Codes.{first_number, head_number, letter, other_numbers, second_of}
use Rattle.vw_emit_names.proofs.OnceListed.{from_values, once_alone, once_both, once_gather, once_listed, once_when}

-- the part of a node's nets to which one belongs
abbrev part : Local → ℕ
part (column number) = 0
part (pin_in link pin) = 1
part (moment microcycle) = 2
part (gate cell) = 3
part (kept cell) = 4
part (coming cell) = 4
part (held wire hop) = 5
part (caught wire hop) = 5
part (sent link pin number) = 6
part (delayed link pin number) = 6
part (pin_out link pin) = 6
part (result output) = 7

abbrev second_number : Local → ℕ
second_number net = head_number (other_numbers net)

abbrev third_number : Local → ℕ
third_number net = second_of (other_numbers net)

-- nets with different letters are different
letters_differ : (one other : Local) → letter one ≢ letter other → one ≡ other → ⊥
letters_differ one other apart same = apart (ap letter same)

drives_sent : (at pin number : ℕ) (one : User) → drives (send_item at pin number one) ≡ sent at pin number
drives_sent at pin zero one = refl
drives_sent at pin (suc before) one = refl

module _ (planned : PlannedBoard) (sound : IsSound planned) (node : ℕ) where
  -- ---- stages

  stage_part : (u : LocalItem) → StandsIn u (sequencer planned.plan.period) → part (drives u) ≡ 2
  stage_part u stands = ⊎_elim (λ first. ap (λ i. part (drives i)) (sym first)) (λ is. ap (λ i. part (drives i)) (sym is.same)) (from_stages planned node u stands)

  stages_once : AreOnce (map drives (sequencer planned.plan.period))
  stages_once = (fresh, once_gather drives (λ (net : Local). first_number net - 1) (λ before. ring_stage before ∷ []) planned.plan.period (λ k below. ((λ has. has), tt)) keyed) where
    keyed : (k : ℕ) (u : LocalItem) → StandsIn u (ring_stage k ∷ []) → first_number (drives u) - 1 ≡ k
    keyed k u stands = let same = ap (λ (i : LocalItem). first_number (drives i)) (only (ring_stage k) u stands) in omega (arith, same)

    fresh : Has (moment 0) (map drives (gather (λ before. ring_stage before ∷ []) planned.plan.period)) → ⊥
    fresh has =
        let from = from_values drives (moment 0) (gather (λ before. ring_stage before ∷ []) planned.plan.period) has in
        let given = from_gather from.0 (λ before. ring_stage before ∷ []) planned.plan.period from.1 in
        let one = ap (λ (i : LocalItem). first_number (drives i)) (only (ring_stage given.number) from.0 given.stands) in
        let two = ap first_number from.2 in
        omega (arith, one, two)

  -- ---- cells

  gate_part : (u : LocalItem) → StandsIn u (cell_items (gate_items planned) planned node) → part (drives u) ≡ 3
  gate_part u stands = let is = from_gates planned node u stands in ap (λ (i : LocalItem). part (drives i)) (sym is.same) ∙ ap part (drives_gate planned sound (map (name_at planned node) is.ins) (gate is.cell) is.cover)

  gates_once : AreOnce (map drives (cell_items (gate_items planned) planned node))
  gates_once =
      once_listed drives first_number (λ cell is. if slice_index planned.plan.chip_of cell == node then gate_items planned node cell is else []) 0 planned.ordered.flat.cells
      (λ cell is at. once_when drives (slice_index planned.plan.chip_of (0 + cell) == node) (gate_items planned node (0 + cell) is) (λ here. single (0 + cell) is))
      (λ cell is u stands. keyed cell is u (from_when (slice_index planned.plan.chip_of cell == node) u (gate_items planned node cell is) stands).1) where
        single : (cell : ℕ) (is : Cell) → AreOnce (map drives (gate_items planned node cell is))
        single cell (Gate ins cover) = ((λ has. has), tt)
        single cell (Latch d init) = tt

        keyed : (cell : ℕ) (is : Cell) (u : LocalItem) → StandsIn u (gate_items planned node cell is) → first_number (drives u) ≡ cell
        keyed cell (Gate ins cover) u stands =
            let item = cover_table (map (name_at planned node) ins) (gate cell) cover in
            ap (λ (i : LocalItem). first_number (drives i)) (sym (only item u stands)) ∙ ap first_number (drives_gate planned sound (map (name_at planned node) ins) (gate cell) cover)
        keyed cell (Latch d init) u stands = absurd (none-some u stands.1)

  latch_part : (u : LocalItem) → StandsIn u (cell_items (latch_items planned) planned node) → part (drives u) ≡ 4
  latch_part u stands =
      let is = from_latches planned node u stands in
      ⊎_elim (λ same. ap (λ (i : LocalItem). part (drives i)) (sym same)) (λ same. ap (λ (i : LocalItem). part (drives i)) (sym same)) is.same

  latches_once : AreOnce (map drives (cell_items (latch_items planned) planned node))
  latches_once =
      once_listed drives first_number (λ cell is. if slice_index planned.plan.chip_of cell == node then latch_items planned node cell is else []) 0 planned.ordered.flat.cells
      (λ cell is at. once_when drives (slice_index planned.plan.chip_of (0 + cell) == node) (latch_items planned node (0 + cell) is) (λ here. single (0 + cell) is))
      (λ cell is u stands. keyed cell is u (from_when (slice_index planned.plan.chip_of cell == node) u (latch_items planned node cell is) stands).1) where
        single : (cell : ℕ) (is : Cell) → AreOnce (map drives (latch_items planned node cell is))
        single cell (Gate ins cover) = tt
        single cell (Latch d init) = ((λ has. ⊎_elim (λ same. letters_differ (kept cell) (coming cell) (λ e. omega (arith, e)) same) (λ none. none) has), ((λ has. has), tt))

        keyed : (cell : ℕ) (is : Cell) (u : LocalItem) → StandsIn u (latch_items planned node cell is) → first_number (drives u) ≡ cell
        keyed cell (Gate ins cover) u stands = absurd (none-some u stands.1)
        keyed cell (Latch d init) u stands =
            ⊎_elim (λ same. ap (λ (i : LocalItem). first_number (drives i)) (sym same)) (λ same. ap (λ (i : LocalItem). first_number (drives i)) (sym same))
            (either (latch_table planned node cell d) (register (coming cell) (kept cell) init) u stands)

  -- ---- hops that reach the node

  catch_part : (u : LocalItem) → StandsIn u (hops_to planned node) → part (drives u) ≡ 5
  catch_part u stands =
      let is = from_hops planned node u stands in
      ⊎_elim (λ same. ap (λ (i : LocalItem). part (drives i)) (sym same)) (λ same. ap (λ (i : LocalItem). part (drives i)) (sym same)) is.same

  abbrev catches : ℕ → ℕ → Hop → ℕ → List LocalItem
  catches wire number hop at = catch_table planned node wire number hop at ∷ register (caught wire number) (held wire number) StartsAtZero ∷ []

  -- the numbers of what a hop's items drive
  hop_keys : (wire number : ℕ) (hop : Hop) (u : LocalItem) → StandsIn u (hop_items planned wire number hop)
      → (first_number (drives u) ≡ wire) × (second_number (drives u) ≡ number)
  hop_keys wire number hop u stands =
      let by = from_listed u (catch_items planned wire number hop) 0 planned.board.links stands in
      let own = from_when (carries hop by.item) u (catches wire number hop (0 + by.place)) by.stands in
      ⊎_elim (λ same. (ap (λ (i : LocalItem). first_number (drives i)) (sym same), ap (λ (i : LocalItem). second_number (drives i)) (sym same)))
      (λ same. (ap (λ (i : LocalItem). first_number (drives i)) (sym same), ap (λ (i : LocalItem). second_number (drives i)) (sym same)))
      (either (catch_table planned node wire number hop (0 + by.place)) (register (caught wire number) (held wire number) StartsAtZero) u own.1)

  hop_once : (wire number : ℕ) (hop : Hop) → AreOnce (map drives (hop_items planned wire number hop))
  hop_once wire number hop =
      once_alone drives (catch_items planned wire number hop) 0 planned.board.links
      (λ at link linked. once_when drives (carries hop link) (catches wire number hop (0 + at)) (λ here. ((λ has. ⊎_elim (λ same. letters_differ (held wire number) (caught wire number) (λ e. omega (arith, e)) same) (λ none. none) has), ((λ has. has), tt))))
      (λ i j one other u v at_i at_j here there.
      let first = from_when (carries hop one) u (catches wire number hop (0 + i)) here in
      let second = from_when (carries hop other) v (catches wire number hop (0 + j)) there in
      one_number planned.board i j one other at_i at_j (same_ends hop one other first.0 second.0))

  abbrev of_wire : ℕ → ℕ → Hop → List LocalItem
  of_wire wire number hop = if hop.to == node then hop_items planned wire number hop else []

  hops_once : AreOnce (map drives (hops_to planned node))
  hops_once =
      once_listed drives first_number (wire_items planned node) 0 planned.plan.wires
      (λ wire is there. once_listed drives second_number (of_wire (0 + wire)) 0 is.hops
      (λ number hop stands. once_when drives (hop.to == node) (hop_items planned (0 + wire) (0 + number) hop) (λ here. hop_once (0 + wire) (0 + number) hop))
      (λ number hop u stands. (hop_keys (0 + wire) number hop u (from_when (hop.to == node) u (hop_items planned (0 + wire) number hop) stands).1).1))
      (λ wire is u stands.
      let by = from_listed u (of_wire wire) 0 is.hops stands in
      (hop_keys wire (0 + by.place) by.item u (from_when (by.item.to == node) u (hop_items planned wire (0 + by.place) by.item) by.stands).1).0)

  -- ---- pins by which the node is left

  -- what an item of a pin drives
  pin_net_is : (at pin lag : ℕ) (user : User) (others : List User) (u : LocalItem) → OfPin planned node at pin lag user others u
      → (part (drives u) ≡ 6) × (first_number (drives u) ≡ at) × (second_number (drives u) ≡ pin)
  pin_net_is at pin lag user others u (sends number one is same) =
      let net = ap drives (sym same) ∙ drives_sent at pin number one in (ap part net, ap first_number net, ap second_number net)
  pin_net_is at pin lag user others u (waits later below same) = let net = ap drives (sym same) in (ap part net, ap first_number net, ap second_number net)
  pin_net_is at pin lag user others u (leaves same) = let net = ap drives (sym same) in (ap part net, ap first_number net, ap second_number net)

  pin_part : (u : LocalItem) → StandsIn u (pins_from planned node) → part (drives u) ≡ 6
  pin_part u stands = let is = from_pins planned node u stands in (pin_net_is is.at is.pin (is.link.delay - 1) is.user is.others u is.item_is).0

  pin_keys : (at pin lag : ℕ) (all : List User) (u : LocalItem) → StandsIn u (pin_items at pin lag all)
      → (first_number (drives u) ≡ at) × (second_number (drives u) ≡ pin)
  pin_keys at pin lag [] u stands = absurd (none-some u stands.1)
  pin_keys at pin lag (user ∷ others) u stands = let is = pin_net_is at pin lag user others u (of_pin planned node at pin lag user others u stands) in (is.1, is.2)

  pin_once : (at pin lag : ℕ) (all : List User) → AreOnce (map drives (pin_items at pin lag all))
  pin_once at pin lag [] = tt
  pin_once at pin lag (user ∷ others) =
      once_both drives sent_items (late_items ++ out ∷ [])
      (once_listed drives third_number (λ number one. send_item at pin number one ∷ []) 0 (user ∷ others) (λ number one is. ((λ has. has), tt))
      (λ number one u stands. ap (λ (i : LocalItem). third_number (drives i)) (sym (only (send_item at pin number one) u stands)) ∙ ap third_number (drives_sent at pin number one)))
      (once_both drives late_items (out ∷ [])
      (once_gather drives third_number (λ later. delay_item at pin (length others) later ∷ []) lag (λ later below. ((λ has. has), tt)) (λ later u stands. ap (λ (i : LocalItem). third_number (drives i)) (sym (only (delay_item at pin (length others) later) u stands))))
      ((λ has. has), tt)
      (λ u v here there same. let e = sym (late_letter u here) ∙ ap letter same ∙ out_letter v there in omega (arith, e)))
      (λ u v here there same.
      let first = sent_letter u here in
      ⊎_elim (λ late. let e = sym first ∙ ap letter same ∙ late_letter v late in omega (arith, e)) (λ last. let e = sym first ∙ ap letter same ∙ out_letter v last in omega (arith, e)) (from_append v late_items (out ∷ []) there)) where
        sent_items : List LocalItem
        sent_items = listed (λ number one. send_item at pin number one ∷ []) 0 (user ∷ others)

        late_items : List LocalItem
        late_items = gather (λ later. delay_item at pin (length others) later ∷ []) lag

        out : LocalItem
        out = table (late_name at pin (length others) lag ∷ []) (pin_out at pin) true pass

        sent_letter : (u : LocalItem) → StandsIn u sent_items → letter (drives u) ≡ 101
        sent_letter u stands =
            let by = from_listed u (λ number one. send_item at pin number one ∷ []) 0 (user ∷ others) stands in
            ap (λ (i : LocalItem). letter (drives i)) (sym (only (send_item at pin (0 + by.place) by.item) u by.stands)) ∙ ap letter (drives_sent at pin (0 + by.place) by.item)

        late_letter : (u : LocalItem) → StandsIn u late_items → letter (drives u) ≡ 100
        late_letter u stands =
            let given = from_gather u (λ later. delay_item at pin (length others) later ∷ []) lag stands in
            ap (λ (i : LocalItem). letter (drives i)) (sym (only (delay_item at pin (length others) given.number) u given.stands))

        out_letter : (u : LocalItem) → StandsIn u (out ∷ []) → letter (drives u) ≡ 111
        out_letter u stands = ap (λ (i : LocalItem). letter (drives i)) (sym (only out u stands))

  pins_once : AreOnce (map drives (pins_from planned node))
  pins_once =
      once_listed drives first_number (link_items planned node) 0 planned.board.links
      (λ at link linked. once_when drives (link.from == node) (gather (λ pin. pin_items (0 + at) pin (link.delay - 1) (users planned link pin)) link.width) (λ here.
      once_gather drives second_number (λ pin. pin_items (0 + at) pin (link.delay - 1) (users planned link pin)) link.width (λ pin below. pin_once (0 + at) pin (link.delay - 1) (users planned link pin))
      (λ pin u stands. (pin_keys (0 + at) pin (link.delay - 1) (users planned link pin) u stands).1)))
      (λ at link u stands.
      let own = from_when (link.from == node) u (gather (λ pin. pin_items at pin (link.delay - 1) (users planned link pin)) link.width) stands in
      let given = from_gather u (λ pin. pin_items at pin (link.delay - 1) (users planned link pin)) link.width own.1 in
      (pin_keys at given.number (link.delay - 1) (users planned link given.number) u given.stands).0)

  -- ---- outputs

  result_part : (u : LocalItem) → StandsIn u (results planned node) → part (drives u) ≡ 7
  result_part u stands = let is = from_results planned node u stands in ap (λ (i : LocalItem). part (drives i)) (sym is.same)

  results_once : AreOnce (map drives (results planned node))
  results_once =
      once_when drives (node == 0) (listed (λ output net. table (name_at planned 0 net ∷ []) (result output) true pass ∷ []) 0 planned.ordered.flat.outputs) (λ here.
      once_listed drives first_number (λ output net. table (name_at planned 0 net ∷ []) (result output) true pass ∷ []) 0 planned.ordered.flat.outputs (λ output net at. ((λ has. has), tt))
      (λ output net u stands. ap (λ (i : LocalItem). first_number (drives i)) (sym (only (table (name_at planned 0 net ∷ []) (result output) true pass) u stands))))

  -- ---- all items

  -- a part, and further ones behind it
  behind : (number : ℕ) (front back : List LocalItem) → AreOnce (map drives front) → AreOnce (map drives back)
      → ((u : LocalItem) → StandsIn u front → part (drives u) ≡ number)
      → ((u : LocalItem) → StandsIn u back → number < part (drives u)) → AreOnce (map drives (front ++ back))
  behind number front back one other here there = once_both drives front back one other (λ u v in_front in_back same. let e = ap part same in let less = there v in_back in omega (arith, e, less, here u in_front))

  from_part : (number : ℕ) (front back : List LocalItem) → ((u : LocalItem) → StandsIn u front → part (drives u) ≡ number)
      → ((u : LocalItem) → StandsIn u back → number < part (drives u))
      → (low : ℕ) → low < number → (u : LocalItem) → StandsIn u (front ++ back) → low < part (drives u)
  from_part number front back here there low less u stands =
      ⊎_elim (λ first. let is = here u first in omega (arith, is, less)) (λ rest. let is = there u rest in omega (arith, is, less)) (from_append u front back stands)

  abbrev from_6 : List LocalItem
  from_6 = pins_from planned node ++ results planned node

  abbrev from_5 : List LocalItem
  from_5 = hops_to planned node ++ from_6

  abbrev from_4 : List LocalItem
  from_4 = cell_items (latch_items planned) planned node ++ from_5

  abbrev from_3 : List LocalItem
  from_3 = cell_items (gate_items planned) planned node ++ from_4

  past_6 : (u : LocalItem) → StandsIn u (results planned node) → 6 < part (drives u)
  past_6 u stands = let is = result_part u stands in omega (arith, is)

  past_5 : (u : LocalItem) → StandsIn u from_6 → 5 < part (drives u)
  past_5 = from_part 6 (pins_from planned node) (results planned node) pin_part past_6 5 (omega arith)

  past_4 : (u : LocalItem) → StandsIn u from_5 → 4 < part (drives u)
  past_4 = from_part 5 (hops_to planned node) from_6 catch_part past_5 4 (omega arith)

  past_3 : (u : LocalItem) → StandsIn u from_4 → 3 < part (drives u)
  past_3 = from_part 4 (cell_items (latch_items planned) planned node) from_5 latch_part past_4 3 (omega arith)

  past_2 : (u : LocalItem) → StandsIn u from_3 → 2 < part (drives u)
  past_2 = from_part 3 (cell_items (gate_items planned) planned node) from_4 gate_part past_3 2 (omega arith)

  past_1 : (u : LocalItem) → StandsIn u (node_items planned node) → 1 < part (drives u)
  past_1 = from_part 2 (sequencer planned.plan.period) from_3 stage_part past_2 1 (omega arith)

  pub items_once : AreOnce (map drives (node_items planned node))
  items_once =
      behind 2 (sequencer planned.plan.period) from_3 stages_once
      (behind 3 (cell_items (gate_items planned) planned node) from_4 gates_once
      (behind 4 (cell_items (latch_items planned) planned node) from_5 latches_once
      (behind 5 (hops_to planned node) from_6 hops_once
      (behind 6 (pins_from planned node) (results planned node) pins_once results_once pin_part past_6)
      catch_part past_5) latch_part past_4) gate_part past_3) stage_part past_2

  -- ---- inputs

  used_is : (name net : Local) (all : List User) → StandsIn net (used_port name all) → name ≡ net
  used_is name net [] stands = absurd (none-some net stands.1)
  used_is name net (user ∷ others) stands = only name net stands

  used_once : (name : Local) (all : List User) → AreOnce (map (λ (net : Local). net) (used_port name all))
  used_once name [] = tt
  used_once name (user ∷ others) = ((λ has. has), tt)

  abbrev own_columns : List Local
  own_columns = cond (node == 0) (gather (λ number. column number ∷ []) planned.ordered.flat.inputs) []

  abbrev own_pins : List Local
  own_pins = listed (λ at link. if link.to == node then pin_ports (pin_in at) planned link else []) 0 planned.board.links

  column_part : (net : Local) → StandsIn net own_columns → part net ≡ 0
  column_part net stands =
      let own = from_when (node == 0) net (gather (λ number. column number ∷ []) planned.ordered.flat.inputs) stands in
      let given = from_gather net (λ number. column number ∷ []) planned.ordered.flat.inputs own.1 in
      ap part (sym (only (column given.number) net given.stands))

  -- the numbers of a pin's port
  input_keys : (at : ℕ) (link : Link) (net : Local) → StandsIn net (cond (link.to == node) (pin_ports (pin_in at) planned link) [])
      → (part net ≡ 1) × (first_number net ≡ at)
  input_keys at link net stands =
      let own = from_when (link.to == node) net (pin_ports (pin_in at) planned link) stands in
      let given = from_gather net (λ pin. used_port (pin_in at pin) (users planned link pin)) link.width own.1 in
      let is = used_is (pin_in at given.number) net (users planned link given.number) given.stands in
      (ap part (sym is), ap first_number (sym is))

  input_part : (net : Local) → StandsIn net own_pins → part net ≡ 1
  input_part net stands =
      let by = from_listed net (λ at link. if link.to == node then pin_ports (pin_in at) planned link else []) 0 planned.board.links stands in
      (input_keys (0 + by.place) by.item net by.stands).0

  inputs_once : AreOnce (node_inputs planned node)
  inputs_once =
      subst AreOnce (map-id (node_inputs planned node)) (once_both (λ (net : Local). net) own_columns own_pins
      (once_when (λ (net : Local). net) (node == 0) (gather (λ number. column number ∷ []) planned.ordered.flat.inputs) (λ here.
      once_gather (λ (net : Local). net) first_number (λ number. column number ∷ []) planned.ordered.flat.inputs (λ number below. ((λ has. has), tt)) (λ number u stands. ap first_number (sym (only (column number) u stands)))))
      (once_listed (λ (net : Local). net) first_number (λ at link. if link.to == node then pin_ports (pin_in at) planned link else []) 0 planned.board.links
      (λ at link linked. once_when (λ (net : Local). net) (link.to == node) (pin_ports (pin_in (0 + at)) planned link) (λ here.
      once_gather (λ (net : Local). net) second_number (λ pin. used_port (pin_in (0 + at) pin) (users planned link pin)) link.width (λ pin below. used_once (pin_in (0 + at) pin) (users planned link pin))
      (λ pin u stands. ap second_number (sym (used_is (pin_in (0 + at) pin) u (users planned link pin) stands)))))
      (λ at link u stands. (input_keys at link u stands).1))
      (λ u v here there same. let e = ap part same in omega (arith, e, column_part u here, input_part v there)))

  -- ---- both

  -- the nets that a node claims
  abbrev pub claims : List Local
  claims = node_inputs planned node ++ map drives (node_items planned node)

  pub claims_once : AreOnce claims
  claims_once =
      once_append (node_inputs planned node) (map drives (node_items planned node)) inputs_once items_once (λ net here there.
      let from = from_values drives net (node_items planned node) there in
      let past = past_1 from.0 from.1 in
      let same = ap part from.2 in
      let at = at-Has net (node_inputs planned node) here in
      ⊎_elim (λ column_in. let is = column_part net column_in in omega (arith, is, past, same)) (λ pin_in_it. let is = input_part net pin_in_it in omega (arith, is, past, same)) (from_append net own_columns own_pins at))
