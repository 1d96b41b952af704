-- The nets of a board, as the ports of its nodes and its columns, are all different, and so are their names.
use Rattle.std.proofs.Common.{◌≡◌, ◌<◌, ◌≤◌, ◌+◌, ◌++◌, ◌==◌, ◌∙◌, ℕ, zero, suc, Bool, true, false, cond, List, [], ◌∷◌, length, map, take, slice_get, slice_index, Option, Some, if◌then◌else◌, flat_map, ap, refl, sym, subst, ⊎_elim, arith}
use Rattle.std.specs.List.{range_with_len}
use Rattle.std.specs.Option.{option_map_or}
use Rattle.std.proofs.lemmas.List.{map-id}
use Rattle.std.proofs.lemmas.Option.{none-some}
use Rattle.vw_net.specs.Cells.{latch_count}
use Rattle.vw_net.specs.Gathered.{gather, listed}
use Rattle.vw_net.specs.declared.cell.Cell.{Cell}
use Rattle.vw_net.specs.declared.cell.Cell.TheVariants.{Gate, Latch}
use Rattle.vw_net.specs.declared.cell.Init.{Init}
use Rattle.vw_net.proofs.ListedLists.{StandsIn, from_gather, from_listed, from_when}
use Rattle.vw_plan.specs.PlannedBoard.{PlannedBoard}
use Rattle.vw_plan.specs.Sound.{IsSound}
use Rattle.vw_plan.specs.declared.link.Link.{Link}
use Rattle.vw_design.specs.Distinct.{are_distinct}
use Rattle.vw_design.proofs.DistinctNames.{AreOnce, distinct_map, in_range, once_append, once_flat_map, once_map, once_range}
use Rattle.vw_design.proofs.ListElements.{Has, Has-append, at-Has, from-flat_map, from-map}
use Rattle.vw_design.proofs.NumberedNames.{AreSmall, numbered_name, numbers_same}
use Rattle.vw_emit_hardware.specs.Items.{User, users}
use Rattle.vw_emit_hardware.specs.Locals.{Local, column, kept, pin_out, result}
use Rattle.vw_emit_hardware.specs.Ports.{latch_port, node_outputs, pin_ports, used_port}
use Rattle.vw_emit_hardware.proofs.Origins.{only}
use Rattle.vw_emit_hardware.proofs.PortOrigins.{OutputOrigin, a_latch, a_pin, a_result, from_outputs}
use Rattle.vw_emit_names.specs.Boards.{all_nodes}
use Rattle.vw_emit_names.specs.Spelled.{net_of_port}
use Rattle.vw_emit_names.proofs.Codes.{first_number, head_number, letter, other_numbers}
use Rattle.vw_emit_names.proofs.OnceListed.{once_both, once_gather, once_listed, once_when}
use Rattle.vw_emit_names.proofs.SmallNets.{small_pin}

-- ---- latches by their numbers

-- the cell of a latch, by its number among latches
abbrev latch_cell : List Cell → ℕ → ℕ
latch_cell [] number = 0
latch_cell (Gate ins cover ∷ cells) number = suc (latch_cell cells number)
latch_cell (Latch d init ∷ cells) zero = 0
latch_cell (Latch d init ∷ cells) (suc number) = suc (latch_cell cells number)

latch_cell_is : (cells : List Cell) (cell d : ℕ) (init : Init) → slice_get cells cell ≡ Some (Latch d init)
    → latch_cell cells (latch_count (take cell cells)) ≡ cell
latch_cell_is [] cell d init at = absurd (none-some (Latch d init) at)
latch_cell_is (Gate ins cover ∷ cells) zero d init at = cc
latch_cell_is (Latch e other ∷ cells) zero d init at = refl
latch_cell_is (Gate ins cover ∷ cells) (suc cell) d init at = ap (λ (n : ℕ). suc n) (latch_cell_is cells cell d init at)
latch_cell_is (Latch e other ∷ cells) (suc cell) d init at = ap (λ (n : ℕ). suc n) (latch_cell_is cells cell d init at)

count_few : (cells : List Cell) (upto : ℕ) → latch_count (take upto cells) ≤ length cells
count_few cells zero = omega arith
count_few [] (suc upto) = omega arith
count_few (Gate ins cover ∷ cells) (suc upto) = omega (arith, count_few cells upto)
count_few (Latch d init ∷ cells) (suc upto) = omega (arith, count_few cells upto)

module _ (planned : PlannedBoard) (sound : IsSound planned) where
  -- ---- the outputs of one node

  module _ (node : ℕ) where
    used_is : (name net : Local) (all : List User) → StandsIn net (used_port name all) → name ≡ net
    used_is name net [] stands = absurd (none-some net stands.1)
    used_is name net (user ∷ others) stands = only name net stands

    used_once : (name : Local) (all : List User) → AreOnce (map (λ (net : Local). net) (used_port name all))
    used_once name [] = tt
    used_once name (user ∷ others) = ((λ has. has), tt)

    abbrev own_pins : List Local
    own_pins = listed (λ at link. if link.from == node then pin_ports (pin_out at) planned link else []) 0 planned.board.links

    abbrev own_results : List Local
    own_results = gather (λ output. result output ∷ []) (length planned.ordered.flat.outputs)

    abbrev own_latches : List Local
    own_latches = listed (λ cell is. if slice_index planned.plan.chip_of cell == node then latch_port cell is else []) 0 planned.ordered.flat.cells

    keys : (at : ℕ) (link : Link) (net : Local) → StandsIn net (cond (link.from == node) (pin_ports (pin_out at) planned link) [])
        → (letter net ≡ 111) × (first_number net ≡ at)
    keys at link net stands =
        let own = from_when (link.from == node) net (pin_ports (pin_out at) planned link) stands in
        let given = from_gather net (λ pin. used_port (pin_out at pin) (users planned link pin)) link.width own.1 in
        let is = used_is (pin_out at given.number) net (users planned link given.number) given.stands in
        (ap letter (sym is), ap first_number (sym is))

    pin_letter : (net : Local) → StandsIn net own_pins → letter net ≡ 111
    pin_letter net stands =
        let by = from_listed net (λ at link. if link.from == node then pin_ports (pin_out at) planned link else []) 0 planned.board.links stands in
        (keys (0 + by.place) by.item net by.stands).0

    result_letter : (net : Local) → StandsIn net own_results → letter net ≡ 121
    result_letter net stands = let given = from_gather net (λ output. result output ∷ []) (length planned.ordered.flat.outputs) stands in ap letter (sym (only (result given.number) net given.stands))

    latch_keys : (cell : ℕ) (is : Cell) (net : Local) → StandsIn net (latch_port cell is) → (letter net ≡ 113) × (first_number net ≡ cell)
    latch_keys cell (Gate ins cover) net stands = absurd (none-some net stands.1)
    latch_keys cell (Latch d init) net stands = let is = only (kept cell) net stands in (ap letter (sym is), ap first_number (sym is))

    latch_letter : (net : Local) → StandsIn net own_latches → letter net ≡ 113
    latch_letter net stands =
        let by = from_listed net (λ cell is. if slice_index planned.plan.chip_of cell == node then latch_port cell is else []) 0 planned.ordered.flat.cells stands in
        (latch_keys (0 + by.place) by.item net (from_when (slice_index planned.plan.chip_of (0 + by.place) == node) net (latch_port (0 + by.place) by.item) by.stands).1).0

    results_once : AreOnce (map (λ (net : Local). net) own_results)
    results_once = once_gather (λ (net : Local). net) first_number (λ output. result output ∷ []) (length planned.ordered.flat.outputs) (λ output below. ((λ has. has), tt)) (λ output u stands. ap first_number (sym (only (result output) u stands)))

    latch_port_once : (cell : ℕ) (is : Cell) → AreOnce (map (λ (net : Local). net) (latch_port cell is))
    latch_port_once cell (Gate ins cover) = tt
    latch_port_once cell (Latch d init) = ((λ has. has), tt)

    latches_once : AreOnce (map (λ (net : Local). net) own_latches)
    latches_once =
        once_listed (λ (net : Local). net) first_number (λ cell is. if slice_index planned.plan.chip_of cell == node then latch_port cell is else []) 0 planned.ordered.flat.cells
        (λ cell is at. once_when (λ (net : Local). net) (slice_index planned.plan.chip_of (0 + cell) == node) (latch_port (0 + cell) is) (λ here. latch_port_once (0 + cell) is))
        (λ cell is u stands. (latch_keys cell is u (from_when (slice_index planned.plan.chip_of cell == node) u (latch_port cell is) stands).1).1)

    pins_once : AreOnce (map (λ (net : Local). net) own_pins)
    pins_once =
        once_listed (λ (net : Local). net) first_number (λ at link. if link.from == node then pin_ports (pin_out at) planned link else []) 0 planned.board.links
        (λ at link linked. once_when (λ (net : Local). net) (link.from == node) (pin_ports (pin_out (0 + at)) planned link) (λ here.
        once_gather (λ (net : Local). net) (λ (net : Local). head_number (other_numbers net)) (λ pin. used_port (pin_out (0 + at) pin) (users planned link pin)) link.width (λ pin below. used_once (pin_out (0 + at) pin) (users planned link pin))
        (λ pin u stands. ap (λ (net : Local). head_number (other_numbers net)) (sym (used_is (pin_out (0 + at) pin) u (users planned link pin) stands)))))
        (λ at link u stands. (keys at link u stands).1)

    pub outputs_once : AreOnce (node_outputs planned node)
    outputs_once = subst AreOnce (map-id (node_outputs planned node)) (once_both (λ (net : Local). net) own_pins (cond (node == 0) own_results own_latches) pins_once (others (node == 0)) (λ u v here there same. apart (node == 0) u v here there same)) where
      others : (host : Bool) → AreOnce (map (λ (net : Local). net) (cond host own_results own_latches))
      others true = results_once
      others false = latches_once

      apart : (host : Bool) (u v : Local) → StandsIn u own_pins → StandsIn v (cond host own_results own_latches) → u ≡ v → ⊥
      apart true u v here there same = let e = sym (pin_letter u here) ∙ ap letter same ∙ result_letter v there in omega (arith, e)
      apart false u v here there same = let e = sym (pin_letter u here) ∙ ap letter same ∙ latch_letter v there in omega (arith, e)

  -- ---- of all nodes

  -- the node that a port leaves
  abbrev owner : Local → ℕ
  owner (pin_out at pin) = option_map_or (λ (link : Link). link.from) (slice_get planned.board.links at) 0
  owner (kept cell) = slice_index planned.plan.chip_of cell
  owner other = 0

  owner_is : (node : ℕ) (net : Local) → OutputOrigin planned node net → owner net ≡ node
  owner_is node net (a_pin is from) = ap owner (sym is.same) ∙ ap (λ (found : Option Link). option_map_or (λ (link : Link). link.from) found 0) is.linked ∙ from
  owner_is node net (a_result is) = ap owner (sym is.same) ∙ sym is.host
  owner_is node net (a_latch is) = ap owner (sym is.same) ∙ is.chip

  abbrev pub all_outputs : List Local
  all_outputs = flat_map (node_outputs planned) (all_nodes planned)

  all_outputs_once : AreOnce all_outputs
  all_outputs_once =
      once_flat_map (node_outputs planned) (all_nodes planned) (once_range 0 (planned.board.chips + 1)) (λ node has. outputs_once node) (λ one other has has_too net here there.
      sym (owner_is one net (from_outputs planned one net (at-Has net (node_outputs planned one) here))) ∙ owner_is other net (from_outputs planned other net (at-Has net (node_outputs planned other) there)))

  -- the columns, and the outputs of all nodes
  abbrev pub board_nets : List Local
  board_nets = map (λ number. column number) (range_with_len 0 planned.ordered.flat.inputs) ++ all_outputs

  -- what one of them is
  data IsBoardNet (net : Local) : Type 0 where
    is_column : (number : ℕ) → number < planned.ordered.flat.inputs → column number ≡ net → IsBoardNet net
    is_output : (node : ℕ) → OutputOrigin planned node net → IsBoardNet net

  board_net : (net : Local) → Has net board_nets → IsBoardNet net
  board_net net has =
      ⊎_elim (λ front. let from = from-map (λ (number : ℕ). column number) net (range_with_len 0 planned.ordered.flat.inputs) front in let below = in_range 0 planned.ordered.flat.inputs from.0 from.1 in is_column from.0 (omega (arith, below.1)) from.2)
      (λ back. let from = from-flat_map (node_outputs planned) (all_nodes planned) net back in is_output from.0 (from_outputs planned from.0 net (at-Has net (node_outputs planned from.0) from.2)))
      (Has-append net (map (λ number. column number) (range_with_len 0 planned.ordered.flat.inputs)) all_outputs has)

  board_nets_once : AreOnce board_nets
  board_nets_once =
      once_append (map (λ number. column number) (range_with_len 0 planned.ordered.flat.inputs)) all_outputs columns_once all_outputs_once (λ net here there.
      let front = from-map (λ (number : ℕ). column number) net (range_with_len 0 planned.ordered.flat.inputs) here in
      let back = from-flat_map (node_outputs planned) (all_nodes planned) net there in
      let one = ap letter front.2 in
      no_column net (sym one) (from_outputs planned back.0 net (at-Has net (node_outputs planned back.0) back.2))) where
        no_column : (net : Local) → letter net ≡ 120 → {node : ℕ} → OutputOrigin planned node net → ⊥
        no_column net is (a_pin port from) = let e = ap letter port.same in omega (arith, e, is)
        no_column net is (a_result port) = let e = ap letter port.same in omega (arith, e, is)
        no_column net is (a_latch port) = let e = ap letter port.same in omega (arith, e, is)

        columns_once : AreOnce (map (λ number. column number) (range_with_len 0 planned.ordered.flat.inputs))
        columns_once = once_map (λ (number : ℕ). column number) (range_with_len 0 planned.ordered.flat.inputs) (once_range 0 planned.ordered.flat.inputs) (λ one other has has_too same. ap first_number same)

  -- ---- their names

  -- a letter and numbers
  record HasCode (net : Local) : Type 0 where
    sign : ℕ
    one : ℕ
    more : List ℕ
    small : AreSmall (one ∷ more)
    name : net_of_port planned net ≡ numbered_name sign one more
    back : (if sign == 120 then column one else (if sign == 112 then pin_out one (head_number more) else (if sign == 121 then result one else kept (latch_cell planned.ordered.flat.cells one)))) ≡ net

  code_of : (net : Local) → IsBoardNet net → HasCode net
  code_of net (is_column number within same) = let few = planned.ordered.flat.few_inputs in subst HasCode same (record { sign = 120; one = number; more = []; small = (omega (arith, few, within), tt); name = refl; back = refl })
  code_of net (is_output node (a_pin is from)) =
      let small = small_pin planned sound is.at is.pin is.link is.linked is.used.within in
      subst HasCode is.same (record { sign = 112; one = is.at; more = is.pin ∷ []; small = (small.0, (small.1, tt)); name = refl; back = refl })
  code_of net (is_output node (a_result is)) =
      let few = planned.ordered.flat.few_outputs in let within = is.within in
      subst HasCode is.same (record { sign = 121; one = is.output; more = []; small = (omega (arith, few, within), tt); name = refl; back = refl })
  code_of net (is_output node (a_latch is)) =
      let cells = planned.ordered.flat.cells in
      let few = planned.ordered.flat.few_cells in
      let counted = count_few cells is.cell in
      subst HasCode is.same (record {
        sign = 115;
        one = latch_count (take is.cell cells);
        more = [];
        small = (omega (arith, few, counted), tt);
        name = refl;
        back = ap (λ (cell : ℕ). kept cell) (latch_cell_is cells is.cell is.d is.init is.at);
      })

  same_net : (one other : Local) → HasCode one → HasCode other → net_of_port planned one ≡ net_of_port planned other → one ≡ other
  same_net one other code code_too same =
      let equal = numbers_same code.sign code.one code.more code_too.sign code_too.one code_too.more code.small code_too.small (sym code.name ∙ same ∙ code_too.name) in
      sym code.back
      ∙ (λ i. if equal.0 i == 120 then column (equal.1 i) else (if equal.0 i == 112 then pin_out (equal.1 i) (head_number (equal.2 i)) else (if equal.0 i == 121 then result (equal.1 i) else kept (latch_cell planned.ordered.flat.cells (equal.1 i)))))
      ∙ code_too.back

  pub board_names_distinct : are_distinct (map (net_of_port planned) board_nets) ≡ true
  board_names_distinct = distinct_map (net_of_port planned) board_nets board_nets_once (λ one other has has_too same. same_net one other (code_of one (board_net one has)) (code_of other (board_net other has_too)) same)
