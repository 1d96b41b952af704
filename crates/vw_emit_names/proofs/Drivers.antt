-- The driver of each net of an emitted board: of what an item drives, of ports, of columns, and of all that items read.
use Rattle.std.proofs.Common.{◌≡◌, ◌<◌, ◌≤◌, ◌+◌, ◌-◌, ◌∙◌, ◌⊎◌, inl, inr, ℕ, zero, suc, true, List, [], ◌∷◌, length, map, slice_get, Option, Some, option_map, ap, ap₂, refl, sym, ⊎_elim, arith}
use Rattle.std.specs.List.{list_all, range_with_len}
use Rattle.std.proofs.lemmas.Bool.{and_parts, cases_eq, or_left}
use Rattle.std.proofs.lemmas.Option.{none-some, same_Some, slice_get-map}
use Rattle.vw_net.proofs.ListedLists.{StandsIn}
use Rattle.vw_plan.specs.PlannedBoard.{PlannedBoard}
use Rattle.vw_plan.specs.Sound.{IsSound}
use Rattle.vw_plan.specs.declared.link.Link.{Link}
use Rattle.vw_plan.proofs.HopsOfWires.{at_place}
use Rattle.vw_design.specs.Accepted.{HasNoModelFault}
use Rattle.vw_design.specs.Distinct.{are_distinct, has_name}
use Rattle.vw_design.specs.Drivers.{at_cell, at_port, driver}
use Rattle.vw_design.specs.Paths.{Placing, Word, is_port, items_of, model_named, model_outputs, placings}
use Rattle.vw_design.specs.PathValue.{item_at}
use Rattle.vw_design.specs.Shape.{IsWellMade, has_its_shape}
use Rattle.vw_design.specs.declared.design.Design.{Design}
use Rattle.vw_design.specs.declared.item.Bind.{Bind}
use Rattle.vw_design.specs.declared.item.Item.{Item}
use Rattle.vw_design.specs.declared.item.Item.TheVariants.{Latch, Names, Sub}
use Rattle.vw_design.specs.declared.model.Model.{Model}
use Rattle.vw_design.proofs.ClaimedDrivers.{input_driver, leaf_driver, output_driver, port_first, root_driver}
use Rattle.vw_design.proofs.ListElements.{Has, Has-at, Has-left, Has-map, Has-right, at-Has}
use Rattle.vw_design.proofs.Names.{has_name-Has}
use Rattle.vw_emit_hardware.specs.Driven.{IsDriven, by_column, by_item, by_pin}
use Rattle.vw_emit_hardware.specs.Items.{User, late_name, node_items, users}
use Rattle.vw_emit_hardware.specs.Locals.{Local, LocalItem, column, drives, pin_in, pin_out, table}
use Rattle.vw_emit_hardware.specs.Ports.{IsUsed, node_inputs, node_outputs}
use Rattle.vw_emit_hardware.specs.Tables.{pass}
use Rattle.vw_emit_hardware.proofs.Members.{has_out}
use Rattle.vw_emit_hardware.proofs.PortOrigins.{has_column, has_pin_in, has_pin_out}
use Rattle.vw_emit_names.specs.Boards.{IsBoardOf, Joined, PlainModel, node_ports, plain_bind, plain_item, port_joined, spelled_item}
use Rattle.vw_emit_names.specs.Spelled.{net_of_port, spelled}
use Rattle.vw_emit_names.proofs.Models.{driven_one, mapped_at, node_model_at, node_model_of, node_named, placing_of_node, root, root_at}
use Rattle.vw_emit_names.proofs.NodeNames.{node_alone, node_leaf}
use Rattle.vw_emit_names.proofs.RootNames.{root_distinct}

-- a list that isn't empty
record HasFirst {X : Type 0} (xs : List X) : Type 0 where
  first : X
  others : List X
  is : xs ≡ first ∷ others

has_first : {X : Type 0} (xs : List X) → 0 < length xs → HasFirst xs
has_first [] some = absurd (omega (arith, some))
has_first (x ∷ xs) some = record { first = x; others = xs; is = refl }

-- a range has each number of it
has_range : (from count number : ℕ) → from ≤ number → number < from + count → Has number (range_with_len from count)
has_range from zero number late below = absurd (omega (arith, late, below))
has_range from (suc count) number late below =
    ⊎_elim (λ same. inl same) (λ apart. inr (has_range (from + 1) count number (omega (arith, late, apart)) (omega (arith, below)))) (cases_eq from number)

-- the formals of a placed model are all different
formals_differ : (items : List Item) → list_all has_its_shape items ≡ true → (k : ℕ) (placing : Placing)
    → slice_get (placings items) k ≡ Some placing → are_distinct (map (λ bind. bind.formal) placing.binds) ≡ true
formals_differ [] all k placing at = absurd (none-some placing at)
formals_differ (Names line ins out cover ∷ items) all k placing at = formals_differ items (and_parts (has_its_shape (Names line ins out cover)) (list_all has_its_shape items) all).1 k placing at
formals_differ (Latch line d q edge control init ∷ items) all k placing at = formals_differ items (and_parts true (list_all has_its_shape items) all).1 k placing at
formals_differ (Sub line model binds ∷ items) all zero placing at =
    ap (λ (one : Placing). are_distinct (map (λ (bind : Bind). bind.formal) one.binds)) (sym (same_Some (record { model = model; binds = binds }) placing at)) ∙ (and_parts (has_its_shape (Sub line model binds)) (list_all has_its_shape items) all).0
formals_differ (Sub line model binds ∷ items) all (suc k) placing at = formals_differ items (and_parts (has_its_shape (Sub line model binds)) (list_all has_its_shape items) all).1 k placing at

module _ (planned : PlannedBoard) (sound : IsSound planned) (board : Design) (is_board : IsBoardOf planned board) where
  -- ---- items

  -- the item at a place of a node
  pub record HasItem (node number : ℕ) (local : LocalItem) : Type 0 where
    pub item : Item
    pub at : item_at board (suc node ∷ []) number ≡ Some item
    pub same : plain_item item ≡ spelled_item local

  pub has_item : (node number : ℕ) (local : LocalItem) → node ≤ planned.board.chips
      → slice_get (node_items planned node) number ≡ Some local → HasItem node number local
  has_item node number local among at =
      let own = node_model_of planned board is_board node among in
      let there : slice_get (map spelled_item (node_items planned node)) number ≡ Some (spelled_item local) = slice_get-map spelled_item (node_items planned node) number ∙ ap (option_map spelled_item) at in
      let found = mapped_at plain_item own.0.items (map spelled_item (node_items planned node)) (ap (λ (m : PlainModel). m.items) own.1.same) number (spelled_item local) there in
      record { item = found.0; at = ap (λ (m : Option Model). slice_get (items_of m) number) (node_model_at planned board is_board node among) ∙ found.1; same = found.2 }

  -- what it drives has it as driver
  pub item_driver : (node number : ℕ) (local : LocalItem) → node ≤ planned.board.chips → slice_get (node_items planned node) number ≡ Some local
      → driver board (suc node ∷ []) (spelled (drives local)) ≡ Some (at_cell (suc node ∷ []) number)
  item_driver node number local among at =
      let own = node_model_of planned board is_board node among in
      let there : slice_get (map spelled_item (node_items planned node)) number ≡ Some (spelled_item local) = slice_get-map spelled_item (node_items planned node) number ∙ ap (option_map spelled_item) at in
      let found = mapped_at plain_item own.0.items (map spelled_item (node_items planned node)) (ap (λ (m : PlainModel). m.items) own.1.same) number (spelled_item local) there in
      ap (driver board (suc node ∷ [])) (sym (driven_one found.0 local found.2))
      ∙ leaf_driver board (suc node ∷ []) own.0 (node_model_at planned board is_board node among) (node_leaf planned sound node board is_board own.0 own.1) (node_alone planned sound node board is_board own.0 own.1) number found.0 found.1

  -- ---- ports

  -- the binding of a port, where a node is placed
  binding : (node : ℕ) (among : node ≤ planned.board.chips) (net : Local) → Has net (node_ports planned node)
      → (bind : Bind) × Has bind (placing_of_node planned board is_board node among).0.binds × (bind.formal ≡ spelled net) × (bind.actual ≡ net_of_port planned net)
  binding node among net has =
      let placing = placing_of_node planned board is_board node among in
      let at = at-Has net (node_ports planned node) has in
      let there : slice_get (map (port_joined planned) (node_ports planned node)) at.0 ≡ Some (port_joined planned net) = slice_get-map (port_joined planned) (node_ports planned node) at.0 ∙ ap (option_map (port_joined planned)) at.1 in
      let found = mapped_at plain_bind placing.0.binds (map (port_joined planned) (node_ports planned node)) placing.2.binds at.0 (port_joined planned net) there in
      (found.0, Has-at found.0 placing.0.binds at.0 found.1, ap (λ (joined : Joined). joined.formal) found.2, ap (λ (joined : Joined). joined.actual) found.2)

  module _ (faultless : HasNoModelFault board) where
    -- the board's net of an output has the driver of the output
    pub output_net : (node : ℕ) → node ≤ planned.board.chips → (net : Local) → StandsIn net (node_outputs planned node)
        → driver board [] (net_of_port planned net) ≡ driver board (suc node ∷ []) (spelled net)
    output_net node among net output =
        let placing = placing_of_node planned board is_board node among in
        let has = Has-at net (node_outputs planned node) output.0 output.1 in
        let bind = binding node among net (Has-right net (node_inputs planned node) (node_outputs planned node) has) in
        let own = node_model_of planned board is_board node among in
        let outs : model_outputs (model_named board.models placing.0.model) ≡ map spelled (node_outputs planned node) =
        ap (λ (name : Word). model_outputs (model_named board.models name)) placing.2.model ∙ ap model_outputs (node_named planned board is_board node own.0 own.1) ∙ ap (λ (m : PlainModel). m.outputs) own.1.same in
        let is_output : has_name (model_outputs (model_named board.models placing.0.model)) bind.0.formal ≡ true =
        ap₂ has_name outs bind.2 ∙ has_name-Has (map spelled (node_outputs planned node)) (spelled net) (Has-map spelled net (node_outputs planned node) has) in
        ap (driver board []) (sym bind.3)
        ∙ output_driver board [] (root planned board is_board).0 (root_at planned board is_board) faultless (root_distinct planned sound board is_board) node placing.0 placing.1 bind.0 bind.1 is_output
        ∙ ap (driver board (suc node ∷ [])) bind.2

    -- an input has the driver of the board's net of it
    pub input_net : (node : ℕ) → node ≤ planned.board.chips → (net : Local) → StandsIn net (node_inputs planned node)
        → driver board (suc node ∷ []) (spelled net) ≡ driver board [] (net_of_port planned net)
    input_net node among net input =
        let placing = placing_of_node planned board is_board node among in
        let has = Has-at net (node_inputs planned node) input.0 input.1 in
        let bind = binding node among net (Has-left net (node_inputs planned node) (node_outputs planned node) has) in
        let own = node_model_of planned board is_board node among in
        let well = at_place IsWellMade board.models 0 (root planned board is_board).0 board.well_made (root planned board is_board).1.stands in
        let inputs : own.0.inputs ≡ map spelled (node_inputs planned node) = ap (λ (m : PlainModel). m.inputs) own.1.same in
        let is : is_port own.0 bind.0.formal ≡ true =
        or_left (has_name own.0.inputs bind.0.formal) (has_name own.0.clocks bind.0.formal)
        (ap₂ has_name inputs bind.2 ∙ has_name-Has (map spelled (node_inputs planned node)) (spelled net) (Has-map spelled net (node_inputs planned node) has)) in
        ap (driver board (suc node ∷ [])) (sym bind.2)
        ∙ input_driver board faultless [] (root planned board is_board).0 (root_at planned board is_board) node placing.0 placing.1 (formals_differ (root planned board is_board).0.items well.items node placing.0 placing.1)
        own.0 (node_model_at planned board is_board node among) bind.0 bind.1 is
        ∙ ap (driver board []) bind.3

    -- ---- columns and pins

    pub column_driver : (number : ℕ) → number < planned.ordered.flat.inputs
        → driver board (suc 0 ∷ []) (spelled (column number)) ≡ Some (at_port (spelled (column number)))
    column_driver number within =
        let own = root planned board is_board in
        let inputs : own.0.inputs ≡ map (λ k. spelled (column k)) (range_with_len 0 planned.ordered.flat.inputs) = ap (λ (m : PlainModel). m.inputs) own.1.same in
        let among : has_name own.0.inputs (spelled (column number)) ≡ true =
        ap (λ (list : List Word). has_name list (spelled (column number))) inputs
        ∙ has_name-Has (map (λ k. spelled (column k)) (range_with_len 0 planned.ordered.flat.inputs)) (spelled (column number)) (Has-map (λ k. spelled (column k)) number (range_with_len 0 planned.ordered.flat.inputs) (has_range 0 planned.ordered.flat.inputs number (omega arith) (omega (arith, within)))) in
        input_net 0 (omega arith) (column number) (has_column planned 0 number refl within)
        ∙ root_driver board (spelled (column number)) (port_first board [] own.0 (spelled (column number)) (root_at planned board is_board) (or_left (has_name own.0.inputs (spelled (column number))) (has_name own.0.clocks (spelled (column number))) among))

    -- both ends of a pin have one driver
    pub pin_driver : (at pin : ℕ) (link : Link) → slice_get planned.board.links at ≡ Some link → IsUsed planned link pin
        → driver board (suc link.to ∷ []) (spelled (pin_in at pin)) ≡ driver board (suc link.from ∷ []) (spelled (pin_out at pin))
    pin_driver at pin link linked used =
        let ends = at_place (λ (one : Link). (one.from ≤ planned.board.chips) × (one.to ≤ planned.board.chips)) planned.board.links at link planned.board.linked.separate.ends linked in
        input_net link.to ends.1 (pin_in at pin) (has_pin_in planned link.to at pin link linked refl used)
        ∙ output_net link.from ends.0 (pin_out at pin) (has_pin_out planned link.from at pin link linked refl used)

    -- ---- all that is driven

    -- what drives a net of a node: a column, or an item of a node by its number
    pub data DrivenBy (node : ℕ) (net : Local) : Type 0 where
      from_column : (number : ℕ) → number < planned.ordered.flat.inputs → column number ≡ net
          → driver board (suc node ∷ []) (spelled net) ≡ Some (at_port (spelled (column number))) → DrivenBy node net
      from_item : (at number : ℕ) (item : LocalItem) → at ≤ planned.board.chips → slice_get (node_items planned at) number ≡ Some item
          → (drives item ≡ net) ⊎ ((link : ℕ) × (pin : ℕ) × (net ≡ pin_in link pin) × (drives item ≡ pin_out link pin))
          → driver board (suc node ∷ []) (spelled net) ≡ Some (at_cell (suc at ∷ []) number) → DrivenBy node net

    pub driven_by : (node : ℕ) (net : Local) → IsDriven planned node net → DrivenBy node net
    driven_by node net (by_item item is same) =
        from_item node is.place item is.among is.stands (inl same) (ap (λ (one : Local). driver board (suc node ∷ []) (spelled one)) (sym same) ∙ item_driver node is.place item is.among is.stands)
    driven_by node net (by_pin at pin link linked to used same) =
        let ends = at_place (λ (one : Link). (one.from ≤ planned.board.chips) × (one.to ≤ planned.board.chips)) planned.board.links at link planned.board.linked.separate.ends linked in
        let split = has_first (users planned link pin) used.some in
        let out = has_out planned link.from ends.0 at pin link linked refl used.within split.first split.others split.is in
        from_item link.from out.place (out_item at pin link split.others) ends.0 out.stands (inr (at, pin, sym same, refl))
        (ap (λ (one : Local). driver board (suc node ∷ []) (spelled one)) (sym same) ∙ ap (λ (n : ℕ). driver board (suc n ∷ []) (spelled (pin_in at pin))) (sym to) ∙ pin_driver at pin link linked used ∙ item_driver link.from out.place (out_item at pin link split.others) ends.0 out.stands) where
          out_item : ℕ → ℕ → Link → List User → LocalItem
          out_item a b l others = table (late_name a b (length others) (l.delay - 1) ∷ []) (pin_out a b) true pass
    driven_by node net (by_column number host within same) =
        from_column number within same (ap (λ (one : Local). driver board (suc node ∷ []) (spelled one)) (sym same) ∙ ap (λ (n : ℕ). driver board (suc n ∷ []) (spelled (column number))) host ∙ column_driver number within)
