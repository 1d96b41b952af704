-- The names that the board's own model claims are all different, so no net of an emitted board has two drivers.
use Rattle.std.proofs.Common.{◌≡◌, ◌≢◌, ◌≤◌, ◌+◌, ◌++◌, ◌∙◌, inl, inr, ℕ, Bool, true, false, List, [], ◌∷◌, map, slice_get, Option, Some, None, if◌then◌else◌, filter_map, flat_map, ap, ap₂, refl, sym, subst, ⊎_elim, append-nil, arith}
use Rattle.std.specs.List.{cons_option, range_with_len}
use Rattle.std.proofs.lemmas.List.{map-append}
use Rattle.std.proofs.lemmas.Option.{same_Some, slice_get_within}
use Rattle.std.proofs.lemmas.Simd.{map-map}
use Rattle.vw_net.proofs.ListedLists.{StandsIn}
use Rattle.vw_plan.specs.PlannedBoard.{PlannedBoard}
use Rattle.vw_plan.specs.Sound.{IsSound}
use Rattle.vw_design.specs.Distinct.{are_distinct, has_name}
use Rattle.vw_design.specs.NetFaults.{bound_actual, claimed_by, two_drivers}
use Rattle.vw_design.specs.Paths.{Path, Word, model_at, model_named, model_outputs}
use Rattle.vw_design.specs.declared.design.Design.{Design}
use Rattle.vw_design.specs.declared.item.Bind.{Bind}
use Rattle.vw_design.specs.declared.item.Item.{Item}
use Rattle.vw_design.specs.declared.item.Item.TheVariants.{Latch, Names, Sub}
use Rattle.vw_design.specs.declared.model.Model.{Model}
use Rattle.vw_design.proofs.DistinctNames.{in_range, none_named}
use Rattle.vw_design.proofs.ListElements.{Has, Has-map, at-Has, from-map}
use Rattle.vw_design.proofs.Names.{has_name-Has}
use Rattle.vw_design.proofs.OneDriver.{claimed_names, one_driver_each}
use Rattle.vw_emit_hardware.specs.Locals.{Local, column, pin_in}
use Rattle.vw_emit_hardware.specs.Ports.{node_inputs, node_outputs}
use Rattle.vw_emit_hardware.proofs.PortOrigins.{IsColumnPort, IsPinPort, OutputOrigin, a_latch, a_pin, a_result, from_inputs, from_outputs}
use Rattle.vw_emit_names.specs.Boards.{IsBoardOf, Joined, PlainItem, PlainModel, all_nodes, latch, node_ports, place, placed_node, plain_bind, plain_item, port_joined, table}
use Rattle.vw_emit_names.specs.Spelled.{net_of_port, spelled}
use Rattle.vw_emit_names.proofs.Codes.{IsSmallNet, letter, spelled_once}
use Rattle.vw_emit_names.proofs.Models.{PlaceOf, at_node, at_root, node_model_of, node_named, place_of, root}
use Rattle.vw_emit_names.proofs.NodeNames.{node_distinct}
use Rattle.vw_emit_names.proofs.RootOnce.{all_outputs, board_names_distinct, board_nets}
use Rattle.vw_emit_names.proofs.SmallNets.{small_cell, small_input, small_pin}

-- the first element of two lists that are the same, and the others
head_same : {A : Type 0} (x y : A) (xs ys : List A) → x ∷ xs ≡ y ∷ ys → x ≡ y
head_same x y xs ys same = same_Some x y (ap (λ (list : List _). slice_get list 0) same)

tail_of : {A : Type 0} → List A → List A
tail_of [] = []
tail_of (x ∷ xs) = xs

tail_same : {A : Type 0} (x y : A) (xs ys : List A) → x ∷ xs ≡ y ∷ ys → xs ≡ ys
unfolding tail_of
tail_same x y xs ys same = ap tail_of same

module _ (planned : PlannedBoard) (sound : IsSound planned) where
  -- ---- ports of a node

  -- the numbers of an output are small
  pub small_output : (node : ℕ) (net : Local) → OutputOrigin planned node net → IsSmallNet net
  small_output node net (a_pin is from) = let small = small_pin planned sound is.at is.pin is.link is.linked is.used.within in subst IsSmallNet is.same (small.0, (small.1, tt))
  small_output node net (a_result is) = let few = planned.ordered.flat.few_outputs in let within = is.within in subst IsSmallNet is.same (omega (arith, few, within), tt)
  small_output node net (a_latch is) = subst IsSmallNet is.same (small_cell planned sound is.cell (slice_get_within planned.ordered.flat.cells is.cell _ is.at), tt)

  -- no input of a node is an output of it
  ports_apart : (node : ℕ) (one other : Local) → StandsIn one (node_inputs planned node) → StandsIn other (node_outputs planned node) → one ≡ other → ⊥
  ports_apart node one other input output same = ⊎_elim of_column of_pin (from_inputs planned node one input) where
    past : OutputOrigin planned node other → (letter one ≢ 120) × (letter one ≢ 105)
    past (a_pin is from) = let e = ap letter (is.same ∙ sym same) in ((λ x. omega (arith, e, x)), (λ x. omega (arith, e, x)))
    past (a_result is) = let e = ap letter (is.same ∙ sym same) in ((λ x. omega (arith, e, x)), (λ x. omega (arith, e, x)))
    past (a_latch is) = let e = ap letter (is.same ∙ sym same) in ((λ x. omega (arith, e, x)), (λ x. omega (arith, e, x)))

    of_column : IsColumnPort planned node one → ⊥
    of_column is = (past (from_outputs planned node other output)).0 (sym (ap letter is.same))

    of_pin : (is : IsPinPort planned pin_in one) × (is.link.to ≡ node) → ⊥
    of_pin is = (past (from_outputs planned node other output)).1 (sym (ap letter is.0.same))

  pub input_no_output : (node : ℕ) (net : Local) → StandsIn net (node_inputs planned node)
      → has_name (map spelled (node_outputs planned node)) (spelled net) ≡ false
  input_no_output node net input = none_named (map spelled (node_outputs planned node)) (spelled net) (λ has.
      let from = from-map spelled (spelled net) (node_outputs planned node) has in
      let output = at-Has from.0 (node_outputs planned node) from.1 in
      ports_apart node net from.0 input output (spelled_once net from.0 (small_input planned sound node net input) (small_output node from.0 (from_outputs planned node from.0 output)) (sym from.2)))

  pub output_no_input : (node : ℕ) (name : Word) → Has name (map spelled (node_outputs planned node))
      → has_name (map spelled (node_inputs planned node)) name ≡ false
  output_no_input node name has =
      let from = from-map spelled name (node_outputs planned node) has in
      let output = at-Has from.0 (node_outputs planned node) from.1 in
      none_named (map spelled (node_inputs planned node)) name (λ input_has.
      let back = from-map spelled name (node_inputs planned node) input_has in
      let input = at-Has back.0 (node_inputs planned node) back.1 in
      ports_apart node back.0 from.0 input output (spelled_once back.0 from.0 (small_input planned sound node back.0 input) (small_output node from.0 (from_outputs planned node from.0 output)) (back.2 ∙ sym from.2)))

  -- ---- what a placed node claims

  -- what is bound to an output, of ports
  abbrev shows : List Word → Local → Option Word
  shows outputs port = if has_name outputs (spelled port) then Some (net_of_port planned port) else None

  bound_ports : (outputs : List Word) (binds : List Bind) (ports : List Local) → map plain_bind binds ≡ map (port_joined planned) ports
      → filter_map (bound_actual outputs) binds ≡ filter_map (shows outputs) ports
  bound_ports outputs [] [] same = refl
  bound_ports outputs [] (port ∷ ports) same = cc
  bound_ports outputs (bind ∷ binds) [] same = cc
  bound_ports outputs (bind ∷ binds) (port ∷ ports) same =
      let first : plain_bind bind ≡ port_joined planned port = head_same (plain_bind bind) (port_joined planned port) (map plain_bind binds) (map (port_joined planned) ports) same in
      ap₂ (λ (joined : Joined) (rest : List Word). cons_option (if has_name outputs joined.formal then Some joined.actual else None) rest) first
      (bound_ports outputs binds ports (tail_same (plain_bind bind) (port_joined planned port) (map plain_bind binds) (map (port_joined planned) ports) same))

  none_shown : (outputs : List Word) (ports more : List Local) → ((net : Local) → Has net ports → has_name outputs (spelled net) ≡ false)
      → filter_map (shows outputs) (ports ++ more) ≡ filter_map (shows outputs) more
  none_shown outputs [] more none = refl
  none_shown outputs (port ∷ ports) more none =
      ap (λ (test : Bool). cons_option (if test then Some (net_of_port planned port) else None) (filter_map (shows outputs) (ports ++ more))) (none port (inl refl))
      ∙ none_shown outputs ports more (λ net has. none net (inr has))

  all_shown : (outputs : List Word) (ports : List Local) → ((net : Local) → Has net ports → has_name outputs (spelled net) ≡ true)
      → filter_map (shows outputs) ports ≡ map (net_of_port planned) ports
  all_shown outputs [] all = refl
  all_shown outputs (port ∷ ports) all =
      ap (λ (test : Bool). cons_option (if test then Some (net_of_port planned port) else None) (filter_map (shows outputs) ports)) (all port (inl refl))
      ∙ ap (λ (rest : List Word). net_of_port planned port ∷ rest) (all_shown outputs ports (λ net has. all net (inr has)))

  module _ (board : Design) (is_board : IsBoardOf planned board) where
    placed_claims : (node : ℕ) → node ≤ planned.board.chips → (item : Item) → plain_item item ≡ placed_node planned node
        → claimed_by board item ≡ map (net_of_port planned) (node_outputs planned node)
    placed_claims node among (Names line ins out cover) same = cc
    placed_claims node among (Latch line d q edge control init) same = cc
    placed_claims node among (Sub line model binds) same =
        let outputs = map spelled (node_outputs planned node) in
        let own = node_model_of planned board is_board node among in
        let named : model_named board.models model ≡ Some own.0 = ap (λ (item : PlainItem). model_named board.models (model_of item)) same ∙ node_named planned board is_board node own.0 own.1 in
        let outs : model_outputs (model_named board.models model) ≡ outputs = ap model_outputs named ∙ ap (λ (m : PlainModel). m.outputs) own.1.same in
        ap (λ (list : List Word). filter_map (bound_actual list) binds) outs
        ∙ bound_ports outputs binds (node_ports planned node) (ap binds_of same)
        ∙ none_shown outputs (node_inputs planned node) (node_outputs planned node) (λ net has. input_no_output node net (at-Has net (node_inputs planned node) has))
        ∙ all_shown outputs (node_outputs planned node) (λ net has. has_name-Has outputs (spelled net) (Has-map spelled net (node_outputs planned node) has)) where
          model_of : PlainItem → Word
          model_of (table ins out on rows) = []
          model_of (latch d q edge control init) = []
          model_of (place name joined) = name

          binds_of : PlainItem → List Joined
          binds_of (table ins out on rows) = []
          binds_of (latch d q edge control init) = []
          binds_of (place name joined) = joined

    all_claims : (items : List Item) (nodes : List ℕ) → map plain_item items ≡ map (placed_node planned) nodes
        → ((node : ℕ) → Has node nodes → node ≤ planned.board.chips)
        → flat_map (claimed_by board) items ≡ map (net_of_port planned) (flat_map (node_outputs planned) nodes)
    all_claims [] [] same few = refl
    all_claims [] (node ∷ nodes) same few = cc
    all_claims (item ∷ items) [] same few = cc
    all_claims (item ∷ items) (node ∷ nodes) same few =
        let first = head_same (plain_item item) (placed_node planned node) (map plain_item items) (map (placed_node planned) nodes) same in
        let rest = tail_same (plain_item item) (placed_node planned node) (map plain_item items) (map (placed_node planned) nodes) same in
        ap₂ (λ (a b : List Word). a ++ b) (placed_claims node (few node (inl refl)) item first) (all_claims items nodes rest (λ one has. few one (inr has)))
        ∙ sym (map-append (net_of_port planned) (node_outputs planned node) (flat_map (node_outputs planned) nodes))

    root_claims : claimed_names board (root planned board is_board).0 ≡ map (net_of_port planned) (board_nets planned sound)
    root_claims =
        let model = root planned board is_board in
        let columns = range_with_len 0 planned.ordered.flat.inputs in
        let inputs : model.0.inputs ≡ map (λ number. spelled (column number)) columns = ap (λ (m : PlainModel). m.inputs) model.1.same in
        let clocks : model.0.clocks ≡ [] = ap (λ (m : PlainModel). m.clocks) model.1.same in
        let ports : model.0.inputs ++ model.0.clocks ≡ map (net_of_port planned) (map (λ number. column number) columns) =
        ap₂ (λ (a b : List Word). a ++ b) inputs clocks ∙ append-nil (map (λ number. spelled (column number)) columns) ∙ sym (map-map (net_of_port planned) (λ number. column number) columns) in
        let driven = all_claims model.0.items (all_nodes planned) (ap (λ (m : PlainModel). m.items) model.1.same) (λ node has. let below = in_range 0 (planned.board.chips + 1) node has in omega (arith, below.1)) in
        ap₂ (λ (a b : List Word). a ++ b) ports driven ∙ sym (map-append (net_of_port planned) (map (λ number. column number) columns) (all_outputs planned sound))

    pub root_distinct : are_distinct (claimed_names board (root planned board is_board).0) ≡ true
    root_distinct = ap are_distinct root_claims ∙ board_names_distinct planned sound

    -- what any instance claims is different
    pub each_distinct : (path : Path) (model : Model) → model_at board path ≡ Some model → are_distinct (claimed_names board model) ≡ true
    each_distinct path model stands = by (place_of planned board is_board path model stands) where
      by : PlaceOf planned board is_board path model → are_distinct (claimed_names board model) ≡ true
      by (at_root empty same) = subst (λ (m : Model). are_distinct (claimed_names board m) ≡ true) same root_distinct
      by (at_node node among is node_is) = node_distinct planned sound node board is_board model node_is

    pub no_two_drivers : two_drivers board ≡ None
    no_two_drivers = one_driver_each board each_distinct
