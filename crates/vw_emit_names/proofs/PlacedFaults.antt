-- An emitted board has none of the faults of models that place each other.
use Rattle.std.proofs.Common.{◌≡◌, ◌≤◌, ◌&&◌, ◌||◌, ◌++◌, ◌∙◌, inl, inr, not, ℕ, zero, suc, Bool, true, false, cond, List, [], ◌∷◌, map, slice_get, Option, Some, None, option_map, option_and_then, find, is_none, is_some, if◌then◌else◌, codes, nat_lt, ap, ap₂, refl, sym, subst, ⊎_elim, append-nil, true≢false, arith}
use Rattle.std.specs.List.{list_all}
use Rattle.std.specs.Str.{bytes_eq}
use Rattle.std.proofs.Math.Bool.{or-false}
use Rattle.std.proofs.lemmas.Bool.{or_left, or_right}
use Rattle.std.proofs.lemmas.Option.{same_Some, slice_get-map}
use Rattle.std.proofs.lemmas.Simd.{map-map}
use Rattle.vw_net.specs.FirstFound.{first_found}
use Rattle.vw_net.proofs.FirstFound.{found_nowhere}
use Rattle.vw_plan.specs.PlannedBoard.{PlannedBoard}
use Rattle.vw_plan.specs.Sound.{IsSound}
use Rattle.vw_design.specs.Accepted.{HasNoModelFault}
use Rattle.vw_design.specs.Counts.{IsRanking, is_below}
use Rattle.vw_design.specs.Distinct.{has_name}
use Rattle.vw_design.specs.Limits.{IsSmall}
use Rattle.vw_design.specs.ModelFaults.{at_model, port_both_ways, by_placing, first_placing, is_formal_of, is_reached, model_places, names_model, reached, unbound_input, unbound_input_in, unknown_formal, unknown_formal_in, unknown_model}
use Rattle.vw_design.specs.Paths.{Word, items_of, is_port, model_named}
use Rattle.vw_design.specs.Preorder.{is_cell}
use Rattle.vw_design.specs.declared.design.Design.{Design}
use Rattle.vw_design.specs.declared.item.Bind.{Bind}
use Rattle.vw_design.specs.declared.item.Item.{Item}
use Rattle.vw_design.specs.declared.item.Item.TheVariants.{Latch, Names, Sub}
use Rattle.vw_design.specs.declared.model.Model.{Model}
use Rattle.vw_design.proofs.Circles.{no_circle}
use Rattle.vw_design.proofs.ListElements.{Has, Has-append, Has-at, Has-left, Has-map, all-Has, all_pass, any-Has, at-Has, from-filter, from-find, from-map}
use Rattle.vw_design.proofs.ModelNumbers.{name_of_named}
use Rattle.vw_design.proofs.Names.{has_name-Has, name_same}
use Rattle.vw_design.proofs.ReachedFromRoot.{reached_closed}
use Rattle.vw_emit_hardware.specs.Items.{node_items}
use Rattle.vw_emit_hardware.specs.Locals.{Local}
use Rattle.vw_emit_hardware.specs.Ports.{node_inputs, node_outputs}
use Rattle.vw_emit_names.specs.Boards.{IsBoardOf, Joined, PlainItem, PlainModel, all_nodes, board_models, latch, node_model, node_ports, place, placed_node, plain_bind, plain_item, plain_model, port_joined, table}
use Rattle.vw_emit_names.specs.Spelled.{node_name, spelled}
use Rattle.vw_emit_names.proofs.Models.{IsNodeModel, all_cells, mapped_at, node_below, node_model_of, node_named, root}
use Rattle.vw_emit_names.proofs.RootNames.{output_no_input}

-- nothing is found where nothing passes
pub find_nothing : {A : Type 0} (test : A → Bool) (xs : List A) → ((x : A) → Has x xs → test x ≡ false) → find test xs ≡ None
find_nothing test [] none = refl
find_nothing test (x ∷ xs) none = ap (λ (passes : Bool). cond passes (Some x) (find test xs)) (none x (inl refl)) ∙ find_nothing test xs (λ y has. none y (inr has))

module _ (planned : PlannedBoard) (sound : IsSound planned) (board : Design) (is_board : IsBoardOf planned board) where
  -- ---- what the board places

  -- a placed model of the board
  record IsPlaced (name : Word) (binds : List Bind) : Type 0 where
    node : ℕ
    among : node ≤ planned.board.chips
    name_is : name ≡ node_name node
    binds_are : map plain_bind binds ≡ map (port_joined planned) (node_ports planned node)

  is_placed : (line : ℕ) (name : Word) (binds : List Bind) → Has (Sub line name binds) (root planned board is_board).0.items → IsPlaced name binds
  is_placed line name binds has =
      let own = root planned board is_board in
      let at = at-Has (Sub line name binds) own.0.items has in
      let here : slice_get (map plain_item own.0.items) at.0 ≡ Some (place name (map plain_bind binds)) = slice_get-map plain_item own.0.items at.0 ∙ ap (option_map plain_item) at.1 in
      let there : slice_get (map (placed_node planned) (all_nodes planned)) at.0 ≡ Some (place name (map plain_bind binds)) = ap (λ (list : List PlainItem). slice_get list at.0) (sym (ap (λ (m : PlainModel). m.items) own.1.same)) ∙ here in
      let found = mapped_at (placed_node planned) (all_nodes planned) (map (placed_node planned) (all_nodes planned)) refl at.0 (place name (map plain_bind binds)) there in
      let below = node_below planned at.0 found.0 found.1 in
      record { node = found.0; among = omega (arith, below.0, below.1); name_is = sym (ap model_of found.2); binds_are = sym (ap binds_of found.2) } where
        model_of : PlainItem → Word
        model_of (table ins out on rows) = []
        model_of (latch d q edge control init) = []
        model_of (place model joined) = model

        binds_of : PlainItem → List Joined
        binds_of (table ins out on rows) = []
        binds_of (latch d q edge control init) = []
        binds_of (place model joined) = joined

  -- ---- each model is the board's or a node's

  data IsModel (model : Model) : Type 0 where
    the_root : (root planned board is_board).0 ≡ model → IsModel model
    a_node : (node : ℕ) → node ≤ planned.board.chips → IsNodeModel planned board is_board node model → IsModel model

  is_model : (model : Model) → Has model board.models → IsModel model
  is_model model has = let at = at-Has model board.models has in by at.0 at.1 where
    by : (k : ℕ) → slice_get board.models k ≡ Some model → IsModel model
    by zero at = the_root (same_Some (root planned board is_board).0 model (sym (root planned board is_board).1.stands ∙ at))
    by (suc k) at =
        let here : slice_get (board_models planned) (suc k) ≡ Some (plain_model model) = ap (λ (list : List PlainModel). slice_get list (suc k)) (sym is_board) ∙ slice_get-map plain_model board.models (suc k) ∙ ap (option_map plain_model) at in
        let found = mapped_at (node_model planned) (all_nodes planned) (map (node_model planned) (all_nodes planned)) refl k (plain_model model) here in
        let below = node_below planned k found.0 found.1 in
        let same : plain_model model ≡ node_model planned k = sym found.2 ∙ ap (node_model planned) below.1 in
        a_node k below.0 (record { stands = at; same = same })

  -- a search that finds nothing at what the board places finds nothing
  none_placed : {A : Type 0} (search : ℕ → Word → List Bind → Option A)
      → ((line node : ℕ) (binds : List Bind) → node ≤ planned.board.chips → map plain_bind binds ≡ map (port_joined planned) (node_ports planned node)
      → search line (node_name node) binds ≡ None) → first_placing board search ≡ None
  unfolding reached
  none_placed search none =
      found_nowhere (λ (model : Model). first_found (by_placing search) model.items) (reached board) (λ k model at. of_model model (is_model model (from-filter (λ (m : Model). is_reached board m.name) model board.models (Has-at model (reached board) k at)).0)) where
        in_root : (item : Item) → Has item (root planned board is_board).0.items → by_placing search item ≡ None
        in_root (Names line ins out cover) has = refl
        in_root (Latch line d q edge control init) has = refl
        in_root (Sub line name binds) has =
            let is = is_placed line name binds has in
            ap (λ (n : Word). search line n binds) is.name_is ∙ none line is.node binds is.among is.binds_are

        in_cells : (item : Item) → is_cell item ≡ true → by_placing search item ≡ None
        in_cells (Names line ins out cover) cell = refl
        in_cells (Latch line d q edge control init) cell = refl
        in_cells (Sub line name binds) cell = cc

        of_model : (model : Model) → IsModel model → first_found (by_placing search) model.items ≡ None
        of_model model (the_root same) = subst (λ (m : Model). first_found (by_placing search) m.items ≡ None) same (found_nowhere (by_placing search) (root planned board is_board).0.items (λ k item at. in_root item (Has-at item (root planned board is_board).0.items k at)))
        of_model model (a_node node among is) =
            let cells = all_cells model.items (node_items planned node) (ap (λ (m : PlainModel). m.items) is.same) in
            found_nowhere (by_placing search) model.items (λ k item at. in_cells item (all-Has is_cell item model.items cells (Has-at item model.items k at)))

  -- ---- the faults

  named : (node : ℕ) → node ≤ planned.board.chips
      → (model : Model) × IsNodeModel planned board is_board node model × (model_named board.models (node_name node) ≡ Some model)
  named node among = let own = node_model_of planned board is_board node among in (own.0, own.1, node_named planned board is_board node own.0 own.1)

  no_unknown_model : unknown_model board ≡ None
  no_unknown_model = none_placed (λ line name binds. if is_none (model_named board.models name) then Some line else None) (λ line node binds among are. ap (λ (found : Option Model). if is_none found then Some line else None) (named node among).2)

  -- what a node's port is bound to is one of its formals
  formal_is : (node : ℕ) (binds : List Bind) → map plain_bind binds ≡ map (port_joined planned) (node_ports planned node) → (bind : Bind)
      → Has bind binds → (net : Local) × Has net (node_ports planned node) × (spelled net ≡ bind.formal)
  formal_is node binds are bind has =
      let here = subst (λ (list : List Joined). Has (plain_bind bind) list) are (Has-map plain_bind bind binds has) in
      let from = from-map (port_joined planned) (plain_bind bind) (node_ports planned node) here in
      (from.0, from.1, ap (λ (joined : Joined). joined.formal) from.2)

  inputs_are : (node : ℕ) (model : Model) → IsNodeModel planned board is_board node model
      → model.inputs ++ model.clocks ≡ map spelled (node_inputs planned node)
  inputs_are node model is = ap₂ (λ (a b : List Word). a ++ b) (ap (λ (m : PlainModel). m.inputs) is.same) (ap (λ (m : PlainModel). m.clocks) is.same) ∙ append-nil (map spelled (node_inputs planned node))

  port_is : (node : ℕ) (model : Model) → IsNodeModel planned board is_board node model → (name : Word)
      → is_port model name ≡ has_name (map spelled (node_inputs planned node)) name
  port_is node model is name =
      ap₂ (λ (a b : List Word). has_name a name || has_name b name) (ap (λ (m : PlainModel). m.inputs) is.same) (ap (λ (m : PlainModel). m.clocks) is.same) ∙ or-false (has_name (map spelled (node_inputs planned node)) name)

  no_unknown_formal : unknown_formal board ≡ None
  no_unknown_formal = none_placed (λ line name binds. option_map (λ formal. record { line = line; name = formal }) (at_model board (λ model. unknown_formal_in model binds) name)) (λ line node binds among are.
      let own = named node among in
      let nothing : find (λ (bind : Bind). not (is_formal_of own.0 bind.formal)) binds ≡ None = find_nothing (λ (bind : Bind). not (is_formal_of own.0 bind.formal)) binds (λ bind has. ap not (known node own.0 own.1 bind (formal_is node binds are bind has))) in
      ap (λ (found : Option Model). option_map (λ formal. record { line = line; name = formal }) (option_and_then (λ model. unknown_formal_in model binds) found)) own.2
      ∙ ap (λ (found : Option Bind). option_map (λ formal. record { line = line; name = formal }) (option_map (λ (bind : Bind). bind.formal) found)) nothing) where
        known : (node : ℕ) (model : Model) → IsNodeModel planned board is_board node model → (bind : Bind)
            → (net : Local) × Has net (node_ports planned node) × (spelled net ≡ bind.formal) → is_formal_of model bind.formal ≡ true
        known node model is bind net =
            let outputs : model.outputs ≡ map spelled (node_outputs planned node) = ap (λ (m : PlainModel). m.outputs) is.same in
            ap (is_formal_of model) (sym net.2)
            ∙ ap₂ (λ (a b : Bool). a || b) (port_is node model is (spelled net.0)) (ap (λ (list : List Word). has_name list (spelled net.0)) outputs)
            ∙ ⊎_elim (λ input. or_left (has_name (map spelled (node_inputs planned node)) (spelled net.0)) (has_name (map spelled (node_outputs planned node)) (spelled net.0)) (has_name-Has (map spelled (node_inputs planned node)) (spelled net.0) (Has-map spelled net.0 (node_inputs planned node) input)))
            (λ output. or_right (has_name (map spelled (node_inputs planned node)) (spelled net.0)) (has_name (map spelled (node_outputs planned node)) (spelled net.0)) (has_name-Has (map spelled (node_outputs planned node)) (spelled net.0) (Has-map spelled net.0 (node_outputs planned node) output)))
            (Has-append net.0 (node_inputs planned node) (node_outputs planned node) net.1)

  no_unbound_input : unbound_input board ≡ None
  no_unbound_input = none_placed (λ line name binds. option_map (λ formal. record { line = line; name = formal }) (at_model board (λ model. unbound_input_in model binds) name)) (λ line node binds among are.
      let own = named node among in
      let formals : map (λ (bind : Bind). bind.formal) binds ≡ map spelled (node_ports planned node) = sym (map-map (λ (joined : Joined). joined.formal) plain_bind binds) ∙ ap (map (λ (joined : Joined). joined.formal)) are ∙ map-map (λ (joined : Joined). joined.formal) (port_joined planned) (node_ports planned node) in
      let nothing : find (λ formal. not (has_name (map (λ (bind : Bind). bind.formal) binds) formal)) (own.0.inputs ++ own.0.clocks) ≡ None =
      ap₂ (λ (names list : List Word). find (λ formal. not (has_name names formal)) list) formals (inputs_are node own.0 own.1) ∙ find_nothing (λ formal. not (has_name (map spelled (node_ports planned node)) formal)) (map spelled (node_inputs planned node)) (λ formal has.
      let from = from-map spelled formal (node_inputs planned node) has in
      ap not (has_name-Has (map spelled (node_ports planned node)) formal (subst (λ (w : Word). Has w (map spelled (node_ports planned node))) from.2 (Has-map spelled from.0 (node_ports planned node) (Has-left from.0 (node_inputs planned node) (node_outputs planned node) from.1))))) in
      ap (λ (found : Option Model). option_map (λ formal. record { line = line; name = formal }) (option_and_then (λ model. unbound_input_in model binds) found)) own.2
      ∙ ap (λ (found : Option Word). option_map (λ formal. record { line = line; name = formal }) found) nothing)

  no_both_ways : port_both_ways board ≡ None
  no_both_ways = none_placed (λ line name binds. option_map (λ output. record { model = name; name = output }) (at_model board (λ model. find (is_port model) model.outputs) name)) (λ line node binds among are.
      let own = named node among in
      let nothing : find (is_port own.0) own.0.outputs ≡ None = ap (find (is_port own.0)) (ap (λ (m : PlainModel). m.outputs) own.1.same) ∙ find_nothing (is_port own.0) (map spelled (node_outputs planned node)) (λ output has.
      port_is node own.0 own.1 output ∙ output_no_input planned sound node output has) in
      ap (λ (found : Option Model). option_map (λ output. record { model = node_name node; name = output }) (option_and_then (λ model. find (is_port model) model.outputs) found)) own.2
      ∙ ap (λ (found : Option Word). option_map (λ output. record { model = node_name node; name = output }) found) nothing)

  -- ---- no circle

  -- the board's own model above all others
  abbrev rank : Word → ℕ
  rank name = if bytes_eq name (codes "board") then 1 else 0

  -- what is placed is reached, and below
  below_root : (name : Word) → is_reached board name ≡ true → (model : Model) → model_named board.models name ≡ Some model
      → (root planned board is_board).0 ≡ model
      → (line : ℕ) (placed : Word) (binds : List Bind) → Has (Sub line placed binds) model.items
      → is_below (is_reached board) rank (rank name) (Sub line placed binds) ≡ true
  below_root name is model named_is same line placed binds has =
      let own = is_placed line placed binds (subst (λ (m : Model). Has (Sub line placed binds) m.items) (sym same) has) in
      let places : model_places (model_named board.models name) placed ≡ true = ap (λ (m : Option Model). model_places m placed) named_is ∙ any-Has (names_model placed) (Sub line placed binds) model.items has (name_same placed) in
      let there : is_some (model_named board.models placed) ≡ true = ap (λ (w : Word). is_some (model_named board.models w)) own.name_is ∙ ap (λ (m : Option Model). is_some m) (named own.node own.among).2 in
      let reaches = reached_closed board name placed is places there in
      let name_is : name ≡ codes "board" = sym (name_of_named board name model named_is) ∙ ap (λ (m : Model). m.name) (sym same) ∙ ap (λ (m : PlainModel). m.name) (root planned board is_board).1.same in
      ap₂ (λ (a b : Bool). a && b) reaches (ap₂ (λ (x y : Word). nat_lt (rank x) (rank y)) own.name_is name_is)

  no_place : (limit : ℕ) (items : List Item) → list_all is_cell items ≡ true → list_all (is_below (is_reached board) rank limit) items ≡ true
  no_place limit [] all = refl
  no_place limit (Names line ins out cover ∷ items) all = no_place limit items all
  no_place limit (Latch line d q edge control init ∷ items) all = no_place limit items all
  no_place limit (Sub line placed binds ∷ items) all = absurd (true≢false (sym all))

  falls : (name : Word) → is_reached board name ≡ true → (found : Option Model) → model_named board.models name ≡ found
      → list_all (is_below (is_reached board) rank (rank name)) (items_of found) ≡ true
  falls name is None named_is = refl
  falls name is (Some model) named_is = by (is_model model (from-find (λ (m : Model). bytes_eq m.name name) model board.models named_is).0) where
    by : IsModel model → list_all (is_below (is_reached board) rank (rank name)) model.items ≡ true
    by (a_node node among node_is) = no_place (rank name) model.items (all_cells model.items (node_items planned node) (ap (λ (m : PlainModel). m.items) node_is.same))
    by (the_root same) = all_pass (is_below (is_reached board) rank (rank name)) model.items (λ item has. each item has) where
      each : (item : Item) → Has item model.items → is_below (is_reached board) rank (rank name) item ≡ true
      each (Names line ins out cover) has = refl
      each (Latch line d q edge control init) has = refl
      each (Sub line placed binds) has = below_root name is model named_is same line placed binds has

  ranking : IsRanking board (is_reached board) rank
  ranking = record { falls = λ name is. falls name is (model_named board.models name) refl }

  -- so it has none of them, if it is small
  pub faultless : IsSmall board → HasNoModelFault board
  faultless small = record {
    models_known = no_unknown_model;
    no_circle = no_circle board rank ranking;
    formals_known = no_unknown_formal;
    inputs_bound = no_unbound_input;
    one_way = no_both_ways;
    small = small;
  }
