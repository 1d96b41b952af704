-- The models of an emitted board, and the paths at which they are placed: the board itself, and each node once.
use Rattle.std.proofs.Common.{◌≡◌, ◌≤◌, ◌+◌, ◌&&◌, ◌∙◌, not, ℕ, zero, suc, Bool, true, false, List, [], ◌∷◌, length, map, slice_get, Option, Some, None, option_map, option_and_then, ap, refl, sym, subst, true≢false, arith}
use Rattle.std.specs.List.{list_all}
use Rattle.std.proofs.lemmas.List.{length-map}
use Rattle.std.proofs.lemmas.List.FromFn.{get_or-range_with_len, length-range_with_len}
use Rattle.std.proofs.lemmas.Option.{none-some, same_Some, slice_get-get_or, slice_get-map, slice_get_within}
use Rattle.std.proofs.lemmas.Simd.{map-map}
use Rattle.vw_plan.specs.PlannedBoard.{PlannedBoard}
use Rattle.vw_design.specs.declared.design.Design.{Design}
use Rattle.vw_design.specs.declared.item.Item.{Item}
use Rattle.vw_design.specs.declared.item.Item.TheVariants.{Latch, Names, Sub}
use Rattle.vw_design.specs.declared.model.Model.{Model}
use Rattle.vw_design.specs.NetReads.{driven_name}
use Rattle.vw_design.specs.Paths.{Path, Placing, Word, model_at, model_named, model_placed, placings}
use Rattle.vw_design.specs.Preorder.{is_cell}
use Rattle.vw_design.proofs.ListedInstances.{placer, placing_of_placed}
use Rattle.vw_design.proofs.ModelNumbers.{named_at}
use Rattle.vw_emit_hardware.specs.Items.{node_items}
use Rattle.vw_emit_hardware.specs.Locals.{LocalItem, drives, register, table as local_table}
use Rattle.vw_emit_names.specs.Boards.{IsBoardOf, Joined, PlainItem, PlainModel, all_nodes, board_model, board_models, latch, node_model, node_ports, place, placed_node, plain_bind, plain_item, plain_model, port_joined, spelled_item, table}
use Rattle.vw_emit_names.specs.Spelled.{node_name, spelled}

-- ---- lists with the same values

-- what stands in a list whose values are another list
pub mapped_at : {A B : Type 0} (f : A → B) (xs : List A) (ys : List B) → map f xs ≡ ys → (k : ℕ) (y : B) → slice_get ys k ≡ Some y
    → (x : A) × (slice_get xs k ≡ Some x) × (f x ≡ y)
mapped_at f xs ys same k y at = by (slice_get xs k) refl (sym (slice_get-map f xs k) ∙ ap (λ (list : List _). slice_get list k) same ∙ at) where
  by : (found : Option _) → slice_get xs k ≡ found → option_map f found ≡ Some y → (x : _) × (slice_get xs k ≡ Some x) × (f x ≡ y)
  by None is none = absurd (none-some y none)
  by (Some x) is some = (x, is, same_Some (f x) y some)

-- the number at a place of the nodes is that place
pub node_at : (planned : PlannedBoard) (node : ℕ) → node ≤ planned.board.chips → slice_get (all_nodes planned) node ≡ Some node
node_at planned node among =
    let long = length-range_with_len 0 (planned.board.chips + 1) in
    let is : 0 + node ≡ node = omega arith in
    slice_get-get_or (all_nodes planned) node 0 (omega (arith, long, among)) ∙ ap (λ (n : ℕ). Some n) (get_or-range_with_len 0 (planned.board.chips + 1) node 0 (omega (arith, among)) ∙ is)

-- and no other place has one
pub node_below : (planned : PlannedBoard) (number node : ℕ) → slice_get (all_nodes planned) number ≡ Some node
    → (number ≤ planned.board.chips) × (node ≡ number)
node_below planned number node at =
    let inside = slice_get_within (all_nodes planned) number node at in
    let long = length-range_with_len 0 (planned.board.chips + 1) in
    let below : number ≤ planned.board.chips = omega (arith, inside, long) in
    (below, same_Some node number (sym at ∙ node_at planned number below))

-- ---- what plain items say of items

-- the name that a plain item drives, and whether it is a cell
abbrev plain_driven : PlainItem → Word
plain_driven (table ins out on rows) = out
plain_driven (latch d q edge control init) = q
plain_driven (place model binds) = []

driven_plain : (item : Item) → plain_driven (plain_item item) ≡ driven_name item
driven_plain (Names line ins out cover) = refl
driven_plain (Latch line d q edge control init) = refl
driven_plain (Sub line model binds) = refl

driven_spelled : (item : LocalItem) → plain_driven (spelled_item item) ≡ spelled (drives item)
driven_spelled (local_table ins out on rows) = refl
driven_spelled (register next own init) = refl

pub driven_one : (item : Item) (local : LocalItem) → plain_item item ≡ spelled_item local → driven_name item ≡ spelled (drives local)
driven_one item local same = sym (driven_plain item) ∙ ap plain_driven same ∙ driven_spelled local

abbrev is_plain_cell : PlainItem → Bool
is_plain_cell (table ins out on rows) = true
is_plain_cell (latch d q edge control init) = true
is_plain_cell (place model binds) = false

cell_plain : (item : Item) → is_plain_cell (plain_item item) ≡ is_cell item
cell_plain (Names line ins out cover) = refl
cell_plain (Latch line d q edge control init) = refl
cell_plain (Sub line model binds) = refl

cell_spelled : (item : LocalItem) → is_plain_cell (spelled_item item) ≡ true
cell_spelled (local_table ins out on rows) = refl
cell_spelled (register next own init) = refl

map_by : {A B : Type 0} (f g : A → B) → ((x : A) → f x ≡ g x) → (xs : List A) → map f xs ≡ map g xs
map_by f g same [] = refl
map_by f g same (x ∷ xs) = ap (λ (y : _). y ∷ map f xs) (same x) ∙ ap (λ (ys : List _). g x ∷ ys) (map_by f g same xs)

-- the names that items drive which are these of a node
pub driven_names : (items : List Item) (locals : List LocalItem) → map plain_item items ≡ map spelled_item locals
    → map driven_name items ≡ map spelled (map drives locals)
driven_names items locals same =
    map_by driven_name (λ (item : Item). plain_driven (plain_item item)) (λ item. sym (driven_plain item)) items
    ∙ sym (map-map plain_driven plain_item items) ∙ ap (map plain_driven) same ∙ map-map plain_driven spelled_item locals
    ∙ map_by (λ (item : LocalItem). plain_driven (spelled_item item)) (λ (item : LocalItem). spelled (drives item)) driven_spelled locals
    ∙ sym (map-map spelled drives locals)

-- and they are cells
pub all_cells : (items : List Item) (locals : List LocalItem) → map plain_item items ≡ map spelled_item locals → list_all is_cell items ≡ true
all_cells [] locals same = refl
all_cells (item ∷ items) [] same = cc
all_cells (item ∷ items) (local ∷ locals) same =
    let first : plain_item item ≡ spelled_item local = same_Some (plain_item item) (spelled_item local) (ap (λ (list : List PlainItem). slice_get list 0) same) in
    let cell : is_cell item ≡ true = sym (cell_plain item) ∙ ap is_plain_cell first ∙ cell_spelled local in
    ap (λ (b : Bool). b && list_all is_cell items) cell ∙ all_cells items locals (ap tail same) where
      tail : List PlainItem → List PlainItem
      tail [] = []
      tail (one ∷ more) = more

-- cells place nothing
no_placings : (items : List Item) → list_all is_cell items ≡ true → placings items ≡ []
no_placings [] all = refl
no_placings (Names line ins out cover ∷ items) all = no_placings items all
no_placings (Latch line d q edge control init ∷ items) all = no_placings items all
no_placings (Sub line model binds ∷ items) all = absurd (true≢false (sym all))

-- ---- what the board places

-- a model that is placed as a node
pub record IsPlacing (planned : PlannedBoard) (node : ℕ) (placing : Placing) : Type 0 where
  pub model : placing.model ≡ node_name node
  pub binds : map plain_bind placing.binds ≡ map (port_joined planned) (node_ports planned node)

abbrev plain_placing : Placing → PlainItem
plain_placing placing = place placing.model (map plain_bind placing.binds)

-- the placed models of items that only place
placed_plain : (items : List Item) (nodes : List ℕ) (planned : PlannedBoard) → map plain_item items ≡ map (placed_node planned) nodes
    → map plain_placing (placings items) ≡ map (placed_node planned) nodes
placed_plain [] nodes planned same = same
placed_plain (Names line ins out cover ∷ items) [] planned same = cc
placed_plain (Names line ins out cover ∷ items) (node ∷ nodes) planned same = cc
placed_plain (Latch line d q edge control init ∷ items) [] planned same = cc
placed_plain (Latch line d q edge control init ∷ items) (node ∷ nodes) planned same = cc
placed_plain (Sub line model binds ∷ items) [] planned same = cc
placed_plain (Sub line model binds ∷ items) (node ∷ nodes) planned same =
    let first : place model (map plain_bind binds) ≡ placed_node planned node = same_Some (place model (map plain_bind binds)) (placed_node planned node) (ap (λ (list : List PlainItem). slice_get list 0) same) in
    ap (λ (item : PlainItem). item ∷ map plain_placing (placings items)) first ∙ ap (λ (rest : List PlainItem). placed_node planned node ∷ rest) (placed_plain items nodes planned (ap tail same)) where
      tail : List PlainItem → List PlainItem
      tail [] = []
      tail (one ∷ more) = more

-- they only place
pub only_places : (items : List Item) (nodes : List ℕ) (planned : PlannedBoard) → map plain_item items ≡ map (placed_node planned) nodes
    → list_all (λ item. not (is_cell item)) items ≡ true
only_places [] nodes planned same = refl
only_places (item ∷ items) [] planned same = cc
only_places (item ∷ items) (node ∷ nodes) planned same =
    let first : plain_item item ≡ placed_node planned node = same_Some (plain_item item) (placed_node planned node) (ap (λ (list : List PlainItem). slice_get list 0) same) in
    let cell : is_cell item ≡ false = sym (cell_plain item) ∙ ap is_plain_cell first in
    ap (λ (b : Bool). not b && list_all (λ (one : Item). not (is_cell one)) items) cell ∙ only_places items nodes planned (ap tail same) where
      tail : List PlainItem → List PlainItem
      tail [] = []
      tail (one ∷ more) = more

module _ (planned : PlannedBoard) (board : Design) (is_board : IsBoardOf planned board) where
  -- ---- the models

  pub record IsRoot (model : Model) : Type 0 where
    pub stands : slice_get board.models 0 ≡ Some model
    pub same : plain_model model ≡ board_model planned

  pub root : (model : Model) × IsRoot model
  root = let found = mapped_at plain_model board.models (board_models planned) is_board 0 (board_model planned) refl in (found.0, record { stands = found.1; same = found.2 })

  pub record IsNodeModel (node : ℕ) (model : Model) : Type 0 where
    pub stands : slice_get board.models (suc node) ≡ Some model
    pub same : plain_model model ≡ node_model planned node

  pub node_model_of : (node : ℕ) → node ≤ planned.board.chips → (model : Model) × IsNodeModel node model
  node_model_of node among =
      let at : slice_get (board_models planned) (suc node) ≡ Some (node_model planned node) = slice_get-map (node_model planned) (all_nodes planned) node ∙ ap (option_map (node_model planned)) (node_at planned node among) in
      let found = mapped_at plain_model board.models (board_models planned) is_board (suc node) (node_model planned node) at in
      (found.0, record { stands = found.1; same = found.2 })

  pub node_named : (node : ℕ) (model : Model) → IsNodeModel node model → model_named board.models (node_name node) ≡ Some model
  node_named node model is = ap (model_named board.models) (sym (ap (λ (m : PlainModel). m.name) is.same)) ∙ named_at board (suc node) model is.stands

  -- ---- what is placed

  root_placings : map plain_placing (placings root.0.items) ≡ map (placed_node planned) (all_nodes planned)
  root_placings = placed_plain root.0.items (all_nodes planned) planned (ap (λ (m : PlainModel). m.items) root.1.same)

  is_placing : (node : ℕ) (placing : Placing) → plain_placing placing ≡ placed_node planned node → IsPlacing planned node placing
  is_placing node placing same = record { model = ap model_of same; binds = ap binds_of same } where
    model_of : PlainItem → Word
    model_of (table ins out on rows) = []
    model_of (latch d q edge control init) = []
    model_of (place model binds) = model

    binds_of : PlainItem → List Joined
    binds_of (table ins out on rows) = []
    binds_of (latch d q edge control init) = []
    binds_of (place model binds) = binds

  pub placing_of_node : (node : ℕ) → node ≤ planned.board.chips
      → (placing : Placing) × (slice_get (placings root.0.items) node ≡ Some placing) × IsPlacing planned node placing
  placing_of_node node among =
      let at : slice_get (map (placed_node planned) (all_nodes planned)) node ≡ Some (placed_node planned node) = slice_get-map (placed_node planned) (all_nodes planned) node ∙ ap (option_map (placed_node planned)) (node_at planned node among) in
      let found = mapped_at plain_placing (placings root.0.items) (map (placed_node planned) (all_nodes planned)) root_placings node (placed_node planned node) at in
      (found.0, found.1, is_placing node found.0 found.2)

  -- and nothing else
  no_other : (before : ℕ) (placing : Placing) → slice_get (placings root.0.items) before ≡ Some placing → before ≤ planned.board.chips
  no_other before placing at =
      let inside = slice_get_within (placings root.0.items) before placing at in
      let one = length-map (placings root.0.items) plain_placing in
      let two = ap length root_placings in
      let three = length-map (all_nodes planned) (placed_node planned) in
      let four = length-range_with_len 0 (planned.board.chips + 1) in
      omega (arith, inside, one, two, three, four)

  -- ---- paths

  pub node_path : ℕ → Path
  node_path node = suc node ∷ []

  pub root_at : model_at board [] ≡ Some root.0
  root_at = root.1.stands

  pub node_model_at : (node : ℕ) (among : node ≤ planned.board.chips) → model_at board (suc node ∷ []) ≡ Some (node_model_of node among).0
  node_model_at node among =
      let placing = placing_of_node node among in
      let model = node_model_of node among in
      ap (option_and_then (model_placed board (suc node))) root_at
      ∙ ap (option_and_then (λ (one : Placing). model_named board.models one.model)) placing.1
      ∙ ap (model_named board.models) placing.2.model ∙ node_named node model.0 model.1

  -- a path with a model is that of the board, or of a node
  pub data PlaceOf (path : Path) (model : Model) : Type 0 where
    at_root : path ≡ [] → root.0 ≡ model → PlaceOf path model
    at_node : (node : ℕ) → node ≤ planned.board.chips → path ≡ suc node ∷ [] → IsNodeModel node model → PlaceOf path model

  node_items_of : (node : ℕ) (model : Model) → IsNodeModel node model → map plain_item model.items ≡ map spelled_item (node_items planned node)
  node_items_of node model is = ap (λ (m : PlainModel). m.items) is.same

  pub place_of : (path : Path) (model : Model) → model_at board path ≡ Some model → PlaceOf path model
  place_of [] model stands = at_root refl (same_Some root.0 model (sym root_at ∙ stands))
  place_of (number ∷ path) model stands = by (place_of path above.0 above.1) where
    above : (above : Model) × (model_at board path ≡ Some above) × (model_placed board number above ≡ Some model)
    above = placer board number path model stands

    below_root : (one : ℕ) → number ≡ one → model_placed board one root.0 ≡ Some model → path ≡ [] → PlaceOf (number ∷ path) model
    below_root zero is placed empty = absurd (none-some model placed)
    below_root (suc node) is placed empty =
        let placing = placing_of_placed board (suc node) root.0 model placed in
        let among = no_other placing.0 placing.1 placing.3 in
        let same : placing.0 ≡ node = omega (arith, placing.2) in
        let small : node ≤ planned.board.chips = omega (arith, among, same) in
        let own : slice_get (placings root.0.items) node ≡ Some placing.1 = ap (slice_get (placings root.0.items)) (sym same) ∙ placing.3 in
        let known = placing_of_node node small in
        let equal : known.0 ≡ placing.1 = same_Some known.0 placing.1 (sym known.1 ∙ own) in
        let name : placing.1.model ≡ node_name node = ap (λ (p : Placing). p.model) (sym equal) ∙ known.2.model in
        let model_is = node_model_of node small in
        let is_model : model_is.0 ≡ model = same_Some model_is.0 model (sym (node_named node model_is.0 model_is.1) ∙ ap (model_named board.models) (sym name) ∙ placing.4) in
        at_node node small ((λ i. is i ∷ empty i)) (subst (IsNodeModel node) is_model model_is.1)

    by : PlaceOf path above.0 → PlaceOf (number ∷ path) model
    by (at_root empty same) = below_root number refl (subst (λ (m : Model). model_placed board number m ≡ Some model) (sym same) above.2) empty
    by (at_node node among is node_is) =
        let placing = placing_of_placed board number above.0 model above.2 in
        let none = no_placings above.0.items (all_cells above.0.items (node_items planned node) (node_items_of node above.0 node_is)) in
        absurd (none-some placing.1 (sym (ap (λ (list : List Placing). slice_get list placing.0) none) ∙ placing.3))
