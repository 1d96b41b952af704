-- Each net that an item of an emitted board reads is driven at its node, and ranks rise from what a table reads to what it
-- drives.
use Rattle.std.proofs.Common.{◌≡◌, ◌<◌, ◌≤◌, ◌+◌, ◌-◌, ◌||◌, ◌∙◌, inl, inr, ℕ, zero, suc, Bool, true, false, cond, List, [], ◌∷◌, length, map, take, get_or, slice_get, slice_index, nat_lt, Option, Some, None, eqb, ap, refl, sym, subst, ⊎_elim, true≢false, eqb-true, eq-eqb, lt-ltb, le-ltb, arith}
use Rattle.std.proofs.lemmas.Bool.{and_parts, cases_lt, ltb-true}
use Rattle.std.proofs.lemmas.List.Sums.{AllPass-from_list_all}
use Rattle.std.proofs.lemmas.Option.{get_or_from_slice_get, slice_get_within}
use Rattle.vw_net.specs.Order.{is_among, is_gate, is_latch, is_ready, read_nets_at}
use Rattle.vw_net.specs.declared.cell.Cell.{Cell}
use Rattle.vw_net.specs.declared.cell.Cell.TheVariants.{Gate, Latch}
use Rattle.vw_net.specs.declared.cell.Init.TheVariants.{One as StartsAtOne, Zero as StartsAtZero}
use Rattle.vw_net.specs.declared.cover.Cover.{Cover}
use Rattle.vw_net.specs.declared.cover.Row.{Row}
use Rattle.vw_net.specs.declared.ordered.Ordered.{Ordered}
use Rattle.vw_net.proofs.ListedLists.{stands_below}
use Rattle.vw_plan.specs.Lead.{brings}
use Rattle.vw_plan.specs.Nets.{driving_cell}
use Rattle.vw_plan.specs.PlannedBoard.{PlannedBoard, home}
use Rattle.vw_plan.specs.Sound.{IsSound}
use Rattle.vw_plan.specs.declared.wire.Hop.{Hop}
use Rattle.vw_plan.specs.declared.wire.Wire.{Wire}
use Rattle.vw_plan.proofs.HopLinks.{hop_facts}
use Rattle.vw_plan.proofs.NeededWires.{own_pair}
use Rattle.vw_plan.proofs.WireEnds.{last_hop}
use Rattle.vw_emit_hardware.specs.Driven.{IsDriven, by_column, by_item, count_before, rank}
use Rattle.vw_emit_hardware.specs.Items.{ring_stage}
use Rattle.vw_emit_hardware.specs.Locals.{Local, caught, column, coming, drives, gate, held, kept, moment, register, table}
use Rattle.vw_emit_hardware.specs.Names.{brought_name, name_at, own_name}
use Rattle.vw_emit_hardware.specs.Tables.{cover_table, cover_marks, off_table}
use Rattle.vw_emit_hardware.proofs.Clocks.{cell_chip}
use Rattle.vw_emit_hardware.proofs.Firsts.{brought_by_first}
use Rattle.vw_emit_hardware.proofs.Members.{has_catch_register, has_first_stage, has_gate, has_latch_register, has_stage}
use Rattle.vw_emit_hardware.proofs.Nets.{IsThere, net_count}

-- ---- places in an order

count_few : (numbers : List ℕ) (number : ℕ) → count_before numbers number ≤ length numbers
count_few [] number = omega arith
count_few (first ∷ numbers) number = by (eqb first number) (count_few numbers number) where
  by : (same : Bool) → count_before numbers number ≤ length numbers → cond same 0 (suc (count_before numbers number)) ≤ suc (length numbers)
  by true few = omega arith
  by false few = omega (arith, few)

-- a number that stands among the first ones has fewer before it
count_among : (numbers : List ℕ) (number upto : ℕ) → is_among (take upto numbers) number ≡ true → count_before numbers number < upto
count_among numbers number zero among = absurd (true≢false (sym among))
count_among [] number (suc upto) among = absurd (true≢false (sym among))
count_among (first ∷ numbers) number (suc upto) among = by (eqb first number) among (count_among numbers number upto) where
  by : (same : Bool) → (same || is_among (take upto numbers) number) ≡ true
      → (is_among (take upto numbers) number ≡ true → count_before numbers number < upto)
      → cond same 0 (suc (count_before numbers number)) < suc upto
  by true is further = omega arith
  by false is further = omega (arith, further is)

-- a number of a list stands behind as many as stand before it
count_at : (numbers : List ℕ) (number : ℕ) → is_among numbers number ≡ true
    → (count_before numbers number < length numbers) × (get_or numbers (count_before numbers number) 0 ≡ number)
count_at [] number among = absurd (true≢false (sym among))
count_at (first ∷ numbers) number among = by (eqb first number) refl among (count_at numbers number) where
  by : (same : Bool) → eqb first number ≡ same → (same || is_among numbers number) ≡ true
      → (is_among numbers number ≡ true → (count_before numbers number < length numbers) × (get_or numbers (count_before numbers number) 0 ≡ number))
      → (cond same 0 (suc (count_before numbers number)) < suc (length numbers)) × (get_or (first ∷ numbers) (cond same 0 (suc (count_before numbers number))) 0 ≡ number)
  by true same is further = (omega arith, eqb-true first number same)
  by false same is further = let rest = further is in (omega (arith, rest.0), rest.1)

-- a gate stands in an order behind the gates that it reads
earlier_gate : (ordered : Ordered) (cell : ℕ) (ins : List ℕ) (cover : Cover) → slice_get ordered.flat.cells cell ≡ Some (Gate ins cover)
    → (place default : ℕ) → place < length ins
    → let net = get_or ins place default in nat_lt net ordered.flat.inputs ≡ false → is_latch (slice_get ordered.flat.cells (net - ordered.flat.inputs)) ≡ false
    → count_before ordered.order (net - ordered.flat.inputs) < count_before ordered.order cell
earlier_gate ordered cell ins cover at place default within no_input no_latch =
    let net = get_or ins place default in
    let cells = ordered.flat.cells in
    let inputs = ordered.flat.inputs in
    let among : is_among ordered.order cell ≡ true = sym (ordered.is_order.each cell) ∙ ap is_gate at in
    let own = count_at ordered.order cell among in
    let upto = count_before ordered.order cell in
    let is_done = is_ready inputs cells (take upto ordered.order) in
    let here : slice_get cells (get_or ordered.order upto 0) ≡ Some (Gate ins cover) = ap (slice_get cells) own.1 ∙ at in
    let all = AllPass-from_list_all is_done (read_nets_at (slice_get cells (get_or ordered.order upto 0))) (ordered.is_order.after upto own.0) in
    let ready : is_done net ≡ true = (subst (λ (cell_here : Option Cell). (k d : ℕ) → k < length (read_nets_at cell_here) → is_done (get_or (read_nets_at cell_here) k d) ≡ true) here all) place default within in
    let latch = is_latch (slice_get cells (net - inputs)) in
    let done = is_among (take upto ordered.order) (net - inputs) in
    let driven : (latch || done) ≡ true = ap (λ (b : Bool). b || (latch || done)) (sym no_input) ∙ ready in
    count_among ordered.order (net - inputs) upto (ap (λ (b : Bool). b || done) (sym no_latch) ∙ driven)

module _ (planned : PlannedBoard) (sound : IsSound planned) where
  -- ---- what is driven

  pub stage_driven : (node microcycle : ℕ) → node ≤ planned.board.chips → microcycle ≤ planned.plan.period → IsDriven planned node (moment microcycle)
  stage_driven node zero among small = by_item (register (moment planned.plan.period) (moment 0) StartsAtOne) (has_first_stage planned node among) refl
  stage_driven node (suc before) among small = by_item (ring_stage before) (has_stage planned node among before (omega (arith, small))) refl

  pub held_driven : (wire place : ℕ) (is : Wire) (hop : Hop) → slice_get planned.plan.wires wire ≡ Some is
      → slice_get is.hops place ≡ Some hop → (hop.to ≤ planned.board.chips) × IsDriven planned hop.to (held wire place)
  held_driven wire place is hop there stands =
      let over = (hop_facts planned sound wire place is hop there stands).over in
      let ends = planned.board.linked.separate.ends over.number over.link (slice_get_within planned.board.links over.number over.link over.there) in
      let link = get_or_from_slice_get planned.board.links over.number over.link over.link over.there in
      let among : hop.to ≤ planned.board.chips = subst (λ (node : ℕ). node ≤ planned.board.chips) (ap (λ l. l.to) link ∙ over.to) ends.1 in
      (among, by_item (register (caught wire place) (held wire place) StartsAtZero) (has_catch_register planned hop.to among wire place is hop there stands refl over.number over.link over.there over.carried) refl)

  pub drives_gate : (ins : List Local) (out : Local) (cover : Cover) → drives (cover_table ins out cover) ≡ out
  drives_gate ins out cover = by cover.on cover.inputs cover.rows where
    by : (on : Bool) (inputs : ℕ) (rows : List Row) → drives (cond on (table ins out true (cover_marks rows)) (off_table ins out inputs rows)) ≡ out
    by true inputs rows = refl
    by false inputs [] = refl
    by false inputs (row ∷ rows) = refl

  -- a cell's net at its own node
  cell_driven : (number : ℕ) (cell : Cell) → slice_get planned.ordered.flat.cells number ≡ Some cell → (node : ℕ)
      → slice_index planned.plan.chip_of number ≡ node → IsDriven planned node (cond (is_latch (Some cell)) (kept number) (gate number))
  cell_driven number (Gate ins cover) at node chip =
      let among : node ≤ planned.board.chips = subst (λ (n : ℕ). n ≤ planned.board.chips) chip (cell_chip planned sound number (Gate ins cover) at).1 in
      by_item (cover_table (map (name_at planned node) ins) (gate number) cover) (has_gate planned node among number ins cover at chip) (drives_gate (map (name_at planned node) ins) (gate number) cover)
  cell_driven number (Latch d init) at node chip =
      let among : node ≤ planned.board.chips = subst (λ (n : ℕ). n ≤ planned.board.chips) chip (cell_chip planned sound number (Latch d init) at).1 in
      by_item (register (coming number) (kept number) init) (has_latch_register planned node among number d init at chip) refl

  -- ---- what a net is called at a node

  -- at its own: a column, or what its cell is called
  pub record IsOwnName (net node : ℕ) (name : Local) : Type 0 where
    pub number : ℕ
    pub cell : Cell
    pub at : slice_get planned.ordered.flat.cells number ≡ Some cell
    pub chip : slice_index planned.plan.chip_of number ≡ node
    pub net_is : planned.ordered.flat.inputs + number ≡ net
    pub name_is : name ≡ cond (is_latch (Some cell)) (kept number) (gate number)

  -- at another: the register of the last hop of a wire
  pub record IsBroughtName (net node : ℕ) (name : Local) : Type 0 where
    pub wire : ℕ
    pub place : ℕ
    pub is : Wire
    pub hop : Hop
    pub there : slice_get planned.plan.wires wire ≡ Some is
    pub stands : slice_get is.hops place ≡ Some hop
    pub reaches : hop.to ≡ node
    pub name_is : name ≡ held wire place

  pub data NameOrigin (net node : ℕ) (name : Local) : Type 0 where
    a_column : node ≡ 0 → net < planned.ordered.flat.inputs → name ≡ column net → NameOrigin net node name
    a_cell : IsOwnName net node name → NameOrigin net node name
    brought : IsBroughtName net node name → NameOrigin net node name

  pub name_origin : (net node : ℕ) → net < net_count planned → IsThere planned net node → NameOrigin net node (name_at planned node net)
  name_origin net node small there = by (eqb (home planned net) node) refl there where
    own : eqb (home planned net) node ≡ true → (input : Bool) → nat_lt net planned.ordered.flat.inputs ≡ input → NameOrigin net node (name_at planned node net)
    own is true input =
        let host : home planned net ≡ 0 = ap (λ (test : Bool). cond test 0 (slice_index planned.plan.chip_of (net - planned.ordered.flat.inputs))) input in
        let called : own_name planned.ordered.flat net ≡ column net = ap (λ (test : Bool). cond test (column net) (cond (is_latch (driving_cell planned.ordered.flat net)) (kept (net - planned.ordered.flat.inputs)) (gate (net - planned.ordered.flat.inputs)))) input in
        a_column (sym (eqb-true (home planned net) node is) ∙ host) (ltb-true net planned.ordered.flat.inputs input) (ap (λ (test : Bool). cond test (own_name planned.ordered.flat net) (brought_name planned node net)) is ∙ called)
    own is false input =
        let inputs = planned.ordered.flat.inputs in
        let number = net - inputs in
        let past : inputs ≤ net = ⊎_elim (λ less. absurd (true≢false (sym (lt-ltb net inputs less) ∙ input))) (λ upto. upto) (cases_lt net inputs) in
        let found = stands_below planned.ordered.flat.cells number (omega (arith, small, past)) in
        let driver : driving_cell planned.ordered.flat net ≡ Some found.0 = ap (λ (test : Bool). cond test None (slice_get planned.ordered.flat.cells number)) input ∙ found.1 in
        let chip : slice_index planned.plan.chip_of number ≡ node = sym (ap (λ (test : Bool). cond test 0 (slice_index planned.plan.chip_of number)) input) ∙ eqb-true (home planned net) node is in
        let called : own_name planned.ordered.flat net ≡ cond (is_latch (Some found.0)) (kept number) (gate number) =
        ap (λ (test : Bool). cond test (column net) (cond (is_latch (driving_cell planned.ordered.flat net)) (kept number) (gate number))) input
        ∙ ap (λ (cell : Option Cell). cond (is_latch cell) (kept number) (gate number)) driver in
        a_cell (record { number = number; cell = found.0; at = found.1; chip = chip; net_is = omega (arith, past); name_is = ap (λ (test : Bool). cond test (own_name planned.ordered.flat net) (brought_name planned node net)) is ∙ called })

    by : (is : Bool) → eqb (home planned net) node ≡ is → IsThere planned net node → NameOrigin net node (name_at planned node net)
    by true is there = own is (nat_lt net planned.ordered.flat.inputs) refl
    by false is (inl home_is) = absurd (true≢false (sym (eq-eqb (home planned net) node home_is) ∙ is))
    by false is (inr for) =
        let brings_it : brings net node for.wire ≡ true = subst (λ (n : ℕ). brings n node for.wire ≡ true) for.brought (subst (λ (n : ℕ). brings for.wire.net n for.wire ≡ true) for.to (own_pair for.wire)) in
        let first = brought_by_first planned net node for.number for.wire for.there brings_it in
        let parts = and_parts (eqb first.wire.net net) (eqb first.wire.to node) first.brought in
        let last = last_hop planned sound first.number first.wire first.there in
        let place : length first.wire.hops - 1 ≡ last.place = omega (arith, last.last) in
        brought (record {
          wire = first.number;
          place = last.place;
          is = first.wire;
          hop = last.hop;
          there = first.there;
          stands = last.at;
          reaches = last.ends.to ∙ eqb-true first.wire.to node parts.1;
          name_is = ap (λ (test : Bool). cond test (own_name planned.ordered.flat net) (brought_name planned node net)) is ∙ first.named ∙ ap (held first.number) place;
        })

  -- so it is driven there
  pub name_driven : (net node : ℕ) → net < net_count planned → IsThere planned net node → IsDriven planned node (name_at planned node net)
  name_driven net node small there = by (name_origin net node small there) where
    by : NameOrigin net node (name_at planned node net) → IsDriven planned node (name_at planned node net)
    by (a_column host input name) = by_column net host input (sym name)
    by (a_cell own) = subst (IsDriven planned node) (sym own.name_is) (cell_driven own.number own.cell own.at node own.chip)
    by (brought one) = subst (IsDriven planned node) (sym one.name_is) (subst (λ (n : ℕ). IsDriven planned n (held one.wire one.place)) one.reaches (held_driven one.wire one.place one.is one.hop one.there one.stands).1)

  -- with a small rank
  pub name_rank : (net node : ℕ) → net < net_count planned → IsThere planned net node
      → rank planned (name_at planned node net) ≤ length planned.ordered.order + 1
  name_rank net node small there = by (name_origin net node small there) where
    of_cell : (number : ℕ) (latch : Bool) → rank planned (cond latch (kept number) (gate number)) ≤ length planned.ordered.order + 1
    of_cell number true = omega arith
    of_cell number false = let few = count_few planned.ordered.order number in omega (arith, few)

    by : NameOrigin net node (name_at planned node net) → rank planned (name_at planned node net) ≤ length planned.ordered.order + 1
    by (a_column host input name) = let is = ap (rank planned) name in omega (arith, is)
    by (a_cell own) = let is = ap (rank planned) own.name_is in let few = of_cell own.number (is_latch (Some own.cell)) in omega (arith, is, few)
    by (brought one) = let is = ap (rank planned) one.name_is in omega (arith, is)

  -- and a gate has a greater one than what it reads
  pub gate_rank : (cell : ℕ) (ins : List ℕ) (cover : Cover) → slice_get planned.ordered.flat.cells cell ≡ Some (Gate ins cover)
      → (node place default : ℕ) → place < length ins
      → let net = get_or ins place default in net < net_count planned → IsThere planned net node → rank planned (name_at planned node net) < rank planned (gate cell)
  gate_rank cell ins cover at node place default within small there = by (name_origin net node small there) where
    net : ℕ
    net = get_or ins place default

    of_cell : (own : IsOwnName net node (name_at planned node net)) → (latch : Bool) → is_latch (Some own.cell) ≡ latch
        → rank planned (cond latch (kept own.number) (gate own.number)) < rank planned (gate cell)
    of_cell own true is = omega arith
    of_cell own false is =
        let number : net - planned.ordered.flat.inputs ≡ own.number = omega (arith, own.net_is) in
        let no_input = le-ltb net planned.ordered.flat.inputs (omega (arith, own.net_is)) in
        let no_latch : is_latch (slice_get planned.ordered.flat.cells (net - planned.ordered.flat.inputs)) ≡ false = ap (λ (n : ℕ). is_latch (slice_get planned.ordered.flat.cells n)) number ∙ ap is_latch own.at ∙ is in
        let earlier = earlier_gate planned.ordered cell ins cover at place default within no_input no_latch in
        let same = ap (count_before planned.ordered.order) number in
        omega (arith, earlier, same)

    by : NameOrigin net node (name_at planned node net) → rank planned (name_at planned node net) < rank planned (gate cell)
    by (a_column host input name) = let is = ap (rank planned) name in omega (arith, is)
    by (a_cell own) = let is = ap (rank planned) own.name_is in let less = of_cell own (is_latch (Some own.cell)) refl in omega (arith, is, less)
    by (brought one) = let is = ap (rank planned) one.name_is in omega (arith, is)
