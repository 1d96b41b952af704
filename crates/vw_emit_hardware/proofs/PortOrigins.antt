-- Which ports each node of an emitted board has.
use Rattle.std.proofs.Common.{◌≡◌, ◌<◌, ◌≤◌, ◌+◌, ◌==◌, ◌∙◌, ◌⊎◌, inl, inr, ℕ, zero, suc, Bool, true, false, cond, List, [], ◌∷◌, length, slice_get, slice_index, Some, if◌then◌else◌, eqb, ap, refl, sym, subst, ⊎_elim, eqb-true, eq-eqb, ne_eqb, arith}
use Rattle.std.proofs.lemmas.Option.{none-some, same_Some}
use Rattle.vw_net.specs.Gathered.{gather, listed}
use Rattle.vw_net.specs.declared.cell.Cell.{Cell}
use Rattle.vw_net.specs.declared.cell.Cell.TheVariants.{Gate, Latch}
use Rattle.vw_net.specs.declared.cell.Init.{Init}
use Rattle.vw_net.proofs.ListedLists.{StandsIn, from_append, from_gather, from_listed, from_when, has_gather, has_listed, has_when, stands_left, stands_right}
use Rattle.vw_plan.specs.PlannedBoard.{PlannedBoard}
use Rattle.vw_plan.specs.declared.link.Link.{Link}
use Rattle.vw_emit_hardware.specs.Items.{User, users}
use Rattle.vw_emit_hardware.specs.Locals.{Local, column, kept, pin_in, pin_out, result}
use Rattle.vw_emit_hardware.specs.Ports.{IsUsed, latch_port, node_inputs, node_outputs, pin_ports, used_port}

-- the only element of a list of one
only_at : {X : Type 0} (one x : X) (place : ℕ) → slice_get (one ∷ []) place ≡ Some x → one ≡ x
only_at one x zero is = same_Some one x is
only_at one x (suc place) is = absurd (none-some x is)

module _ (planned : PlannedBoard) where
  -- ---- pins

  -- a pin of a link that is used, under a name
  pub record IsPinPort (port : ℕ → ℕ → Local) (net : Local) : Type 0 where
    pub at : ℕ
    pub pin : ℕ
    pub link : Link
    pub linked : slice_get planned.board.links at ≡ Some link
    pub used : IsUsed planned link pin
    pub same : port at pin ≡ net

  used_ports : (name net : Local) (us : List User) → StandsIn net (used_port name us) → (0 < length us) × (name ≡ net)
  used_ports name net [] stands = absurd (none-some net stands.1)
  used_ports name net (user ∷ others) stands = (omega arith, only_at name net stands.0 stands.1)

  has_used : (name : Local) (us : List User) → 0 < length us → StandsIn name (used_port name us)
  has_used name [] some = absurd (omega (arith, some))
  has_used name (user ∷ others) some = (0, refl)

  -- the pins of the links of which one end is at a node
  abbrev end_ports : (Link → ℕ) → (ℕ → ℕ → Local) → ℕ → List Local
  end_ports end port node = listed (λ at link. if end link == node then pin_ports (port at) planned link else []) 0 planned.board.links

  from_ends : (end : Link → ℕ) (port : ℕ → ℕ → Local) (node : ℕ) (net : Local) → StandsIn net (end_ports end port node)
      → (is : IsPinPort port net) × (end is.link ≡ node)
  from_ends end port node net stands =
      let by = from_listed net (λ at link. if end link == node then pin_ports (port at) planned link else []) 0 planned.board.links stands in
      let own = from_when (end by.item == node) net (pin_ports (port (0 + by.place)) planned by.item) by.stands in
      let given = from_gather net (λ pin. used_port (port (0 + by.place) pin) (users planned by.item pin)) by.item.width own.1 in
      let user = used_ports (port (0 + by.place) given.number) net (users planned by.item given.number) given.stands in
      let none : by.place ≡ 0 + by.place = omega arith in
      (record { at = by.place; pin = given.number; link = by.item; linked = by.at; used = record { within = given.below; some = user.0 }; same = ap (λ (at : ℕ). port at given.number) none ∙ user.1 }, eqb-true (end by.item) node own.0)

  has_end : (end : Link → ℕ) (port : ℕ → ℕ → Local) (node at pin : ℕ) (link : Link) → slice_get planned.board.links at ≡ Some link
      → end link ≡ node → IsUsed planned link pin → StandsIn (port at pin) (end_ports end port node)
  has_end end port node at pin link linked is used =
      let none : 0 + at ≡ at = omega arith in
      let net = port at pin in
      let here : StandsIn net (pin_ports (port at) planned link) = has_gather net (λ one. used_port (port at one) (users planned link one)) link.width pin used.within (has_used net (users planned link pin) used.some) in
      let own : StandsIn net (if end link == node then pin_ports (port (0 + at)) planned link else []) = rw none (has_when (end link == node) net (pin_ports (port at) planned link) (eq-eqb (end link) node is) here) in
      has_listed net (λ k one. if end one == node then pin_ports (port k) planned one else []) 0 planned.board.links at link linked own

  module _ (node : ℕ) where
    -- ---- inputs

    pub record IsColumnPort (net : Local) : Type 0 where
      pub host : node ≡ 0
      pub number : ℕ
      pub within : number < planned.ordered.flat.inputs
      pub same : column number ≡ net

    pub from_inputs : (net : Local) → StandsIn net (node_inputs planned node) → IsColumnPort net ⊎ ((is : IsPinPort pin_in net) × (is.link.to ≡ node))
    from_inputs net stands =
        let columns = gather (λ number. column number ∷ []) planned.ordered.flat.inputs in
        let if_column = λ (front : StandsIn net (cond (node == 0) columns [])).
        let own = from_when (node == 0) net columns front in
        let given = from_gather net (λ number. column number ∷ []) planned.ordered.flat.inputs own.1 in
        let whole : IsColumnPort net = record { host = eqb-true node 0 own.0; number = given.number; within = given.below; same = only_at (column given.number) net given.stands.0 given.stands.1 } in whole in
        ⊎_elim (λ front. inl (if_column front)) (λ back. inr (from_ends (λ (link : Link). link.to) pin_in node net back)) (from_append net (cond (node == 0) columns []) (end_ports (λ (link : Link). link.to) pin_in node) stands)

    pub has_column : (number : ℕ) → node ≡ 0 → number < planned.ordered.flat.inputs → StandsIn (column number) (node_inputs planned node)
    has_column number host within =
        let columns = gather (λ (k : ℕ). column k ∷ []) planned.ordered.flat.inputs in
        stands_left (column number) (cond (node == 0) columns []) (end_ports (λ (link : Link). link.to) pin_in node)
        (has_when (node == 0) (column number) columns (eq-eqb node 0 host) (has_gather (column number) (λ k. column k ∷ []) planned.ordered.flat.inputs number within (0, refl)))

    pub has_pin_in : (at pin : ℕ) (link : Link) → slice_get planned.board.links at ≡ Some link → link.to ≡ node → IsUsed planned link pin
        → StandsIn (pin_in at pin) (node_inputs planned node)
    has_pin_in at pin link linked to used =
        let columns = gather (λ (k : ℕ). column k ∷ []) planned.ordered.flat.inputs in
        stands_right (pin_in at pin) (cond (node == 0) columns []) (end_ports (λ (one : Link). one.to) pin_in node) (has_end (λ (one : Link). one.to) pin_in node at pin link linked to used)

    -- ---- outputs

    pub record IsResultPort (net : Local) : Type 0 where
      pub host : node ≡ 0
      pub output : ℕ
      pub within : output < length planned.ordered.flat.outputs
      pub same : result output ≡ net

    pub record IsLatchPort (net : Local) : Type 0 where
      pub cell : ℕ
      pub d : ℕ
      pub init : Init
      pub at : slice_get planned.ordered.flat.cells cell ≡ Some (Latch d init)
      pub chip : slice_index planned.plan.chip_of cell ≡ node
      pub same : kept cell ≡ net

    pub data OutputOrigin (net : Local) : Type 0 where
      a_pin : (is : IsPinPort pin_out net) → is.link.from ≡ node → OutputOrigin net
      a_result : IsResultPort net → OutputOrigin net
      a_latch : IsLatchPort net → OutputOrigin net

    abbrev host_ports : List Local
    host_ports = gather (λ output. result output ∷ []) (length planned.ordered.flat.outputs)

    abbrev latch_ports : List Local
    latch_ports = listed (λ cell is. if slice_index planned.plan.chip_of cell == node then latch_port cell is else []) 0 planned.ordered.flat.cells

    from_results : (net : Local) → eqb node 0 ≡ true → StandsIn net host_ports → IsResultPort net
    from_results net host stands =
        let given = from_gather net (λ output. result output ∷ []) (length planned.ordered.flat.outputs) stands in
        record { host = eqb-true node 0 host; output = given.number; within = given.below; same = only_at (result given.number) net given.stands.0 given.stands.1 }

    from_latches : (net : Local) → StandsIn net latch_ports → IsLatchPort net
    from_latches net stands =
        let of = from_listed net (λ cell is. if slice_index planned.plan.chip_of cell == node then latch_port cell is else []) 0 planned.ordered.flat.cells stands in
        let none : of.place ≡ 0 + of.place = omega arith in
        let own = from_when (slice_index planned.plan.chip_of (0 + of.place) == node) net (latch_port (0 + of.place) of.item) of.stands in
        by of.place of.item of.at (ap (slice_index planned.plan.chip_of) none ∙ eqb-true (slice_index planned.plan.chip_of (0 + of.place)) node own.0) (subst (λ (cell : ℕ). StandsIn net (latch_port cell of.item)) (sym none) own.1) where
          by : (cell : ℕ) (is : Cell) → slice_get planned.ordered.flat.cells cell ≡ Some is → slice_index planned.plan.chip_of cell ≡ node
              → StandsIn net (latch_port cell is) → IsLatchPort net
          by cell (Gate ins cover) at chip here = absurd (none-some net here.1)
          by cell (Latch d init) at chip here = record { cell = cell; d = d; init = init; at = at; chip = chip; same = only_at (kept cell) net here.0 here.1 }

    pub from_outputs : (net : Local) → StandsIn net (node_outputs planned node) → OutputOrigin net
    from_outputs net stands =
        let pins = end_ports (λ (link : Link). link.from) pin_out node in
        ⊎_elim (λ front. let is = from_ends (λ (link : Link). link.from) pin_out node net front in a_pin is.0 is.1) (by (eqb node 0) refl) (from_append net pins (cond (eqb node 0) host_ports latch_ports) stands) where
          by : (host : Bool) → eqb node 0 ≡ host → StandsIn net (cond host host_ports latch_ports) → OutputOrigin net
          by true is there = a_result (from_results net is there)
          by false is there = a_latch (from_latches net there)

    pub has_pin_out : (at pin : ℕ) (link : Link) → slice_get planned.board.links at ≡ Some link → link.from ≡ node → IsUsed planned link pin
        → StandsIn (pin_out at pin) (node_outputs planned node)
    has_pin_out at pin link linked from used =
        stands_left (pin_out at pin) (end_ports (λ (one : Link). one.from) pin_out node) (cond (eqb node 0) host_ports latch_ports) (has_end (λ (one : Link). one.from) pin_out node at pin link linked from used)

    pub has_result_port : (output : ℕ) → node ≡ 0 → output < length planned.ordered.flat.outputs → StandsIn (result output) (node_outputs planned node)
    has_result_port output host within =
        let there = has_gather (result output) (λ k. result k ∷ []) (length planned.ordered.flat.outputs) output within (0, refl) in
        stands_right (result output) (end_ports (λ (one : Link). one.from) pin_out node) (cond (eqb node 0) host_ports latch_ports) (subst (λ (test : Bool). StandsIn (result output) (cond test host_ports latch_ports)) (sym (eq-eqb node 0 host)) there)

    pub has_latch_port : (cell d : ℕ) (init : Init) → slice_get planned.ordered.flat.cells cell ≡ Some (Latch d init)
        → slice_index planned.plan.chip_of cell ≡ node → 1 ≤ node → StandsIn (kept cell) (node_outputs planned node)
    has_latch_port cell d init at chip chips =
        let none : 0 + cell ≡ cell = omega arith in
        let own : StandsIn (kept cell) (if slice_index planned.plan.chip_of (0 + cell) == node then latch_port (0 + cell) (Latch d init) else []) =
        rw none (has_when (slice_index planned.plan.chip_of cell == node) (kept cell) (kept cell ∷ []) (eq-eqb (slice_index planned.plan.chip_of cell) node chip) (0, refl)) in
        let there = has_listed (kept cell) (λ k is. if slice_index planned.plan.chip_of k == node then latch_port k is else []) 0 planned.ordered.flat.cells cell (Latch d init) at own in
        stands_right (kept cell) (end_ports (λ (one : Link). one.from) pin_out node) (cond (eqb node 0) host_ports latch_ports)
        (subst (λ (test : Bool). StandsIn (kept cell) (cond test host_ports latch_ports)) (sym (ne_eqb node 0 (λ same. omega (arith, same, chips)))) there)
