-- Depths at levels: how many drivers have to be followed until a depth stays; and the inlets that it comes from.
use Rattle.std.proofs.Common.{◌≡◌, ◌<◌, ◌≤◌, ◌+◌, ℕ, zero, suc, true, false, List, [], ◌∷◌, length, map, max, if◌then◌else◌, get_or, eqb, ap, refl, sym, ◌∙◌, ◌⊎◌, inl, inr, ⊎_elim, eq-eqb, ne_eqb, Option, Some, None, All, arith}
use Rattle.std.proofs.Math.Path.{fun_ext}
use Rattle.std.proofs.lemmas.Bool.{cases_eq, cases_lt}
use Rattle.std.proofs.lemmas.List.Elements.{All-head, All-tail}
use Rattle.std.proofs.Math.Bool.{or-true}
use Rattle.vw_net.specs.declared.cell.Cell.{Cell}
use Rattle.vw_net.specs.declared.cell.Cell.TheVariants.{Gate, Latch}
use Rattle.vw_net.specs.declared.flat.Flat.{Flat}
use Rattle.vw_net.specs.declared.ordered.Ordered.{Ordered}
use Rattle.vw_net.specs.Order.{is_among, gate_inputs}
use Rattle.vw_net.proofs.Orders.{length-order}
use Rattle.vw_net.specs.Lists.{greatest}
use Rattle.vw_plan.specs.Needs.{crossing, depth, level_depth}
use Rattle.vw_plan.specs.Nets.{driving_cell, greatest_read, node_of}
use Rattle.vw_plan.specs.ChainsBack.{IsDeepest, IsInlet, IsChainBack, is_read_by}
use Rattle.vw_plan.proofs.AlongOrder.{every_net}
use Rattle.vw_plan.proofs.SettledLevels.{IsSettledFrom, settled_later}
use Rattle.vw_plan.proofs.GreatestReads.{greatest_read-agree, greatest_read-least, greatest_read-small}

-- ---- what a cell gives its net

-- one of some nets, of which something holds, gives this number
record Attained (f : ℕ → ℕ) (P : ℕ → Type 0) (nets : List ℕ) (number : ℕ) : Type 0 where
  net : ℕ
  among : is_among nets net ≡ true
  is : number ≡ f net
  holds : P net

-- the greatest number is 0, or one of the nets gives it
greatest_attained : (f : ℕ → ℕ) (P : ℕ → Type 0) (nets : List ℕ) → All P nets → (greatest (map f nets) ≡ 0) ⊎ Attained f P nets (greatest (map f nets))
greatest_attained f P [] all = inl refl
greatest_attained f P (first ∷ nets) all =
    let whole = max (f first) (greatest (map f nets)) in
    let Goal = (whole ≡ 0) ⊎ Attained f P (first ∷ nets) whole in
    let here : eqb first first ≡ true = eq-eqb first first refl in
    let if_first = λ (more : greatest (map f nets) ≤ f first). let got : Goal = inr (record { net = first; among = rw here refl; is = omega arith; holds = All-head P first nets all }) in got in
    let if_none = λ (none : greatest (map f nets) ≡ 0). let got : Goal = inr (record { net = first; among = rw here refl; is = omega arith; holds = All-head P first nets all }) in got in
    let if_later = λ (less : f first < greatest (map f nets)). λ (found : Attained f P nets (greatest (map f nets))). let got : Goal = inr (record { net = found.net; among = rw found.among (or-true (eqb first found.net)); is = omega (arith, found.is); holds = found.holds }) in got in
    ⊎_elim (λ less. ⊎_elim if_none (if_later less) (greatest_attained f P nets (All-tail P first nets all))) if_first (cases_lt (f first) (greatest (map f nets)))

attained_read : (f : ℕ → ℕ) (P : ℕ → Type 0) (cell : Option Cell) → All P (gate_inputs cell)
    → (greatest_read f cell ≡ 0) ⊎ Attained f P (gate_inputs cell) (greatest_read f cell)
attained_read f P None all = inl refl
attained_read f P (Some (Gate ins cover)) all = greatest_attained f P ins all
attained_read f P (Some (Latch d init)) all = inl refl

-- a depth is at most the number of drivers that are followed
crossing_small : (flat : Flat) (chip_of : List ℕ) (net read : ℕ) → crossing flat chip_of net read ≤ 1
crossing_small flat chip_of net read = elim (eqb (node_of flat chip_of read) (node_of flat chip_of net)) as (λ same. (if same then 0 else 1) ≤ 1) [ true ↦ omega arith | false ↦ omega arith ]

level_depth-small : (level : ℕ) (flat : Flat) (chip_of : List ℕ) (net : ℕ) → level_depth level flat chip_of net ≤ level
level_depth-small zero flat chip_of net = omega arith
level_depth-small (suc level) flat chip_of net =
    greatest_read-small (λ read. level_depth level flat chip_of read + crossing flat chip_of net read) (suc level) (λ read. omega (arith, level_depth-small level flat chip_of read, crossing_small flat chip_of net read)) (driving_cell flat net)

pub depth-small : (flat : Flat) (chip_of : List ℕ) (net : ℕ) → depth flat chip_of net ≤ length flat.cells + 1
unfolding depth
depth-small flat chip_of net = level_depth-small (length flat.cells + 1) flat chip_of net

module _ (ordered : Ordered) (chip_of : List ℕ) where
  -- ---- levels

  -- from a level on, a net has one depth
  abbrev HasOneDepth : ℕ → ℕ → Type 0
  HasOneDepth from net = IsSettledFrom (λ level. level_depth level ordered.flat chip_of net) from

  -- a net is settled one level up if the nets that its gate reads are settled
  reads_settled : (from net : ℕ) → All (HasOneDepth from) (gate_inputs (driving_cell ordered.flat net)) → HasOneDepth (suc from) net
  reads_settled from net settled = record { same = same_above } where
    same_above : (one other : ℕ) → suc from ≤ one → suc from ≤ other → level_depth one ordered.flat chip_of net ≡ level_depth other ordered.flat chip_of net
    same_above zero other one_late other_late = absurd (omega arith)
    same_above (suc one) zero one_late other_late = absurd (omega arith)
    same_above (suc one) (suc other) one_late other_late =
        let at = λ (level read : ℕ). level_depth level ordered.flat chip_of read + crossing ordered.flat chip_of net read in
        let reads = gate_inputs (driving_cell ordered.flat net) in
        greatest_read-agree (at one) (at other) (driving_cell ordered.flat net) (λ place default within. ap (λ (number : ℕ). number + crossing ordered.flat chip_of net (get_or reads place default)) ((settled place default within).same one other (omega arith) (omega arith)))

  -- following more drivers in a row than there are cells changes no depth
  level_depth-past_cells : (level net : ℕ) → length ordered.flat.cells + 1 ≤ level → level_depth level ordered.flat chip_of net ≡ depth ordered.flat chip_of net
  unfolding depth
  level_depth-past_cells level net past =
      let few_gates : length ordered.order ≤ length ordered.flat.cells = length-order ordered.flat.inputs ordered.flat.cells ordered.order ordered.is_order in
      (every_net ordered HasOneDepth (λ from to net. settled_later (λ level. level_depth level ordered.flat chip_of net) from to) reads_settled net).same level (length ordered.flat.cells + 1) (omega arith) (omega arith)

  -- the depth of a net that another one's driver reads, as it counts there
  abbrev depth_read : ℕ → ℕ → ℕ
  depth_read net read = depth ordered.flat chip_of read + crossing ordered.flat chip_of net read

  -- the depth of a net is that of what drives it
  pub depth-by_driver : (net : ℕ) → depth ordered.flat chip_of net ≡ greatest_read (depth_read net) (driving_cell ordered.flat net)
  depth-by_driver net =
      let level = length ordered.flat.cells + 1 in
      let above = level_depth-past_cells (suc level) net (omega arith) in
      sym above ∙ ap (λ (depth_of : ℕ → ℕ). greatest_read (λ read. depth_of read + crossing ordered.flat chip_of net read) (driving_cell ordered.flat net)) (fun_ext (λ other. level_depth-past_cells level other (omega arith)))

  -- ---- inlets

  -- a gate's net is at least as deep as a net that it reads
  read_below : (net read : ℕ) → is_read_by ordered.flat net read ≡ true → depth_read net read ≤ depth ordered.flat chip_of net
  read_below net read is_read = omega (arith, depth-by_driver net, greatest_read-least (depth_read net) (driving_cell ordered.flat net) read is_read)

  -- so it is deeper than each inlet
  inlet_below : (net : ℕ) (nets : List ℕ) (end inlet : ℕ) → IsChainBack ordered.flat chip_of net nets end
      → is_read_by ordered.flat end inlet ≡ true → (node_of ordered.flat chip_of inlet ≡ node_of ordered.flat chip_of end → ⊥)
      → depth ordered.flat chip_of inlet + 1 ≤ depth ordered.flat chip_of net
  inlet_below net [] end inlet way is_read crosses =
      let there : depth ordered.flat chip_of net ≡ depth ordered.flat chip_of end = ap (depth ordered.flat chip_of) way in
      let one : crossing ordered.flat chip_of end inlet ≡ 1 = rw (ne_eqb _ _ crosses) refl in
      omega (arith, there, one, read_below end inlet is_read)
  inlet_below net (read ∷ nets) end inlet way is_read crosses = omega (arith, read_below net read way.0, inlet_below read nets end inlet way.2 is_read crosses)

  -- its depth is 0, or one more than that of an inlet
  abbrev Reached : ℕ → Type 0
  Reached net = (depth ordered.flat chip_of net ≡ 0) ⊎ ((inlet : ℕ) × IsInlet ordered.flat chip_of net inlet × (depth ordered.flat chip_of net ≡ depth ordered.flat chip_of inlet + 1))

  -- as the net that gives the greatest depth comes from another node, or has an inlet itself
  reached_by : (net : ℕ)
      → Attained (depth_read net) Reached (gate_inputs (driving_cell ordered.flat net)) (greatest_read (depth_read net) (driving_cell ordered.flat net))
      → Reached net
  reached_by net found =
      let read = found.net in
      let is : depth ordered.flat chip_of net ≡ depth_read net read = depth-by_driver net ∙ found.is in
      let if_same = λ (same : node_of ordered.flat chip_of read ≡ node_of ordered.flat chip_of net).
      let none : crossing ordered.flat chip_of net read ≡ 0 = rw (eq-eqb _ _ same) refl in
      let if_flat = λ (no_depth : depth ordered.flat chip_of read ≡ 0). let got : Reached net = inl (omega (arith, is, none)) in got in
      let if_deep = λ (further : (inlet : ℕ) × IsInlet ordered.flat chip_of read inlet × (depth ordered.flat chip_of read ≡ depth ordered.flat chip_of inlet + 1)).
      let inside = further.1 in
      let got : Reached net = inr (further.0, record { nets = read ∷ inside.nets; end = inside.end; way = (found.among, same, inside.way); read = inside.read; crosses = inside.crosses }, omega (arith, is, none, further.2)) in got in
      ⊎_elim if_flat if_deep found.holds in
      let if_other = λ (other : node_of ordered.flat chip_of read ≡ node_of ordered.flat chip_of net → ⊥).
      let one : crossing ordered.flat chip_of net read ≡ 1 = rw (ne_eqb _ _ other) refl in
      let got : Reached net = inr (read, record { nets = []; end = net; way = refl; read = found.among; crosses = other }, omega (arith, is, one)) in got in
      ⊎_elim if_same if_other (cases_eq (node_of ordered.flat chip_of read) (node_of ordered.flat chip_of net))

  reached_step : (from net : ℕ) → All Reached (gate_inputs (driving_cell ordered.flat net)) → Reached net
  reached_step from net all =
      let if_none = λ (none : greatest_read (depth_read net) (driving_cell ordered.flat net) ≡ 0). let got : Reached net = inl (depth-by_driver net ∙ none) in got in
      ⊎_elim if_none (reached_by net) (attained_read (depth_read net) Reached (driving_cell ordered.flat net) all)

  -- the depth of a net is one more than the greatest of its inlets, or 0 where it has none
  pub depth_is_deepest : (net : ℕ) → IsDeepest ordered.flat chip_of net (depth ordered.flat chip_of net)
  depth_is_deepest net = record {
    most = λ inlet is_inlet. inlet_below net is_inlet.nets is_inlet.end inlet is_inlet.way is_inlet.read is_inlet.crosses;
    reached = every_net ordered (λ from at. Reached at) (λ from to at after reached. reached) reached_step net;
  }
