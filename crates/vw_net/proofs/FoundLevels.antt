-- Values of nets at levels, whatever their readers find of them: how many drivers have to be followed until a value stays.
use Rattle.std.proofs.Common.{◌≡◌, ◌<◌, ◌≤◌, ◌+◌, ◌-◌, ◌||◌, ℕ, zero, suc, Bool, true, false, List, length, take, map, get_or, slice_get, slice_index_or, nat_lt, if◌then◌else◌, eqb, ap, refl, sym, ◌∙◌, ⊎_elim, true≢false, eqb-true, le-ltb, Option, Some, add-one, All, arith}
use Rattle.std.proofs.lemmas.Bool.{cases_Bool, or_cases}
use Rattle.std.proofs.lemmas.List.{take_all}
use Rattle.std.proofs.lemmas.List.Elements.{All-weaker}
use Rattle.std.proofs.lemmas.List.Folds.{list_any_more}
use Rattle.std.proofs.lemmas.List.Sums.{AllPass-from_list_all}
use Rattle.vw_net.specs.declared.cell.Cell.{Cell}
use Rattle.vw_net.specs.declared.cell.Cell.TheVariants.{Gate}
use Rattle.vw_net.specs.declared.cover.Cover.{Cover}
use Rattle.vw_net.specs.declared.flat.Flat.{Flat}
use Rattle.vw_net.specs.Cells.{latch_count}
use Rattle.vw_net.specs.Cover.{cover_value}
use Rattle.vw_net.specs.Order.{IsOrder, is_gate, is_latch, is_among, is_ready, read_nets_at}
use Rattle.vw_net.specs.FoundValue.{found_level, found_value}
use Rattle.vw_net.specs.Value.{driven_value}
use Rattle.vw_net.proofs.DrivenValues.{driven_value_agree, driven_value-latch, driven_value-no_gate, is_gate-latch}
use Rattle.vw_net.proofs.Orders.{length-order}

-- from a level on, a net has one value
record HasOneValue (find : ℕ → Bool → Bool) (flat : Flat) (row state : List Bool) (from net : ℕ) : Type 0 where
  same : (one other : ℕ) → from ≤ one → from ≤ other → found_level find one flat row state net ≡ found_level find other flat row state net

-- each net whose driver is among these cell numbers has one value from a level on
record AreSettled (find : ℕ → Bool → Bool) (flat : Flat) (row state : List Bool) (from : ℕ) (done : List ℕ) : Type 0 where
  settled : (net : ℕ) → is_among done (net - flat.inputs) ≡ true → HasOneValue find flat row state from net

module _ (find : ℕ → Bool → Bool) (flat : Flat) (row state : List Bool) where
  -- what drives a net, where it is no input's
  abbrev driver : ℕ → Option Cell
  driver net = slice_get flat.cells (net - flat.inputs)

  -- its number among the latches, if it is one
  abbrev latch_number : ℕ → ℕ
  latch_number net = latch_count (take (net - flat.inputs) flat.cells)

  -- the value that it gives the net one level above this one
  abbrev driven : ℕ → ℕ → Bool
  driven level net = driven_value (found_level find level flat row state) state (latch_number net) (driver net)

  -- a net that is settled stays so
  settled_later : (from later net : ℕ) → from ≤ later → HasOneValue find flat row state from net → HasOneValue find flat row state later net
  settled_later from later net after settled = record { same = λ one other one_late other_late. settled.same one other (omega arith) (omega arith) }

  -- a net is settled one level up if its value one level up is the same from a level on
  next_settled : (from net : ℕ) → ((one other : ℕ) → from ≤ one → from ≤ other → found_level find (suc one) flat row state net ≡ found_level find (suc other) flat row state net) → HasOneValue find flat row state (suc from) net
  next_settled from net same = record { same = same_above } where
    same_above : (one other : ℕ) → suc from ≤ one → suc from ≤ other → found_level find one flat row state net ≡ found_level find other flat row state net
    same_above zero other one_late other_late = absurd (omega arith)
    same_above (suc one) zero one_late other_late = absurd (omega arith)
    same_above (suc one) (suc other) one_late other_late = same one other (omega arith) (omega arith)

  -- a net is settled one level up if what its driver gives it is the same from a level on
  driven_settled : (from net : ℕ) → ((one other : ℕ) → from ≤ one → from ≤ other → driven one net ≡ driven other net) → HasOneValue find flat row state (suc from) net
  driven_settled from net same =
      let value = λ (bit : Bool). find net (if nat_lt net flat.inputs then slice_index_or row net false else bit) in
      next_settled from net (λ one other one_late other_late. ap value (same one other one_late other_late))

  -- an input's net is settled after one level
  input_settled : (net : ℕ) → nat_lt net flat.inputs ≡ true → HasOneValue find flat row state 1 net
  input_settled net input = next_settled 0 net (λ one other one_late other_late. rw input refl)

  -- a net that no gate drives is settled after one level
  no_gate_settled : (net : ℕ) → is_gate (driver net) ≡ false → HasOneValue find flat row state 1 net
  no_gate_settled net no_gate = driven_settled 0 net same where
    same : (one other : ℕ) → 0 ≤ one → 0 ≤ other → driven one net ≡ driven other net
    same one other one_late other_late = driven_value-no_gate (found_level find one flat row state) (found_level find other flat row state) state (latch_number net) (driver net) no_gate

  -- a net is settled one level up if the nets that its driver reads are settled
  reads_settled : (from net : ℕ) → All (HasOneValue find flat row state from) (read_nets_at (driver net)) → HasOneValue find flat row state (suc from) net
  reads_settled from net settled = driven_settled from net same where
    same : (one other : ℕ) → from ≤ one → from ≤ other → driven one net ≡ driven other net
    same one other one_late other_late =
        let agree = λ (place default : ℕ) (within : place < length (read_nets_at (driver net))). (settled place default within).same one other one_late other_late in
        driven_value_agree (found_level find one flat row state) (found_level find other flat row state) state (latch_number net) (driver net) agree

  -- a net that is ready is settled if the nets of the gates that are done are
  ready_settled : (done : List ℕ) (from : ℕ) → 1 ≤ from → AreSettled find flat row state from done → (net : ℕ) → is_ready flat.inputs flat.cells done net ≡ true → HasOneValue find flat row state from net
  ready_settled done from late gates net ready =
      let if_input = λ (input : nat_lt net flat.inputs ≡ true). settled_later 1 from net late (input_settled net input) in
      let if_latch = λ (latch : is_latch (driver net) ≡ true). settled_later 1 from net late (no_gate_settled net (is_gate-latch (driver net) latch)) in
      let if_driven = λ (drives : (is_latch (driver net) || is_among done (net - flat.inputs)) ≡ true). ⊎_elim if_latch (gates.settled net) (or_cases (is_latch (driver net)) (is_among done (net - flat.inputs)) drives) in
      ⊎_elim if_input if_driven (or_cases (nat_lt net flat.inputs) (is_latch (driver net) || is_among done (net - flat.inputs)) ready)

  -- of a gate's net is found, one level up, what is found where it has its table's value of what is found of the nets that it reads
  found_level-gate : (level number : ℕ) (ins : List ℕ) (cover : Cover) → slice_get flat.cells number ≡ Some (Gate ins cover) → found_level find (suc level) flat row state (flat.inputs + number) ≡ find (flat.inputs + number) (cover_value cover (map (found_level find level flat row state) ins))
  found_level-gate level number ins cover gate =
      let no_input : nat_lt (flat.inputs + number) flat.inputs ≡ false = le-ltb (flat.inputs + number) flat.inputs (omega arith) in
      let its_number : flat.inputs + number - flat.inputs ≡ number = omega arith in
      rw (no_input, its_number, gate) refl

  -- of an input's net is found, one level up, what is found where it has the input's bit
  found_level-input : (level net : ℕ) → nat_lt net flat.inputs ≡ true → found_level find (suc level) flat row state net ≡ find net (slice_index_or row net false)
  found_level-input level net input = rw input refl

  -- and of a latch's net what is found where it has the latch's
  found_level-latch : (level number : ℕ) → is_latch (slice_get flat.cells number) ≡ true → found_level find (suc level) flat row state (flat.inputs + number) ≡ find (flat.inputs + number) (slice_index_or state (latch_count (take number flat.cells)) false)
  found_level-latch level number latch =
      let no_input : nat_lt (flat.inputs + number) flat.inputs ≡ false = le-ltb (flat.inputs + number) flat.inputs (omega arith) in
      let its_number : flat.inputs + number - flat.inputs ≡ number = omega arith in
      rw (no_input, its_number) (ap (find (flat.inputs + number)) (driven_value-latch (found_level find level flat row state) state (latch_count (take number flat.cells)) (slice_get flat.cells number) latch))

  -- what is found of an input's net
  pub found_value-input : (net : ℕ) → nat_lt net flat.inputs ≡ true → found_value find flat row state net ≡ find net (slice_index_or row net false)
  unfolding found_value
  found_value-input net input = ap (λ (level : ℕ). found_level find level flat row state net) (add-one (length flat.cells)) ∙ found_level-input (length flat.cells) net input

  -- what is found of a latch's net
  pub found_value-latch : (number : ℕ) → is_latch (slice_get flat.cells number) ≡ true → found_value find flat row state (flat.inputs + number) ≡ find (flat.inputs + number) (slice_index_or state (latch_count (take number flat.cells)) false)
  unfolding found_value
  found_value-latch number latch = ap (λ (level : ℕ). found_level find level flat row state (flat.inputs + number)) (add-one (length flat.cells)) ∙ found_level-latch (length flat.cells) number latch

module _ (find : ℕ → Bool → Bool) (flat : Flat) (order : List ℕ) (is_order : IsOrder flat.inputs flat.cells order) (row state : List Bool) where
  -- the gate at a place of the order is settled one level after the gates before it
  place_settled : (place : ℕ) → place < length order → AreSettled find flat row state (suc place) (take place order) → (net : ℕ) → get_or order place 0 ≡ net - flat.inputs → HasOneValue find flat row state (suc (suc place)) net
  place_settled place within before net here =
      let is_done = is_ready flat.inputs flat.cells (take place order) in
      let reads = read_nets_at (slice_get flat.cells (net - flat.inputs)) in
      let done : All (λ other. is_done other ≡ true) reads = AllPass-from_list_all is_done reads (rw here at (is_order.after place within)) in
      let settled = All-weaker (λ other. is_done other ≡ true) (HasOneValue find flat row state (suc place)) (ready_settled find flat row state (take place order) (suc place) (omega arith) before) reads done in
      reads_settled find flat row state (suc place) net settled

  -- and so are all the gates up to it
  more_settled : (place : ℕ) → place < length order → AreSettled find flat row state (suc place) (take place order) → AreSettled find flat row state (suc (suc place)) (take (suc place) order)
  more_settled place within before = record { settled = one_settled } where
    one_settled : (net : ℕ) → is_among (take (suc place) order) (net - flat.inputs) ≡ true → HasOneValue find flat row state (suc (suc place)) net
    one_settled net among =
        let number = net - flat.inputs in
        let one_more = rw add-one at (list_any_more (λ other. eqb other number) order place 0 within) in
        let if_before = λ (sooner : is_among (take place order) number ≡ true). settled_later find flat row state (suc place) (suc (suc place)) net (omega arith) (before.settled net sooner) in
        let if_here = λ (here : eqb (get_or order place 0) number ≡ true). place_settled place within before net (eqb-true (get_or order place 0) number here) in
        ⊎_elim if_before if_here (or_cases (is_among (take place order) number) (eqb (get_or order place 0) number) (sym one_more ∙ among))

  -- the gates before a place of the order are settled after one level more than there are of them
  taken_settled : (place : ℕ) → place ≤ length order → AreSettled find flat row state (suc place) (take place order)
  taken_settled zero within = record { settled = λ net among. absurd (true≢false (sym among)) }
  taken_settled (suc place) within = more_settled place (omega arith) (taken_settled place (omega arith))

  -- every net is settled after one level more than there are gates
  net_settled : (net : ℕ) → HasOneValue find flat row state (suc (length order)) net
  net_settled net =
      let gates : AreSettled find flat row state (suc (length order)) order = rw (take_all (length order) order (omega arith)) at (taken_settled (length order) (omega arith)) in
      let if_gate = λ (gate : is_gate (slice_get flat.cells (net - flat.inputs)) ≡ true). gates.settled net (sym (is_order.each (net - flat.inputs)) ∙ gate) in
      let if_no_gate = λ (no_gate : is_gate (slice_get flat.cells (net - flat.inputs)) ≡ false). settled_later find flat row state 1 (suc (length order)) net (omega arith) (no_gate_settled find flat row state net no_gate) in
      ⊎_elim if_gate if_no_gate (cases_Bool (is_gate (slice_get flat.cells (net - flat.inputs))))

  -- following more drivers in a row than there are cells changes no value
  pub found_level-past_cells : (level net : ℕ) → length flat.cells + 1 ≤ level → found_level find level flat row state net ≡ found_value find flat row state net
  unfolding found_value
  found_level-past_cells level net past =
      let few_gates : length order ≤ length flat.cells = length-order flat.inputs flat.cells order is_order in
      (net_settled net).same level (length flat.cells + 1) (omega arith) (omega arith)

  -- of a gate's net is found what is found where it has its table's value of what is found of the nets that it reads
  pub found_value-gate : (number : ℕ) (ins : List ℕ) (cover : Cover) → slice_get flat.cells number ≡ Some (Gate ins cover) → found_value find flat row state (flat.inputs + number) ≡ find (flat.inputs + number) (cover_value cover (map (found_value find flat row state) ins))
  unfolding found_value
  found_value-gate number ins cover gate =
      let above = found_level-past_cells (suc (length flat.cells + 1)) (flat.inputs + number) (omega arith) in
      sym above ∙ found_level-gate find flat row state (length flat.cells + 1) number ins cover gate
