-- Turns by the order of the gates can be kept, and routes go with their nets.
use Rattle.std.proofs.Common.{◌≡◌, ◌<◌, ◌≤◌, ◌+◌, ◌-◌, ◌∙◌, ◌∷◌, ◌||◌, ℕ, zero, suc, Bool, true, false, List, [], length, take, replicate, get_or, set, eqb, nat_lt, if◌then◌else◌, slice_get, slice_index, Option, Some, None, ap, refl, sym, ⊎_elim, true≢false, arith, eqb-true, lt-ltb}
use Rattle.std.specs.List.{All}
use Rattle.std.specs.Option.{option_or}
use Rattle.std.proofs.lemmas.Option.{get_or_from_slice_get, same_Some}
use Rattle.std.proofs.lemmas.Bool.{and_parts, cases_Bool, cases_eq, cases_lt, or_cases}
use Rattle.std.proofs.lemmas.Grind.{get_or-set_at}
use Rattle.std.proofs.lemmas.List.{get_or_past, get_or-replicate, get_or-set_other, length-replicate, length-set}
use Rattle.std.proofs.lemmas.List.Sums.{AllPass-from_list_all}
use Rattle.vw_net.specs.declared.cell.Cell.{Cell}
use Rattle.vw_net.specs.declared.cell.Cell.TheVariants.{Gate, Latch}
use Rattle.vw_net.specs.declared.ordered.Ordered.{Ordered}
use Rattle.vw_net.specs.Order.{gate_inputs, is_among, is_gate, is_latch, is_ready, read_nets_at}
use Rattle.vw_net.proofs.ReadyNets.{order_within}
use Rattle.vw_plan.specs.Nets.{driving_cell}
use Rattle.vw_plan.proofs.AlongOrder.{All-gate_reads}
use Rattle.vw_net.specs.FirstFound.{found_if}
use Rattle.vw_plan.specs.declared.need.Route.{Route}
use Rattle.vw_ready.specs.Pairs.{first_pair, is_number_pair}
use Rattle.vw_pipe.specs.declared.turns.Turns.{Turns}
use Rattle.vw_pipe.specs.Steps.Leads.{route_pairs}
use Rattle.vw_pipe.specs.Steps.Turns.{AreBehind, AreTurns}
use Rattle.vw_pipe.proofs.LeadWorked.{gate_in_order, one_place}

-- a number stands at one of the first places of a list
abbrev StandsBefore : ℕ → List ℕ → ℕ → Type 0
StandsBefore count numbers number = (place : ℕ) × (place < length numbers) × (place < count) × (get_or numbers place 0 ≡ number)

among_take : (count : ℕ) (numbers : List ℕ) (number : ℕ) → is_among (take count numbers) number ≡ true → StandsBefore count numbers number
among_take zero numbers number among = absurd (true≢false (sym among))
among_take (suc count) [] number among = absurd (true≢false (sym among))
among_take (suc count) (first ∷ numbers) number among =
    let here = λ (is : eqb first number ≡ true).
    let early : 0 < length (first ∷ numbers) = omega arith in
    let low : 0 < suc count = omega arith in
    let whole : StandsBefore (suc count) (first ∷ numbers) number = (0, early, low, eqb-true first number is) in whole in
    let later = λ (rest : is_among (take count numbers) number ≡ true).
    let found = among_take count numbers number rest in
    let early : suc found.0 < length (first ∷ numbers) = omega (arith, found.1) in
    let low : suc found.0 < suc count = omega (arith, found.2) in
    let whole : StandsBefore (suc count) (first ∷ numbers) number = (suc found.0, early, low, found.3) in whole in
    ⊎_elim here later (or_cases (eqb first number) (is_among (take count numbers) number) among)

not_both : (cell : Option Cell) → is_latch cell ≡ true → is_gate cell ≡ false
not_both None latch = refl
not_both (Some (Gate ins cover)) latch = absurd (true≢false (sym latch))
not_both (Some (Latch d init)) latch = refl

-- a list of zeros has 0 everywhere, and past its end
zero_at : (count net : ℕ) → ◌≡◌ {A = ℕ} (get_or (replicate count 0) net 0) 0
zero_at count net =
    let long : length (replicate {A = ℕ} count 0) ≡ count = length-replicate {A = ℕ} count 0 in
    ⊎_elim (λ within. get_or-replicate count net 0 0 within) (λ past. get_or_past (replicate count 0) net 0 (omega arith)) (cases_lt net count)

module _ (ordered : Ordered) where
  abbrev net_at : ℕ → ℕ
  net_at place = ordered.flat.inputs + slice_index ordered.order place

  -- the gates before a place have their turns, and what no gate drives has turn 0
  pub record HasTurns (count : ℕ) (turns : List ℕ) : Type 0 where
    pub long : length turns ≡ ordered.flat.inputs + length ordered.flat.cells
    pub gates : (place : ℕ) → place < count → place < length ordered.order → slice_index turns (net_at place) ≡ place + 1
    pub others : (net : ℕ) → is_gate (driving_cell ordered.flat net) ≡ false → slice_index turns net ≡ 0

  pub none_turned : (turns : List ℕ) (nets : ℕ) → turns ≡ replicate nets 0
      → nets ≡ ordered.flat.inputs + length ordered.flat.cells → HasTurns 0 turns
  none_turned turns nets zeros all = record {
    long = ap length zeros ∙ length-replicate nets 0 ∙ all;
    gates = λ place before within. absurd (omega (arith, before));
    others = λ net no. ap (λ (list : List ℕ). slice_index list net) zeros ∙ zero_at nets net;
  }

  pub one_turned : (count : ℕ) (turns : List ℕ) (net value : ℕ) → count < length ordered.order
      → net ≡ ordered.flat.inputs + slice_index ordered.order count → value ≡ count + 1
      → HasTurns count turns → HasTurns (count + 1) (set turns net value)
  one_turned count turns net value inside its_net its_value has = record { long = length-set turns net value ∙ has.long; gates = gates; others = others } where
    -- the gate has the turn that is set
    here : (place : ℕ) → place ≡ count → slice_index (set turns net value) (ordered.flat.inputs + slice_index ordered.order place) ≡ place + 1
    here place same =
        let at : net_at place ≡ net = ap net_at same ∙ sym its_net in
        let in_turns : net < length turns = omega (arith, its_net, has.long, order_within ordered.is_order count inside) in
        get_or-set_at turns net (net_at place) value 0 at in_turns ∙ its_value ∙ ap (λ (n : ℕ). n + 1) (sym same)

    -- those before it keep theirs
    sooner : (place : ℕ) → place < count → place < length ordered.order
        → slice_index (set turns net value) (ordered.flat.inputs + slice_index ordered.order place) ≡ place + 1
    sooner place early within =
        let other : net_at place ≡ net → ⊥ = λ same.
        let numbers : slice_index ordered.order place ≡ slice_index ordered.order count = omega (arith, same, its_net) in
        let no : ⊥ = omega (arith, early, one_place ordered place count within inside numbers) in no in
        get_or-set_other turns net (net_at place) value 0 other ∙ has.gates place early within

    gates : (place : ℕ) → place < count + 1 → place < length ordered.order
        → slice_index (set turns net value) (ordered.flat.inputs + slice_index ordered.order place) ≡ place + 1
    gates place before within = ⊎_elim (λ same. here place same) (λ apart. sooner place (omega (arith, before, apart)) within) (cases_eq place count)

    others : (other : ℕ) → is_gate (driving_cell ordered.flat other) ≡ false → slice_index (set turns net value) other ≡ 0
    others other undriven =
        let driven : other ≡ net → is_gate (driving_cell ordered.flat other) ≡ true = λ same.
        ap (λ (n : ℕ). is_gate (driving_cell ordered.flat n)) (same ∙ its_net) ∙ gate_in_order ordered count inside in
        get_or-set_other turns net other value 0 (λ same. true≢false (sym (driven same) ∙ undriven)) ∙ has.others other undriven

  -- a net that is ready before a place has an earlier turn
  ready_sooner : (place : ℕ) (turns : List ℕ) → place < length ordered.order → HasTurns (length ordered.order) turns
      → (net : ℕ) → is_ready ordered.flat.inputs ordered.flat.cells (take place ordered.order) net ≡ true → slice_index turns net < place + 1
  ready_sooner place turns within has net ready =
      let inputs = ordered.flat.inputs in
      let number = net - inputs in
      let cell = slice_get ordered.flat.cells number in
      let is_before = is_among (take place ordered.order) number in
      let IsSooner = slice_index turns net < place + 1 in
      let driven_by : Bool → Bool = λ input. is_gate (if input then None else cell) in
      let if_input = λ (input : nat_lt net inputs ≡ true).
      let none : is_gate (driving_cell ordered.flat net) ≡ false = ap driven_by input in
      let whole : IsSooner = omega (arith, has.others net none) in whole in
      let if_past = λ (past : nat_lt net inputs ≡ false).
      let if_latch = λ (latch : is_latch cell ≡ true).
      let none : is_gate (driving_cell ordered.flat net) ≡ false = ap driven_by past ∙ not_both cell latch in
      let whole : IsSooner = omega (arith, has.others net none) in whole in
      let if_done = λ (done : is_before ≡ true).
      let found = among_take place ordered.order number done in
      let late : inputs ≤ net = ⊎_elim (λ less. absurd (true≢false (sym (lt-ltb net inputs less) ∙ past))) (λ no_less. no_less) (cases_lt net inputs) in
      let same : net ≡ net_at found.0 = omega (arith, late, found.3) in
      let whole : IsSooner = omega (arith, ap (slice_index turns) same, has.gates found.0 found.1 found.1, found.2) in whole in
      let rest : (is_latch cell || is_before) ≡ true = sym (ap (λ (bit : Bool). bit || (is_latch cell || is_before)) past) ∙ ready in
      ⊎_elim if_latch if_done (or_cases (is_latch cell) is_before rest) in
      ⊎_elim if_input if_past (cases_Bool (nat_lt net inputs))

  pub turns_kept : (turns : List ℕ) → HasTurns (length ordered.order) turns → AreBehind ordered turns
  turns_kept turns has place within =
      let cell = slice_get ordered.flat.cells (slice_index ordered.order place) in
      let is_done = is_ready ordered.flat.inputs ordered.flat.cells (take place ordered.order) in
      let reads_done = AllPass-from_list_all is_done (read_nets_at cell) (ordered.is_order.after place within) in
      let ready : All (λ net. is_done net ≡ true) (gate_inputs cell) = All-gate_reads (λ net. is_done net ≡ true) cell reads_done in
      λ turn default inside.
      let sooner = ready_sooner place turns within has (get_or (gate_inputs cell) turn default) (ready turn default inside) in
      omega (arith, sooner, has.gates place within within)

-- ---- turns of nets, and of each route that of its net

-- the first route of a pair brings its net
abbrev BringsFrom : ℕ → List Route → ℕ → ℕ → Type 0
BringsFrom from routes net place = (from ≤ place) × (route : Route) × (slice_get routes (place - from) ≡ Some route) × (route.net ≡ net)

first_brings : (from place net node : ℕ) (routes : List Route) → first_pair from (route_pairs routes) net node ≡ Some place → BringsFrom from routes net place
first_brings from place net node [] is = cc
first_brings from place net node (first ∷ routes) is = by (is_number_pair net node (first.net, first.to)) refl (first_brings (suc from) place net node routes) where
  found_in : Bool → Option ℕ
  found_in here = option_or (found_if here from) (first_pair (suc from) (route_pairs routes) net node)

  by : (here : Bool) → is_number_pair net node (first.net, first.to) ≡ here
      → (first_pair (suc from) (route_pairs routes) net node ≡ Some place → BringsFrom (suc from) routes net place)
      → BringsFrom from (first ∷ routes) net place
  by true here more =
      let found : Some from ≡ Some place = sym (ap found_in here) ∙ is in
      let same : from ≡ place = same_Some from place found in
      let own : place - from ≡ 0 = omega (arith, same) in
      let its_net = eqb-true net first.net (and_parts (eqb net first.net) (eqb node first.to) here).0 in
      (omega (arith, same), first, ap (slice_get (first ∷ routes)) own, sym its_net)
  by false here more =
      let rest = more (sym (ap found_in here) ∙ is) in
      let later : place - from ≡ suc (place - suc from) = omega (arith, rest.0) in
      (omega (arith, rest.0), rest.1, ap (slice_get (first ∷ routes)) later ∙ rest.2, rest.3)

module _ (ordered : Ordered) (chip_of : List ℕ) (routes : List Route) (own : List ℕ) (turns : Turns) (same : turns.nets.items ≡ own)
    (its : (number : ℕ) (route : Route) → slice_get routes number ≡ Some route → slice_get turns.routes.items number ≡ Some (slice_index own route.net)) where
  net_turn : (net : ℕ) → slice_index turns.nets.items net ≡ slice_index own net
  net_turn net = ap (λ (list : List ℕ). slice_index list net) same

  route_turn : (number : ℕ) (route : Route) → slice_get routes number ≡ Some route → slice_index turns.routes.items number ≡ slice_index own route.net
  route_turn number route at = get_or_from_slice_get turns.routes.items number (slice_index own route.net) 0 (its number route at)

  pub turns_of_nets : AreBehind ordered own → length turns.routes.items ≡ length routes → AreTurns ordered chip_of routes turns
  turns_of_nets behind long = record {
    gates = λ place within turn default inside.
        let read = get_or (gate_inputs (slice_get ordered.flat.cells (slice_index ordered.order place))) turn default in
        let its_net = ordered.flat.inputs + slice_index ordered.order place in
        let before = behind place within turn default inside in
        record {
          own = omega (arith, before, net_turn read, net_turn its_net);
          brought = λ number found.
              let brings = first_brings 0 number read _ routes found in
              let none : number - 0 ≡ number = omega arith in
              let at = ap (slice_get routes) (sym none) ∙ brings.2 in
              omega (arith, before, net_turn its_net, route_turn number brings.1 at, ap (slice_index own) brings.3);
        };
    sent = record { long = long; late = λ number route at. omega (arith, net_turn route.net, route_turn number route at) };
  }
