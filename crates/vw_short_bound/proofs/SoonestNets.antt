-- Tables of the least microcycles of nets, gate by gate, in each sound plan with shortest wires.
use Rattle.std.proofs.Common.{◌≡◌, ◌<◌, ◌≤◌, ◌+◌, ◌-◌, ◌%◌, ◌^◌, ◌==◌, ℕ, zero, suc, Bool, true, false, List, [], ◌∷◌, ◌++◌, length, map, max, replicate, set, slice_get, slice_index, nat_lt, cond, ap, refl, sym, subst, ◌∙◌, None, ⊎_elim, le-ltb, length-append, true≢false, All, arith}
use Rattle.std.specs.Prelude.{slice_index_or}
use Rattle.std.proofs.lemmas.Bool.{cases_eq, cases_lt}
use Rattle.std.proofs.lemmas.Grind.{get_or-set_at}
use Rattle.std.proofs.lemmas.List.{get_or_past, get_or-replicate, get_or-set_other, length-replicate, length-set}
use Rattle.std.proofs.lemmas.List.Elements.{All-replicate, All-set}
use Rattle.std.proofs.lemmas.Nat.Bits.{bit_at-zero}
use Rattle.vw_net.specs.Lists.{greatest}
use Rattle.vw_plan.specs.Lead.{brought_at, lead}
use Rattle.vw_plan.specs.Nets.{driving_cell, greatest_read}
use Rattle.vw_plan.specs.PlannedBoard.{PlannedBoard, home, planned_board}
use Rattle.vw_plan.specs.Sound.{IsSound}
use Rattle.vw_delays.proofs.LevelDelays.{least_ways}
use Rattle.vw_bound.specs.PlacedDesigns.{PlacedDesign, flat_of, placed_by, placed_design}
use Rattle.vw_bound.specs.Times.{due_by, read_by}
use Rattle.vw_bound.proofs.DuePeriods.{due_in_period}
use Rattle.vw_bound.proofs.SoonLeads.{driver_late, lead_home}
use Rattle.vw_short_bound.specs.declared.inlets.Inlets.{Inlets}
use Rattle.vw_short_bound.specs.Shortest.{IsShortBound}
use Rattle.vw_short_bound.specs.Steps.Rows.{has}
use Rattle.vw_short_bound.specs.Steps.Plans.{AreSoonest, IsPressing, IsSoonest, RestsOn}
use Rattle.vw_short_bound.specs.Steps.Inlets.{AreEmpty, AreRows, IsBelowPeriods, IsGateOf, IsWorkedOut, RowWaits, nets_at}

-- ---- a gate in a plan

module _ (planned : PlannedBoard) (sound : IsSound planned) (number node : ℕ) (ins : List ℕ) (gate : IsGateOf (placed_by planned) number ins) (here : node ≡ slice_index planned.plan.chip_of number) where
  abbrev net : ℕ
  net = planned.ordered.flat.inputs + number

  no_input : nat_lt net planned.ordered.flat.inputs ≡ false
  no_input = le-ltb net planned.ordered.flat.inputs (omega arith)

  its_number : net - planned.ordered.flat.inputs ≡ number
  its_number = omega arith

  gate_home : home planned net ≡ node
  gate_home = ap (λ (input : Bool). cond input 0 (slice_index planned.plan.chip_of (net - planned.ordered.flat.inputs))) no_input ∙ ap (slice_index planned.plan.chip_of) its_number ∙ sym here

  gate_driver : driving_cell planned.ordered.flat net ≡ slice_get planned.ordered.flat.cells number
  gate_driver = ap (λ (input : Bool). cond input None (slice_get planned.ordered.flat.cells (net - planned.ordered.flat.inputs))) no_input ∙ ap (slice_get planned.ordered.flat.cells) its_number

  gate_reads : (number_of : ℕ → ℕ) → greatest_read number_of (driving_cell planned.ordered.flat net) ≡ greatest (map number_of ins)
  gate_reads number_of = ap (greatest_read number_of) gate_driver ∙ gate number_of

  -- its net has the lead of what it reads
  gate_lead : lead planned node net ≡ greatest (map (lead planned node) ins)
  gate_lead = ap (λ (at : ℕ). lead planned at net) (sym gate_home) ∙ lead_home planned sound (least_ways planned.board) net ∙ gate_reads (lead planned (home planned net)) ∙ ap (λ (at : ℕ). greatest (map (lead planned at) ins)) gate_home

  gate_late : (soon_of : ℕ → ℕ) → ((other : ℕ) → soon_of other ≤ lead planned (home planned other) other) → greatest (map (read_by (placed_by planned) soon_of node) ins) ≤ lead planned (home planned net) net
  gate_late soon_of late =
      let below = driver_late planned sound (least_ways planned.board) soon_of net late in
      let same : greatest_read (read_by (placed_by planned) soon_of (home planned net)) (driving_cell planned.ordered.flat net) ≡ greatest (map (read_by (placed_by planned) soon_of node) ins) = gate_reads (read_by (placed_by planned) soon_of (home planned net)) ∙ ap (λ (at : ℕ). greatest (map (read_by (placed_by planned) soon_of at) ins)) gate_home in
      omega (arith, below, same)

-- ---- a gate in each plan

module _ (placed : PlacedDesign) (number node : ℕ) (ins : List ℕ) (gate : IsGateOf placed number ins) (here : node ≡ slice_index placed.chip_of number) where
  -- what it reads is there no sooner
  pub last_soonest : (soon : List ℕ) (time : ℕ) → AreSoonest placed soon → time ≤ greatest (map (read_by placed (slice_index soon) node) ins) → IsSoonest placed ((flat_of placed).inputs + number) time
  last_soonest soon time soonest low planned same sound short =
      let back = sym same in
      let own_gate = subst (λ (p : PlacedDesign). IsGateOf p number ins) back gate in
      let own_here = subst (λ (p : PlacedDesign). node ≡ slice_index p.chip_of number) back here in
      let own_low = subst (λ (p : PlacedDesign). time ≤ greatest (map (read_by p (slice_index soon) node) ins)) back low in
      let late = gate_late planned sound number node ins own_gate own_here (slice_index soon) (λ other. soonest.each other planned same sound short) in
      let whole : time ≤ lead planned (home planned (planned.ordered.flat.inputs + number)) (planned.ordered.flat.inputs + number) = omega (arith, own_low, late) in
      subst (λ (p : PlacedDesign). time ≤ lead planned (home planned (p.ordered.flat.inputs + number)) (p.ordered.flat.inputs + number)) same whole

  -- it rests on what a row has
  pub row_rests : (nets row : List ℕ) → RowWaits placed node nets row ins → RestsOn placed node nets row ((flat_of placed).inputs + number)
  row_rests nets row waits place is within planned same sound short =
      let back = sym same in
      let own_gate = subst (λ (p : PlacedDesign). IsGateOf p number ins) back gate in
      let own_here = subst (λ (p : PlacedDesign). node ≡ slice_index p.chip_of number) back here in
      let waited = waits place is within planned same sound short in
      let its = gate_lead planned sound number node ins own_gate own_here in
      let whole : brought_at planned node (slice_index nets place) ≤ lead planned node (planned.ordered.flat.inputs + number) = omega (arith, waited, its) in
      subst (λ (p : PlacedDesign). brought_at planned node (slice_index nets place) ≤ lead planned node (p.ordered.flat.inputs + number)) same whole

  -- and so what presses these keeps it
  pub row_soonest : (nets row : List ℕ) (most : ℕ) → RowWaits placed node nets row ins → IsPressing placed node nets row most → IsSoonest placed ((flat_of placed).inputs + number) most
  row_soonest nets row most waits presses planned same sound short =
      let back = sym same in
      let own_gate = subst (λ (p : PlacedDesign). IsGateOf p number ins) back gate in
      let own_here = subst (λ (p : PlacedDesign). node ≡ slice_index p.chip_of number) back here in
      let below = presses planned same sound short (greatest (map (lead planned node) ins)) (λ place is within. waits place is within planned same sound short) in
      let its = gate_lead planned sound number node ins own_gate own_here in
      let home_is : lead planned (home planned (planned.ordered.flat.inputs + number)) (planned.ordered.flat.inputs + number) ≡ lead planned node (planned.ordered.flat.inputs + number) = ap (λ (at : ℕ). lead planned at (planned.ordered.flat.inputs + number)) (gate_home planned sound number node ins own_gate own_here) in
      let whole : most ≤ lead planned (home planned (planned.ordered.flat.inputs + number)) (planned.ordered.flat.inputs + number) = omega (arith, below, its, home_is) in
      subst (λ (p : PlacedDesign). most ≤ lead planned (home planned (p.ordered.flat.inputs + number)) (p.ordered.flat.inputs + number)) same whole

-- the greater of two such numbers, and a lesser one
pub greater_soonest : (placed : PlacedDesign) (net one other both : ℕ) → both ≤ max one other → IsSoonest placed net one → IsSoonest placed net other → IsSoonest placed net both
greater_soonest placed net one other both is first second planned same sound short = omega (arith, is, first planned same sound short, second planned same sound short)

pub lesser_soonest : (placed : PlacedDesign) (net one less : ℕ) → less ≤ one → IsSoonest placed net one → IsSoonest placed net less
lesser_soonest placed net one less is first planned same sound short = omega (arith, is, first planned same sound short)

-- a latch's net has 0
pub none_soonest : (placed : PlacedDesign) (net : ℕ) → IsSoonest placed net 0
none_soonest placed net planned same sound short = omega arith

-- no bit is set in no words
no_bits : (place : ℕ) → has [] place ≡ true → ⊥
no_bits place is = true≢false (sym is ∙ ap (λ (bit : ℕ). bit == 1) (bit_at-zero (place % 64)))

pub empty_rests : (placed : PlacedDesign) (node : ℕ) (nets : List ℕ) (own : ℕ) → RestsOn placed node nets [] own
empty_rests placed node nets own place is = absurd (no_bits place is)

-- ---- tables

-- one empty row more
empty_push : (rows : List (List ℕ)) → ((number : ℕ) → slice_index_or rows number [] ≡ []) → (number : ℕ) → slice_index_or (rows ++ [] ∷ []) number [] ≡ []
empty_push [] each zero = refl
empty_push [] each (suc number) = refl
empty_push (row ∷ rows) each zero = each 0
empty_push (row ∷ rows) each (suc number) = empty_push rows (λ other. each (suc other)) number

pub empty_next : (count : ℕ) (rows : List (List ℕ)) (row : List ℕ) → row ≡ [] → AreEmpty count rows → AreEmpty (count + 1) (rows ++ row ∷ [])
empty_next count rows row none so_far =
    let long = so_far.long in
    subst (λ (last : List ℕ). AreEmpty (count + 1) (rows ++ last ∷ [])) (sym none) (record { long = omega (arith, long, length-append rows ([] ∷ [])); each = empty_push rows so_far.each })

zero_at : (count net : ℕ) → slice_index (replicate count 0) net ≡ 0
zero_at count net = ⊎_elim (λ within. get_or-replicate count net 0 0 within) (λ past. get_or_past (replicate count 0) net 0 (let long : length (replicate {A = ℕ} count 0) ≡ count = length-replicate {A = ℕ} count 0 in omega arith)) (cases_lt net count)

module _ (placed : PlacedDesign) (tables : List Inlets) where
  -- what is kept: tables of all nets and all cells
  pub record IsSoonSoFar (soon : List ℕ) (rows : List (List ℕ)) : Type 0 where
    pub nets : length soon ≡ placed.ordered.flat.inputs + length placed.ordered.flat.cells
    pub cells : length rows ≡ length placed.ordered.flat.cells
    pub soonest : AreSoonest placed soon
    pub rests : AreRows placed tables rows

  pub soon_first : (soon : List ℕ) (count : ℕ) (rows : List (List ℕ)) → soon ≡ replicate count 0 → count ≡ placed.ordered.flat.inputs + length placed.ordered.flat.cells → AreEmpty (length placed.ordered.flat.cells) rows → IsSoonSoFar soon rows
  soon_first soon count rows zeros all empty = record {
    nets = ap length zeros ∙ length-replicate count 0 ∙ all;
    cells = empty.long;
    soonest = record {
      low = subst (All (λ (time : ℕ). time ≤ 2 ^ 62)) (sym zeros) (All-replicate (λ (time : ℕ). time ≤ 2 ^ 62) count 0 (omega arith));
      each = λ net planned same sound short. let none : slice_index soon net ≡ 0 = ap (λ (list : List ℕ). slice_index list net) zeros ∙ zero_at count net in omega (arith, none);
    };
    rests = λ number. subst (λ (row : List ℕ). RestsOn placed (slice_index placed.chip_of number) (nets_at tables (slice_index placed.chip_of number)) row (placed.ordered.flat.inputs + number)) (sym (empty.each number)) (empty_rests placed (slice_index placed.chip_of number) (nets_at tables (slice_index placed.chip_of number)) (placed.ordered.flat.inputs + number));
  }

  pub soon_next : (soon : List ℕ) (rows : List (List ℕ)) (number net time : ℕ) (row : List ℕ) → number < length placed.ordered.flat.cells → net ≡ placed.ordered.flat.inputs + number → IsWorkedOut placed tables number time row → IsSoonSoFar soon rows
      → IsSoonSoFar (set soon net time) (set rows number row)
  soon_next soon rows number net time row within is_net worked so_far = record {
    nets = length-set soon net time ∙ so_far.nets;
    cells = length-set rows number row ∙ so_far.cells;
    soonest = record { low = All-set (λ (one : ℕ). one ≤ 2 ^ 62) soon net time worked.low so_far.soonest.low; each = each };
    rests = rests;
  } where
    long : length soon ≡ placed.ordered.flat.inputs + length placed.ordered.flat.cells
    long = so_far.nets

    long_rows : length rows ≡ length placed.ordered.flat.cells
    long_rows = so_far.cells

    each : (other : ℕ) → IsSoonest placed other (slice_index (set soon net time) other)
    each other = ⊎_elim if_here if_else (cases_eq other net) where
      if_here : other ≡ net → IsSoonest placed other (slice_index (set soon net time) other)
      if_here same =
          let value : slice_index (set soon net time) other ≡ time = get_or-set_at soon net other time 0 same (omega (arith, long, is_net, within)) in
          subst (IsSoonest placed other) (sym value) (subst (λ (n : ℕ). IsSoonest placed n time) (sym (same ∙ is_net)) worked.soonest)

      if_else : (other ≡ net → ⊥) → IsSoonest placed other (slice_index (set soon net time) other)
      if_else apart = subst (IsSoonest placed other) (sym (get_or-set_other soon net other time 0 apart)) (so_far.soonest.each other)

    rests : (other : ℕ) → RestsOn placed (slice_index placed.chip_of other) (nets_at tables (slice_index placed.chip_of other)) (slice_index_or (set rows number row) other []) (placed.ordered.flat.inputs + other)
    rests other = ⊎_elim if_here if_else (cases_eq other number) where
      if_here : other ≡ number → RestsOn placed (slice_index placed.chip_of other) (nets_at tables (slice_index placed.chip_of other)) (slice_index_or (set rows number row) other []) (placed.ordered.flat.inputs + other)
      if_here same =
          let value : slice_index_or (set rows number row) other [] ≡ row = get_or-set_at rows number other row [] same (omega (arith, long_rows, within)) in
          subst (λ (list : List ℕ). RestsOn placed (slice_index placed.chip_of other) (nets_at tables (slice_index placed.chip_of other)) list (placed.ordered.flat.inputs + other)) (sym value)
          (subst (λ (n : ℕ). RestsOn placed (slice_index placed.chip_of n) (nets_at tables (slice_index placed.chip_of n)) row (placed.ordered.flat.inputs + n)) (sym same) worked.rests)

      if_else : (other ≡ number → ⊥) → RestsOn placed (slice_index placed.chip_of other) (nets_at tables (slice_index placed.chip_of other)) (slice_index_or (set rows number row) other []) (placed.ordered.flat.inputs + other)
      if_else apart = subst (λ (list : List ℕ). RestsOn placed (slice_index placed.chip_of other) (nets_at tables (slice_index placed.chip_of other)) list (placed.ordered.flat.inputs + other)) (sym (get_or-set_other rows number other row [] apart)) (so_far.rests other)

-- ---- periods

-- what the depth asks for by such a table
pub due_below : (placed : PlacedDesign) (soon : List ℕ) → AreSoonest placed soon → IsBelowPeriods placed (due_by placed (slice_index soon))
due_below placed soon soonest planned same sound short =
    subst (λ (p : PlacedDesign). due_by p (slice_index soon) ≤ planned.plan.period) same (due_in_period planned sound (least_ways planned.board) (slice_index soon) (λ net. soonest.each net planned same sound short))

-- as in any plan for these chips
pub short_of : (placed : PlacedDesign) (bound : ℕ) → IsBelowPeriods placed bound → IsShortBound placed bound
short_of placed bound below plan same sound short = below (planned_board placed.ordered placed.board plan) (ap (placed_design placed.ordered placed.board) same) sound short
