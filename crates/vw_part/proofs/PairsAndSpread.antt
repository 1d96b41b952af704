-- The number of needed pairs, and the spread: they differ by what no partition changes.
use Rattle.std.proofs.Common.{◌≡◌, ◌<◌, ◌≤◌, ◌+◌, ◌-◌, ◌&&◌, ◌||◌, ℕ, zero, suc, Bool, true, false, not, List, [], ◌∷◌, length, map, get_or, nat_lt, cond, eqb, ap, ap₂, refl, sym, subst, ◌∙◌, ⊎_elim, eq-eqb, ne_eqb, lt-ltb, le-ltb, if◌then◌else◌, All, arith}
use Rattle.std.specs.Prelude.{sum_by}
use Rattle.std.specs.List.{list_any, range_with_len, zip}
use Rattle.std.proofs.Math.Bool.{or-false}
use Rattle.std.proofs.lemmas.Bool.{cases_eq, cases_lt, and_left, and_right, or_from}
use Rattle.std.proofs.lemmas.List.{length-map}
use Rattle.std.proofs.lemmas.List.Concat.{length-flat_map}
use Rattle.std.proofs.lemmas.List.Elements.{All-head, All-tail, All-get_or}
use Rattle.std.proofs.lemmas.List.FromFn.{length-range_with_len}
use Rattle.std.proofs.lemmas.List.Sums.{length-filter, sum_by-cons}
use Rattle.vw_net.specs.declared.cell.Cell.{Cell}
use Rattle.vw_net.specs.declared.flat.Flat.{Flat}
use Rattle.vw_net.specs.Cells.{read_nets}
use Rattle.vw_net.specs.Order.{is_among}
use Rattle.vw_plan.specs.Good.{pair_count}
use Rattle.vw_net.specs.Lists.{greatest}
use Rattle.vw_net.specs.Steps.Bits.{one_if}
use Rattle.vw_net.proofs.SumsOverLists.{length_sum, range_agree, range_longer, range_one, sum_agree, sum_plus}
use Rattle.vw_plan.specs.Needs.{needed_nodes, needed_pairs}
use Rattle.vw_plan.specs.Nets.{is_needed, node_of}
use Rattle.vw_plan.proofs.NeededPairs.{need_of}
use Rattle.vw_part.specs.Steps.Deals.{cells_held, holders}
use Rattle.vw_part.specs.Steps.CellNets.{AreCellNets, times_among}
use Rattle.vw_part.proofs.Shares.{among, at}

-- ---- where a net is driven and read

abbrev reads_at : ℕ → ℕ → ℕ × Cell → Bool
reads_at net node placed = eqb placed.0 node && is_among (read_nets placed.1) net

-- whether a node has the cell that drives a net, of cells of which the first drives the net `own`
abbrev drives_at : ℕ → List ℕ → ℕ → ℕ → Bool
drives_at own [] net node = false
drives_at own (chip ∷ chips) net node = (eqb own net && eqb chip node) || drives_at (own + 1) chips net node

sides : (same own read later any : Bool) → ((same && (own || read)) || (later || any)) ≡ (((own && same) || later) || ((same && read) || any))
sides false true read later any = refl
sides false false read later any = refl
sides true true read later any = refl
sides true false true true any = refl
sides true false true false any = refl
sides true false false later any = refl

more_than : (first second : ℕ) → nat_lt 0 (first + second) ≡ (nat_lt 0 first || nat_lt 0 second)
more_than first second =
    let if_none = λ (none : first < 1).
    let is : first ≡ 0 = omega arith in
    let sum : nat_lt 0 (first + second) ≡ (nat_lt 0 first || nat_lt 0 second) = ap (λ (n : ℕ). nat_lt 0 n) (omega (arith, is)) ∙ ap (λ (bit : Bool). bit || nat_lt 0 second) (sym (le-ltb 0 first (omega (arith, is)))) in sum in
    let if_some = λ (some : 1 ≤ first).
    let sum : nat_lt 0 (first + second) ≡ (nat_lt 0 first || nat_lt 0 second) = lt-ltb 0 (first + second) (omega arith) ∙ ap (λ (bit : Bool). bit || nat_lt 0 second) (sym (lt-ltb 0 first (omega arith))) in sum in
    ⊎_elim if_none if_some (cases_lt first 1)

-- a chip holds a net where it has the cell that drives it, or one that reads it
held_where : (own : ℕ) (chips : List ℕ) (cells : List Cell) (cell_nets : List (List ℕ)) (chip net : ℕ) → AreCellNets own cells cell_nets → length chips ≡ length cells → nat_lt 0 (cells_held chips cell_nets chip net) ≡ (drives_at own chips net chip || list_any (reads_at net chip) (zip chips cells))
held_where own [] [] [] chip net are same = refl
held_where own [] [] (nets ∷ cell_nets) chip net are same = absurd are
held_where own [] (cell ∷ cells) cell_nets chip net are same = absurd (omega (arith, same))
held_where own (first ∷ chips) [] cell_nets chip net are same = absurd (omega (arith, same))
held_where own (first ∷ chips) (cell ∷ cells) [] chip net are same = absurd are
held_where own (first ∷ chips) (cell ∷ cells) (nets ∷ cell_nets) chip net are same =
    let rest = held_where (own + 1) chips cells cell_nets chip net are.1 (omega (arith, same)) in
    let head : nat_lt 0 (at first (times_among nets net) chip) ≡ (eqb first chip && (eqb own net || is_among (read_nets cell) net)) = by_bit (eqb first chip) in
    more_than (at first (times_among nets net) chip) (cells_held chips cell_nets chip net)
    ∙ ap₂ (λ (one other : Bool). one || other) head rest
    ∙ sides (eqb first chip) (eqb own net) (is_among (read_nets cell) net) (drives_at (own + 1) chips net chip) (list_any (reads_at net chip) (zip chips cells))
  where
    by_bit : (bit : Bool) → nat_lt 0 (cond bit (times_among nets net) 0) ≡ (bit && (eqb own net || is_among (read_nets cell) net))
    by_bit true = among nets net ∙ are.0.same net
    by_bit false = refl

-- no cell from here on drives an earlier net
driven_later : (own : ℕ) (chips : List ℕ) (net chip : ℕ) → net < own → drives_at own chips net chip ≡ false
driven_later own [] net chip before = refl
driven_later own (first ∷ chips) net chip before =
    or_from _ _ (and_left (eqb own net) (eqb first chip) (ne_eqb own net (λ is. omega arith))) (driven_later (own + 1) chips net chip (omega arith))

abbrev chip_at : ℕ → List ℕ → ℕ → ℕ
chip_at own chips net = if nat_lt net own then 0 else get_or chips (net - own) 0

driven_is : (own : ℕ) (chips : List ℕ) (net chip : ℕ) → 1 ≤ chip → drives_at own chips net chip ≡ eqb (chip_at own chips net) chip
driven_is own [] net chip some = sym (none (nat_lt net own)) where
  none : (bit : Bool) → eqb (cond bit 0 0) chip ≡ false
  none true = ne_eqb 0 chip (λ is. omega arith)
  none false = ne_eqb 0 chip (λ is. omega arith)
driven_is own (first ∷ chips) net chip some =
    let whole = drives_at own (first ∷ chips) net chip in
    let if_before = λ (before : net < own).
    let place : chip_at own (first ∷ chips) net ≡ 0 = rw (lt-ltb net own before) refl in
    let none : eqb (chip_at own (first ∷ chips) net) chip ≡ false = ne_eqb (chip_at own (first ∷ chips) net) chip (λ is. omega (arith, place)) in
    driven_later own (first ∷ chips) net chip before ∙ sym none in
    let if_from = λ (from : own ≤ net).
    let if_own = λ (is : own ≡ net).
    let here : chip_at own (first ∷ chips) net ≡ first = subst (λ (x : ℕ). chip_at own (first ∷ chips) x ≡ first) is (at_own own first chips) in
    let left : whole ≡ (eqb first chip || drives_at (own + 1) chips net chip) = ap (λ (bit : Bool). (bit && eqb first chip) || drives_at (own + 1) chips net chip) (eq-eqb own net is) in
    left ∙ ap (λ (bit : Bool). eqb first chip || bit) (driven_later (own + 1) chips net chip (omega arith)) ∙ or-false (eqb first chip) ∙ ap (λ (x : ℕ). eqb x chip) (sym here) in
    let if_later = λ (apart : own ≡ net → ⊥).
    let shifted : chip_at own (first ∷ chips) net ≡ chip_at (own + 1) chips net = later own first chips net (omega arith) in
    let left : whole ≡ drives_at (own + 1) chips net chip = ap (λ (bit : Bool). (bit && eqb first chip) || drives_at (own + 1) chips net chip) (ne_eqb own net apart) in
    left ∙ driven_is (own + 1) chips net chip some ∙ ap (λ (x : ℕ). eqb x chip) (sym shifted) in
    ⊎_elim if_own if_later (cases_eq own net) in
    ⊎_elim if_before if_from (cases_lt net own)
  where
    at_own : (own first : ℕ) (chips : List ℕ) → chip_at own (first ∷ chips) own ≡ first
    at_own own first chips =
        let step : own - own ≡ 0 = omega arith in
        let left : chip_at own (first ∷ chips) own ≡ get_or (first ∷ chips) (own - own) 0 = rw (le-ltb own own (omega arith)) refl in
        left ∙ ap (λ (place : ℕ). get_or (first ∷ chips) place 0) step

    later : (own first : ℕ) (chips : List ℕ) (net : ℕ) → own < net → chip_at own (first ∷ chips) net ≡ chip_at (own + 1) chips net
    later own first chips net after =
        let left : chip_at own (first ∷ chips) net ≡ get_or (first ∷ chips) (net - own) 0 = rw (le-ltb net own (omega arith)) refl in
        let right : chip_at (own + 1) chips net ≡ get_or chips (net - (own + 1)) 0 = rw (le-ltb net (own + 1) (omega arith)) refl in
        let step : net - own ≡ suc (net - (own + 1)) = omega arith in
        left ∙ ap (λ (place : ℕ). get_or (first ∷ chips) place 0) step ∙ sym right

-- ---- the nodes of a net

-- whether a net is at the host, wherever the cells are
abbrev pub at_host : Flat → ℕ → Bool
at_host flat net = nat_lt net flat.inputs || is_among flat.outputs net

module _ (flat : Flat) (cell_nets : List (List ℕ)) (most : ℕ) (are : AreCellNets flat.inputs flat.cells cell_nets) (chip_of : List ℕ) (each : length chip_of ≡ length flat.cells) (real : All (λ chip. (1 ≤ chip) × (chip ≤ most)) chip_of) where
  abbrev net_total : ℕ
  net_total = flat.inputs + length flat.cells

  abbrev reads : ℕ → ℕ → Bool
  reads net node = list_any (reads_at net node) (zip chip_of flat.cells) || (eqb node 0 && is_among flat.outputs net)

  -- whether a net is at home or read at a node
  abbrev touched : ℕ → ℕ → Bool
  touched net node = eqb (node_of flat chip_of net) node || reads net node

  low : (chips : List ℕ) → All (λ chip. (1 ≤ chip) × (chip ≤ most)) chips → greatest chips ≤ most
  low [] all = omega arith
  low (chip ∷ chips) all =
      let head = All-head (λ chip. (1 ≤ chip) × (chip ≤ most)) chip chips all in
      let rest = low chips (All-tail (λ chip. (1 ≤ chip) × (chip ≤ most)) chip chips all) in
      omega (arith, head.1, rest)

  -- no cell is on a node that is no chip of the list
  nothing_there : (net node : ℕ) (chips : List ℕ) (cells : List Cell) → ((chip : ℕ) (place : ℕ) → place < length chips → get_or chips place 0 ≡ node → ⊥) → list_any (reads_at net node) (zip chips cells) ≡ false
  nothing_there net node [] cells none = refl
  nothing_there net node (chip ∷ chips) [] none = refl
  nothing_there net node (chip ∷ chips) (cell ∷ cells) none =
      or_from _ _ (and_left (eqb chip node) _ (ne_eqb chip node (none 0 0 (omega arith)))) (nothing_there net node chips cells (λ other place within. none 0 (suc place) (omega arith)))

  past : (net node : ℕ) → greatest chip_of + 1 ≤ node → is_needed flat chip_of net node ≡ false
  past net node above =
      let apart : (chip place : ℕ) → place < length chip_of → get_or chip_of place 0 ≡ node → ⊥ = λ chip place within is. omega (arith, above, is, at_most chip_of place within) in
      and_right (not (eqb (node_of flat chip_of net) node)) _ (or_from _ _ (nothing_there net node chip_of flat.cells apart) (and_left (eqb node 0) _ (ne_eqb node 0 (λ is. omega arith))))
    where
      at_most : (chips : List ℕ) (place : ℕ) → place < length chips → get_or chips place 0 ≤ greatest chips
      at_most [] place within = absurd (omega arith)
      at_most (chip ∷ chips) zero within = omega arith
      at_most (chip ∷ chips) (suc place) within = omega (arith, at_most chips place (omega arith))

  -- the node of a net
  node_low : (net : ℕ) → node_of flat chip_of net ≤ most
  node_low net =
      let value : (bit : Bool) → cond bit 0 (get_or chip_of (net - flat.inputs) 0) ≤ most = λ bit. elim bit as (λ bit. cond bit 0 (get_or chip_of (net - flat.inputs) 0) ≤ most) [ true ↦ omega arith | false ↦ chip_low (net - flat.inputs) ] in
      value (nat_lt net flat.inputs)
    where
      past_end : (chips : List ℕ) (place : ℕ) → length chips ≤ place → get_or chips place 0 ≡ 0
      past_end [] place beyond = refl
      past_end (chip ∷ chips) zero beyond = absurd (omega arith)
      past_end (chip ∷ chips) (suc place) beyond = past_end chips place (omega arith)

      chip_low : (place : ℕ) → get_or chip_of place 0 ≤ most
      chip_low place = ⊎_elim (λ within. (All-get_or (λ chip. (1 ≤ chip) × (chip ≤ most)) chip_of place 0 within real).1) (λ beyond. subst (λ (chip : ℕ). chip ≤ most) (sym (past_end chip_of place beyond)) (omega arith)) (cases_lt place (length chip_of))

  -- the needed nodes of a net are one fewer than the touched ones
  one_fewer : (net : ℕ) → length (needed_nodes flat chip_of net) + 1 ≡ sum_by (λ node. one_if (touched net node)) (range_with_len 0 (suc most))
  one_fewer net =
      let home = node_of flat chip_of net in
      let amount = λ (node : ℕ). one_if (is_needed flat chip_of net node) in
      let few : greatest chip_of + 1 ≤ suc most = omega (arith, low chip_of real) in
      let listed = length-filter (is_needed flat chip_of net) (range_with_len 0 (greatest chip_of + 1)) in
      let longer = range_longer amount 0 (greatest chip_of + 1) (suc most) few (λ node above. ap (λ (bit : Bool). one_if bit) (past net node (omega arith))) in
      let both = sum_plus amount (at home 1) (range_with_len 0 (suc most)) in
      let same = sum_agree (λ node. amount node + at home 1 node) (λ node. one_if (touched net node)) (range_with_len 0 (suc most)) (λ node. either (eqb home node) (reads net node)) in
      omega (arith, listed, longer, both, same, range_one (λ node. 1) home 0 (suc most) (omega arith) (omega (arith, node_low net)))
    where
      either : (home read : Bool) → one_if (not home && read) + one_if home ≡ one_if (home || read)
      either true read = refl
      either false true = refl
      either false false = refl

  host : (net : ℕ) → net < net_total → touched net 0 ≡ at_host flat net
  host net below =
      let none = nothing_there net 0 chip_of flat.cells (λ chip place within is. omega (arith, is, (All-get_or (λ chip. (1 ≤ chip) × (chip ≤ most)) chip_of place 0 within real).0)) in
      ap₂ (λ (home read : Bool). home || (read || is_among flat.outputs net)) by_home none
    where
      by_home : eqb (node_of flat chip_of net) 0 ≡ nat_lt net flat.inputs
      by_home =
          let if_input = λ (input : net < flat.inputs). let same : eqb (node_of flat chip_of net) 0 ≡ nat_lt net flat.inputs = rw (lt-ltb net flat.inputs input) refl in same in
          let if_cell = λ (cell : flat.inputs ≤ net).
          let within : net - flat.inputs < length chip_of = omega (arith, each) in
          let some = (All-get_or (λ chip. (1 ≤ chip) × (chip ≤ most)) chip_of (net - flat.inputs) 0 within real).0 in
          let apart : eqb (get_or chip_of (net - flat.inputs) 0) 0 ≡ false = ne_eqb (get_or chip_of (net - flat.inputs) 0) 0 (λ is. omega (arith, is, some)) in
          let same : eqb (node_of flat chip_of net) 0 ≡ nat_lt net flat.inputs = rw (le-ltb net flat.inputs cell) apart in same in
          ⊎_elim if_input if_cell (cases_lt net flat.inputs)

  -- a chip is touched where it holds the net
  chip_touched : (net chip : ℕ) → 1 ≤ chip → touched net chip ≡ nat_lt 0 (cells_held chip_of cell_nets chip net)
  chip_touched net chip some =
      let away : (eqb chip 0 && is_among flat.outputs net) ≡ false = and_left (eqb chip 0) _ (ne_eqb chip 0 (λ is. omega arith)) in
      ap₂ (λ (home rest : Bool). home || (list_any (reads_at net chip) (zip chip_of flat.cells) || rest)) (sym (driven_is flat.inputs chip_of net chip some)) away
      ∙ ap (λ (rest : Bool). drives_at flat.inputs chip_of net chip || rest) (or-false (list_any (reads_at net chip) (zip chip_of flat.cells)))
      ∙ sym (held_where flat.inputs chip_of flat.cells cell_nets chip net are each)

  -- net by net
  of_net : (net : ℕ) → net < net_total → length (needed_nodes flat chip_of net) + 1 ≡ one_if (at_host flat net) + holders most chip_of cell_nets net
  of_net net below =
      let host_is : one_if (touched net 0) ≡ one_if (at_host flat net) = ap (λ (bit : Bool). one_if bit) (host net below) in
      let chips_are : sum_by (λ node. one_if (touched net node)) (range_with_len 1 most) ≡ holders most chip_of cell_nets net = range_agree (λ node. one_if (touched net node)) (λ chip. one_if (nat_lt 0 (cells_held chip_of cell_nets chip net))) 1 most (λ chip above below. ap (λ (bit : Bool). one_if bit) (chip_touched net chip above)) in
      omega (arith, one_fewer net, sum_by-cons (λ node. one_if (touched net node)) 0 (range_with_len 1 most), host_is, chips_are)

  -- and all nets together
  pub count_is : pair_count flat chip_of + net_total ≡ sum_by (λ net. one_if (at_host flat net)) (range_with_len 0 net_total) + sum_by (holders most chip_of cell_nets) (range_with_len 0 net_total)
  unfolding needed_pairs
  count_is =
      let range = range_with_len 0 net_total in
      let needed = λ (net : ℕ). length (needed_nodes flat chip_of net) in
      let hosted = λ (net : ℕ). one_if (at_host flat net) in
      let listed = length-flat_map (λ net. map (need_of net) (needed_nodes flat chip_of net)) range in
      let plain = sum_agree (λ net. length (map (need_of net) (needed_nodes flat chip_of net))) needed range (λ net. length-map (needed_nodes flat chip_of net) (need_of net)) in
      let left = sum_plus needed (λ net. 1) range in
      let each_net = range_agree (λ net. needed net + 1) (λ net. hosted net + holders most chip_of cell_nets net) 0 net_total (λ net above below. of_net net (omega arith)) in
      let right = sum_plus hosted (holders most chip_of cell_nets) range in
      omega (arith, listed, plain, left, each_net, right, length_sum range, length-range_with_len 0 net_total)
