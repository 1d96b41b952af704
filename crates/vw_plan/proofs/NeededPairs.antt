-- The list of needed pairs: what stands in it, how often, and in which order.
use Rattle.std.proofs.Common.{◌≡◌, ◌<◌, ◌≤◌, ◌+◌, ◌&&◌, ◌||◌, ℕ, zero, suc, Bool, true, false, not, List, [], ◌∷◌, ◌++◌, length, map, get_or, nat_lt, cond, if◌then◌else◌, eqb, ap, refl, sym, subst, ◌∙◌, ⊎_elim, true≢false, eq-eqb, ne_eqb, lt-ltb, le-ltb, All, arith}
use Rattle.std.specs.Prelude.{count_by}
use Rattle.std.specs.List.{AllByRecursion, AllPairs, filter, flat_map, list_any, range_with_len, zip}
use Rattle.std.specs.List.Sorted.{IsStrictlySortedBy}
use Rattle.std.specs.Ordering.{nat_cmp, ordering_then}
use Rattle.std.specs.declared.cmp.Ordering.{Ordering}
use Rattle.std.specs.declared.cmp.Ordering.TheVariants.{Less, Equal, Greater}
use Rattle.std.proofs.lemmas.Bool.{cases_Bool, cases_eq, cases_lt, and_left, and_right, or_from, or_left}
use Rattle.std.proofs.lemmas.List.Elements.{All-head, All-tail}
use Rattle.std.proofs.lemmas.List.Sums.{sum_by-append}
use Rattle.std.proofs.lemmas.Map.Keys.{Less-from_sorted}
use Rattle.vw_net.specs.declared.cell.Cell.{Cell}
use Rattle.vw_net.specs.declared.flat.Flat.{Flat}
use Rattle.vw_net.specs.Cells.{IsWellFormed, read_nets}
use Rattle.vw_net.specs.Order.{is_among}
use Rattle.vw_plan.specs.declared.need.Need.{Need}
use Rattle.vw_net.specs.Lists.{greatest}
use Rattle.vw_net.specs.Steps.Bits.{one_if}
use Rattle.vw_plan.specs.Needs.{comes_before, is_pair, needed_nodes, needed_pairs}
use Rattle.vw_net.proofs.CountsOverLists.{count_cons}
use Rattle.vw_plan.specs.Nets.{is_needed, node_of}

-- the pair of a net and a node
abbrev pub need_of : ℕ → ℕ → Need
need_of net node = record { net = net; to = node }

-- ---- how often a pair stands

count_yes : {X : Type 0} (test : X → Bool) (x : X) (xs : List X) (number : ℕ) → test x ≡ true → count_by test xs ≡ number → count_by test (x ∷ xs) ≡ number + 1
count_yes test x xs number passes rest =
    let one : one_if (test x) ≡ 1 = rw passes refl in
    omega (arith, count_cons test x xs, one, rest)

count_no : {X : Type 0} (test : X → Bool) (x : X) (xs : List X) (number : ℕ) → test x ≡ false → count_by test xs ≡ number → count_by test (x ∷ xs) ≡ number
count_no test x xs number fails rest =
    let none : one_if (test x) ≡ 0 = rw fails refl in
    omega (arith, count_cons test x xs, none, rest)

-- an element passes a test where more than none do
any_count : {X : Type 0} (test : X → Bool) (xs : List X) → list_any test xs ≡ nat_lt 0 (count_by test xs)
any_count test [] = refl
any_count test (x ∷ xs) =
    let if_passes = λ (passes : test x ≡ true).
    let more : nat_lt 0 (count_by test (x ∷ xs)) ≡ true = lt-ltb 0 (count_by test (x ∷ xs)) (omega (arith, count_yes test x xs (count_by test xs) passes refl)) in
    or_left (test x) (list_any test xs) passes ∙ sym more in
    let if_fails = λ (fails : test x ≡ false). ap (λ (bit : Bool). bit || list_any test xs) fails ∙ any_count test xs ∙ ap (λ (number : ℕ). nat_lt 0 number) (sym (count_no test x xs (count_by test xs) fails refl)) in
    ⊎_elim if_passes if_fails (cases_Bool (test x))

-- among the pairs of another net it stands nowhere
count_other : (net node other : ℕ) (nodes : List ℕ) → eqb other net ≡ false → count_by (is_pair net node) (map (need_of other) nodes) ≡ 0
count_other net node other [] apart = refl
count_other net node other (first ∷ nodes) apart = count_no (is_pair net node) (need_of other first) (map (need_of other) nodes) 0 (and_left (eqb other net) _ apart) (count_other net node other nodes apart)

-- among those of its net, as often as the node among the nodes
count_own : (net node : ℕ) (nodes : List ℕ) → count_by (is_pair net node) (map (need_of net) nodes) ≡ count_by (λ other. eqb other node) nodes
count_own net node [] = refl
count_own net node (first ∷ nodes) =
    let same : is_pair net node (need_of net first) ≡ eqb first node = rw (eq-eqb net net refl) refl in
    let one : one_if (is_pair net node (need_of net first)) ≡ one_if (eqb first node) = ap one_if same in
    omega (arith, count_cons (is_pair net node) (need_of net first) (map (need_of net) nodes), count_cons (λ (other : ℕ). eqb other node) first nodes, one, count_own net node nodes)

-- how often a number stands
abbrev count_of_node : ℕ → List ℕ → ℕ
count_of_node node nodes = count_by (λ other. eqb other node) nodes

-- a test leaves a number, or takes it out
count_kept : (test : ℕ → Bool) (node : ℕ) (nodes : List ℕ) → test node ≡ true → count_of_node node (filter test nodes) ≡ count_of_node node nodes
count_kept test node [] passes = refl
count_kept test node (first ∷ nodes) passes =
    let is = λ (other : ℕ). eqb other node in
    let rest = count_kept test node nodes passes in
    let if_kept = λ (kept : test first ≡ true).
    let same : count_of_node node (first ∷ filter test nodes) ≡ count_of_node node (first ∷ nodes) = omega (arith, count_cons is first (filter test nodes), count_cons is first nodes, rest) in
    let whole : count_of_node node (filter test (first ∷ nodes)) ≡ count_of_node node (first ∷ nodes) = rw kept same in whole in
    let if_out = λ (out : test first ≡ false).
    let apart : eqb first node ≡ false = ne_eqb first node (λ equal. true≢false (sym passes ∙ ap test (sym equal) ∙ out)) in
    let same : count_of_node node (filter test nodes) ≡ count_of_node node (first ∷ nodes) = sym (count_no is first nodes (count_of_node node (filter test nodes)) apart (sym rest)) in
    let whole : count_of_node node (filter test (first ∷ nodes)) ≡ count_of_node node (first ∷ nodes) = rw out same in whole in
    ⊎_elim if_kept if_out (cases_Bool (test first))

count_out : (test : ℕ → Bool) (node : ℕ) (nodes : List ℕ) → test node ≡ false → count_of_node node (filter test nodes) ≡ 0
count_out test node [] fails = refl
count_out test node (first ∷ nodes) fails =
    let rest = count_out test node nodes fails in
    let if_kept = λ (kept : test first ≡ true).
    let apart : eqb first node ≡ false = ne_eqb first node (λ equal. true≢false (sym kept ∙ ap test equal ∙ fails)) in
    let none : count_of_node node (first ∷ filter test nodes) ≡ 0 = count_no (λ (other : ℕ). eqb other node) first (filter test nodes) 0 apart rest in
    let whole : count_of_node node (filter test (first ∷ nodes)) ≡ 0 = rw kept none in whole in
    let if_out = λ (out : test first ≡ false). let whole : count_of_node node (filter test (first ∷ nodes)) ≡ 0 = rw out rest in whole in
    ⊎_elim if_kept if_out (cases_Bool (test first))

-- in a range a number stands once, and nowhere if it is below
count_below : (node from many : ℕ) → node < from → count_of_node node (range_with_len from many) ≡ 0
count_below node from zero below = refl
count_below node from (suc many) below = count_no (λ (other : ℕ). eqb other node) from (range_with_len (from + 1) many) 0 (ne_eqb from node (λ equal. omega arith)) (count_below node (from + 1) many (omega arith))

count_within : (node from many : ℕ) → from ≤ node → node < from + many → count_of_node node (range_with_len from many) ≡ 1
count_within node from zero above below = absurd (omega arith)
count_within node from (suc many) above below =
    let is = λ (other : ℕ). eqb other node in
    let rest = range_with_len (from + 1) many in
    let if_here = λ (here : from ≡ node). let once : count_of_node node (from ∷ rest) ≡ 1 = count_yes is from rest 0 (eq-eqb from node here) (count_below node (from + 1) many (omega arith)) in once in
    let if_later = λ (later : from ≡ node → ⊥). let once : count_of_node node (from ∷ rest) ≡ 1 = count_no is from rest 1 (ne_eqb from node later) (count_within node (from + 1) many (omega arith) (omega arith)) in once in
    ⊎_elim if_here if_later (cases_eq from node)

-- ---- what is needed nowhere

-- a well formed cell reads no net that isn't there
reads_none : (nets : List ℕ) (net past : ℕ) → All (λ other. other < past) nets → past ≤ net → is_among nets net ≡ false
reads_none [] net past below is_past = refl
reads_none (first ∷ nets) net past below is_past =
    or_from _ _ (ne_eqb first net (λ is. omega (arith, All-head (λ other. other < past) first nets below))) (reads_none nets net past (All-tail (λ other. other < past) first nets below) is_past)

no_cell_reads : (chips : List ℕ) (cells : List Cell) (net node past : ℕ) → All (IsWellFormed past) cells → past ≤ net
    → list_any (λ (placed : ℕ × Cell). eqb placed.0 node && is_among (read_nets placed.1) net) (zip chips cells) ≡ false
no_cell_reads [] cells net node past fit is_past = refl
no_cell_reads (chip ∷ chips) [] net node past fit is_past = refl
no_cell_reads (chip ∷ chips) (cell ∷ cells) net node past fit is_past =
    or_from _ _ (and_right (eqb chip node) _ (reads_none (read_nets cell) net past (All-head (IsWellFormed past) cell cells fit).1 is_past)) (no_cell_reads chips cells net node past (All-tail (IsWellFormed past) cell cells fit) is_past)

-- a net past the last one is needed nowhere
past_net : (flat : Flat) (chip_of : List ℕ) (net node : ℕ) → flat.inputs + length flat.cells ≤ net → is_needed flat chip_of net node ≡ false
past_net flat chip_of net node past =
    let by_cells = no_cell_reads chip_of flat.cells net node (flat.inputs + length flat.cells) flat.cells_fit past in
    let by_host = reads_none flat.outputs net (flat.inputs + length flat.cells) flat.outputs_fit past in
    and_right (not (eqb (node_of flat chip_of net) node)) _ (or_from _ _ by_cells (and_right (eqb node 0) _ by_host))

-- no cell is on a node past the greatest chip
no_chip_there : (chips : List ℕ) (cells : List Cell) (net node : ℕ) → greatest chips < node
    → list_any (λ (placed : ℕ × Cell). eqb placed.0 node && is_among (read_nets placed.1) net) (zip chips cells) ≡ false
no_chip_there [] cells net node past = refl
no_chip_there (chip ∷ chips) [] net node past = refl
no_chip_there (chip ∷ chips) (cell ∷ cells) net node past =
    or_from _ _ (and_left (eqb chip node) _ (ne_eqb chip node (λ is. omega arith))) (no_chip_there chips cells net node (omega arith))

pub past_node : (flat : Flat) (chip_of : List ℕ) (net node : ℕ) → greatest chip_of < node → is_needed flat chip_of net node ≡ false
past_node flat chip_of net node past =
    and_right (not (eqb (node_of flat chip_of net) node)) _ (or_from _ _ (no_chip_there chip_of flat.cells net node past) (and_left (eqb node 0) _ (ne_eqb node 0 (λ is. omega arith))))

-- ---- the count

module _ (flat : Flat) (chip_of : List ℕ) (net node : ℕ) where
  abbrev needed_once : ℕ
  needed_once = if is_needed flat chip_of net node then 1 else 0

  -- the node stands once among those of its net, if it is needed there
  count_nodes : count_by (λ other. eqb other node) (needed_nodes flat chip_of net) ≡ needed_once
  count_nodes =
      let test = is_needed flat chip_of net in
      let all = range_with_len 0 (greatest chip_of + 1) in
      let if_needed = λ (needed : test node ≡ true).
      let within : node < greatest chip_of + 1 = ⊎_elim (λ low. low) (λ past. absurd (true≢false (sym needed ∙ past_node flat chip_of net node (omega arith)))) (cases_lt node (greatest chip_of + 1)) in
      let once : count_by (λ other. eqb other node) (needed_nodes flat chip_of net) ≡ needed_once = rw needed (count_kept test node all needed ∙ count_within node 0 (greatest chip_of + 1) (omega arith) (omega arith)) in once in
      let if_not = λ (not_needed : test node ≡ false). let none : count_by (λ other. eqb other node) (needed_nodes flat chip_of net) ≡ needed_once = rw not_needed (count_out test node all not_needed) in none in
      ⊎_elim if_needed if_not (cases_Bool (test node))

  abbrev pairs_of : ℕ → List Need
  pairs_of other = map (need_of other) (needed_nodes flat chip_of other)

  abbrev count_in_needs : List Need → ℕ
  count_in_needs needs = count_by (is_pair net node) needs

  number_append : (needs others : List Need) → count_in_needs (needs ++ others) ≡ count_in_needs needs + count_in_needs others
  number_append needs others = sum_by-append (λ need. one_if (is_pair net node need)) needs others

  -- among the pairs of a range of nets it stands nowhere if its net isn't in it
  number_below : (from many : ℕ) → net < from → count_in_needs (flat_map pairs_of (range_with_len from many)) ≡ 0
  number_below from zero below = refl
  number_below from (suc many) below =
      let here : count_in_needs (pairs_of from) ≡ 0 = count_other net node from (needed_nodes flat chip_of from) (ne_eqb from net (λ is. omega arith)) in
      omega (arith, number_append (pairs_of from) (flat_map pairs_of (range_with_len (from + 1) many)), here, number_below (from + 1) many (omega arith))

  number_past : (from many : ℕ) → from + many ≤ net → count_in_needs (flat_map pairs_of (range_with_len from many)) ≡ 0
  number_past from zero past = refl
  number_past from (suc many) past =
      let here : count_in_needs (pairs_of from) ≡ 0 = count_other net node from (needed_nodes flat chip_of from) (ne_eqb from net (λ is. omega arith)) in
      omega (arith, number_append (pairs_of from) (flat_map pairs_of (range_with_len (from + 1) many)), here, number_past (from + 1) many (omega arith))

  -- and once if it is, and is needed
  number_within : (from many : ℕ) → from ≤ net → net < from + many → count_in_needs (flat_map pairs_of (range_with_len from many)) ≡ needed_once
  number_within from zero above below = absurd (omega arith)
  number_within from (suc many) above below =
      let rest = flat_map pairs_of (range_with_len (from + 1) many) in
      let whole = number_append (pairs_of from) rest in
      let if_here = λ (here : from ≡ net).
      let own : count_in_needs (pairs_of from) ≡ needed_once = subst (λ (other : ℕ). count_in_needs (pairs_of other) ≡ needed_once) (sym here) (count_own net node (needed_nodes flat chip_of net) ∙ count_nodes) in
      let once : count_in_needs (pairs_of from ++ rest) ≡ needed_once = omega (arith, whole, own, number_below (from + 1) many (omega arith)) in once in
      let if_later = λ (later : from ≡ net → ⊥).
      let none : count_in_needs (pairs_of from) ≡ 0 = count_other net node from (needed_nodes flat chip_of from) (ne_eqb from net later) in
      let once : count_in_needs (pairs_of from ++ rest) ≡ needed_once = omega (arith, whole, none, number_within (from + 1) many (omega arith) (omega arith)) in once in
      ⊎_elim if_here if_later (cases_eq from net)

  -- a pair stands once where it is needed, and else nowhere
  pub count-needed_pairs : count_by (is_pair net node) (needed_pairs flat chip_of) ≡ needed_once
  unfolding needed_pairs
  count-needed_pairs =
      let nets = flat.inputs + length flat.cells in
      let if_there = λ (there : net < nets). number_within 0 nets (omega arith) (omega arith) in
      let if_past = λ (past : nets ≤ net). let none : count_in_needs (flat_map pairs_of (range_with_len 0 nets)) ≡ needed_once = rw (past_net flat chip_of net node past) (number_past 0 nets (omega arith)) in none in
      ⊎_elim if_there if_past (cases_lt net nets)

  -- so it is listed exactly where it is needed
  pub any-needed_pairs : list_any (is_pair net node) (needed_pairs flat chip_of) ≡ is_needed flat chip_of net node
  any-needed_pairs = any_count (is_pair net node) (needed_pairs flat chip_of) ∙ ap (λ (number : ℕ). nat_lt 0 number) count-needed_pairs ∙ over_none (is_needed flat chip_of net node) where
    over_none : (bit : Bool) → nat_lt 0 (one_if bit) ≡ bit
    over_none true = refl
    over_none false = refl

-- ---- the order

-- by net, and then by node
abbrev pub need_cmp : Need → Need → Ordering
need_cmp need other = ordering_then (nat_cmp need.net other.net) (nat_cmp need.to other.to)

less_by_net : (need other : Need) → need.net < other.net → need_cmp need other ≡ Less
less_by_net need other below = rw (lt-ltb need.net other.net below) refl

less_by_node : (net node other : ℕ) → node < other → need_cmp (need_of net node) (need_of net other) ≡ Less
less_by_node net node other below = rw (le-ltb net net (omega arith), eq-eqb net net refl, lt-ltb node other below) refl

-- the nodes of a net rise
nodes_after : (net node : ℕ) (test : ℕ → Bool) (from many : ℕ) → node < from
    → AllByRecursion (λ other. need_cmp (need_of net node) other ≡ Less) (map (need_of net) (filter test (range_with_len from many)))
nodes_after net node test from zero below = tt
nodes_after net node test from (suc many) below =
    let rest = nodes_after net node test (from + 1) many (omega arith) in
    elim (test from) as (λ kept. AllByRecursion (λ other. need_cmp (need_of net node) other ≡ Less) (map (need_of net) (cond kept (from ∷ filter test (range_with_len (from + 1) many)) (filter test (range_with_len (from + 1) many))))) [
      | true ↦ (less_by_node net node from below, rest)
      | false ↦ rest
    ]

nodes_rise : (net : ℕ) (test : ℕ → Bool) (from many : ℕ) → IsStrictlySortedBy need_cmp (map (need_of net) (filter test (range_with_len from many)))
unfolding IsStrictlySortedBy
nodes_rise net test from zero = tt
nodes_rise net test from (suc many) =
    let rest = nodes_rise net test (from + 1) many in
    elim (test from) as (λ kept. IsStrictlySortedBy need_cmp (map (need_of net) (cond kept (from ∷ filter test (range_with_len (from + 1) many)) (filter test (range_with_len (from + 1) many))))) [
      | true ↦ (nodes_after net from test (from + 1) many (omega arith), rest)
      | false ↦ rest
    ]

-- pairs of a net before pairs of later nets
before_later : (net node : ℕ) (nodes : List ℕ) (later : List Need)
    → AllByRecursion (λ other. need_cmp (need_of net node) other ≡ Less) (map (need_of net) nodes)
    → AllByRecursion (λ other. net < other.net) later
    → AllByRecursion (λ other. need_cmp (need_of net node) other ≡ Less) (map (need_of net) nodes ++ later)
before_later net node [] [] own after = tt
before_later net node [] (first ∷ later) own after = (less_by_net (need_of net node) first after.0, before_later net node [] later tt after.1)
before_later net node (first ∷ nodes) later own after = (own.0, before_later net node nodes later own.1 after)

rise_on : (net : ℕ) (nodes : List ℕ) (later : List Need) → IsStrictlySortedBy need_cmp (map (need_of net) nodes)
    → IsStrictlySortedBy need_cmp later → AllByRecursion (λ other. net < other.net) later
    → IsStrictlySortedBy need_cmp (map (need_of net) nodes ++ later)
unfolding IsStrictlySortedBy
rise_on net [] later own rises after = rises
rise_on net (first ∷ nodes) later own rises after = (before_later net first nodes later own.0 after, rise_on net nodes later own.1 rises after)

net_before : (net later : ℕ) → net < later → (nodes : List ℕ) (others : List Need) → AllByRecursion (λ other. net < other.net) others
    → AllByRecursion (λ other. net < other.net) (map (need_of later) nodes ++ others)
net_before net later below [] others all = all
net_before net later below (node ∷ nodes) others all = (below, net_before net later below nodes others all)

-- each pair of a range of nets is of a net that is none below its first
nets_after : (nodes_of : ℕ → List ℕ) (net from many : ℕ) → net < from
    → AllByRecursion (λ other. net < other.net) (flat_map (λ other. map (need_of other) (nodes_of other)) (range_with_len from many))
nets_after nodes_of net from zero below = tt
nets_after nodes_of net from (suc many) below = net_before net from below (nodes_of from) _ (nets_after nodes_of net (from + 1) many (omega arith))

pairs_rise : (test : ℕ → ℕ → Bool) (nodes from many : ℕ)
    → IsStrictlySortedBy need_cmp (flat_map (λ net. map (need_of net) (filter (test net) (range_with_len 0 nodes))) (range_with_len from many))
unfolding IsStrictlySortedBy
pairs_rise test nodes from zero = tt
pairs_rise test nodes from (suc many) = rise_on from (filter (test from) (range_with_len 0 nodes)) _ (nodes_rise from (test from) 0 nodes) (pairs_rise test nodes (from + 1) many) (nets_after (λ net. filter (test net) (range_with_len 0 nodes)) from (from + 1) many (omega arith))

-- the needed pairs rise
pub needed_pairs-sorted : (flat : Flat) (chip_of : List ℕ) → IsStrictlySortedBy need_cmp (needed_pairs flat chip_of)
unfolding needed_pairs
needed_pairs-sorted flat chip_of = pairs_rise (is_needed flat chip_of) (greatest chip_of + 1) 0 (flat.inputs + length flat.cells)

-- as tests on the parts
by_parts : (net same_net node same_node : Bool)
    → ordering_then (cond net Less (cond same_net Equal Greater)) (cond node Less (cond same_node Equal Greater)) ≡ Less
    → (net || (same_net && node)) ≡ true
by_parts true same_net node same_node less = refl
by_parts false true true same_node less = refl
by_parts false true false true less = cc
by_parts false true false false less = cc
by_parts false false node same_node less = cc

pub needed_pairs-rise : (flat : Flat) (chip_of : List ℕ) → AllPairs (λ need other. comes_before need other ≡ true) (needed_pairs flat chip_of)
needed_pairs-rise flat chip_of i j default before within =
    let needs = needed_pairs flat chip_of in
    let need = get_or needs i default in
    let other = get_or needs j default in
    by_parts (nat_lt need.net other.net) (eqb need.net other.net) (nat_lt need.to other.to) (eqb need.to other.to) (Less-from_sorted need_cmp needs i j default (needed_pairs-sorted flat chip_of) before within)
