-- What holds in each sound plan with shortest wires, step by step.
use Rattle.std.proofs.Common.{◌≡◌, ◌≢◌, ◌<◌, ◌≤◌, ◌+◌, ◌-◌, ◌⊎◌, ℕ, zero, suc, Bool, true, false, List, [], ◌∷◌, length, map, max, get_or, slice_index, nat_lt, cond, ap, sym, subst, ◌∙◌, Some, ⊎_elim, ne_eqb, le-ltb, arith}
use Rattle.std.specs.Prelude.{slice_index_or}
use Rattle.std.specs.List.{count_by}
use Rattle.std.proofs.lemmas.List.{get_or-map}
use Rattle.std.proofs.lemmas.Option.{slice_get-get_or}
use Rattle.vw_net.specs.Lists.{greatest}
use Rattle.vw_net.specs.Steps.Bits.{one_if}
use Rattle.vw_net.proofs.CountsOverLists.{count_cons, some_counted}
use Rattle.vw_plan.specs.declared.need.Need.{Need}
use Rattle.vw_plan.specs.Lead.{brought_at, lead}
use Rattle.vw_plan.specs.Needs.{is_pair, needed_pairs}
use Rattle.vw_plan.specs.Nets.{is_needed}
use Rattle.vw_plan.specs.PlannedBoard.{home}
use Rattle.vw_plan.proofs.NeededPairs.{any-needed_pairs}
use Rattle.vw_delays.proofs.LevelDelays.{least_ways}
use Rattle.vw_bound.specs.PlacedDesigns.{PlacedDesign, flat_of, home_in}
use Rattle.vw_bound.proofs.BroughtWires.{pair_in_period}
use Rattle.vw_bound.proofs.ListedNeeds.{own_pair}
use Rattle.vw_bound.proofs.SoonLeads.{lead_away}
use Rattle.vw_short_bound.specs.declared.inlets.Inlets.{Inlets}
use Rattle.vw_short_bound.specs.Steps.Rows.{has}
use Rattle.vw_short_bound.specs.Steps.Plans.{AreInlets, IsPressing, RestsOn, pairs_at}
use Rattle.vw_short_bound.specs.Steps.Inlets.{AreInletsOf, AreRows, AreTables, IsBelowPeriods, ReadWaits, RowWaits, nets_at}

-- ---- tables

-- the inlets that a table has
pub table_of : (placed : PlacedDesign) (tables : List Inlets) (node : ℕ) (inlets : Inlets) → AreTables placed tables → node ≤ placed.board.chips → inlets ≡ get_or tables node inlets → AreInletsOf placed node inlets
table_of placed tables node inlets are low is =
    let each = are.each in
    are.of node inlets (slice_get-get_or tables node inlets (omega (arith, each, low)) ∙ ap (λ (one : Inlets). Some one) (sym is))

pub nets_of_table : (tables : List Inlets) (node : ℕ) (inlets : Inlets) → node < length tables → inlets ≡ get_or tables node inlets → inlets.nets ≡ nets_at tables node
nets_of_table tables node inlets within is = sym (get_or-map (λ (one : Inlets). one.nets) tables node inlets [] within ∙ ap (λ (one : Inlets). one.nets) (sym is))

-- ---- nets that a gate reads

-- a net of another node is there when it is brought
pub brought_waits : (placed : PlacedDesign) (node : ℕ) (nets : List ℕ) (read place : ℕ) → home_in placed read ≢ node → slice_index nets place ≡ read → ReadWaits placed node nets read place
brought_waits placed node nets read place apart is within planned same sound short =
    let home_same : home planned read ≡ home_in placed read = ap (λ (p : PlacedDesign). home_in p read) same in
    let away : lead planned node read ≡ brought_at planned node read = lead_away planned sound (least_ways planned.board) node read (ne_eqb (home planned read) node (λ equal. apart (sym home_same ∙ equal))) in
    let its : brought_at planned node (slice_index nets place) ≡ brought_at planned node read = ap (brought_at planned node) is in
    omega (arith, away, its)

-- a net of the node waits for what its row has
pub own_waits : (placed : PlacedDesign) (tables : List Inlets) (rows : List (List ℕ)) (node : ℕ) (nets : List ℕ) (read place : ℕ) → AreRows placed tables rows → nets ≡ nets_at tables node
    → home_in placed read ≡ node → (flat_of placed).inputs ≤ read → has (slice_index_or rows (read - (flat_of placed).inputs) []) place ≡ true → ReadWaits placed node nets read place
own_waits placed tables rows node nets read place are nets_are here driven is within planned same sound short =
    let number = read - placed.ordered.flat.inputs in
    let no_input : nat_lt read placed.ordered.flat.inputs ≡ false = le-ltb read placed.ordered.flat.inputs driven in
    let chip : slice_index placed.chip_of number ≡ node = ap (λ (input : Bool). cond input 0 (slice_index placed.chip_of number)) (sym no_input) ∙ here in
    let net : placed.ordered.flat.inputs + number ≡ read = omega (arith, driven) in
    let rests : RestsOn placed node nets (slice_index_or rows number []) read =
    subst (λ (list : List ℕ). RestsOn placed node list (slice_index_or rows number []) read) (sym nets_are)
    (subst (λ (at : ℕ). RestsOn placed at (nets_at tables at) (slice_index_or rows number []) read) chip
    (subst (RestsOn placed (slice_index placed.chip_of number) (nets_at tables (slice_index placed.chip_of number)) (slice_index_or rows number [])) net (are number))) in
    rests place is within planned same sound short

at_greatest : (f : ℕ → ℕ) (nets : List ℕ) (place : ℕ) → place < length nets → f (slice_index nets place) ≤ greatest (map f nets)
at_greatest f [] place within = absurd (omega (arith, within))
at_greatest f (net ∷ nets) zero within = omega arith
at_greatest f (net ∷ nets) (suc place) within = omega (arith, at_greatest f nets place (omega (arith, within)))

-- one more net that is read
pub row_next : (placed : PlacedDesign) (node : ℕ) (nets old new ins : List ℕ) (place read : ℕ) → place < length ins → read ≡ slice_index ins place
    → ((at : ℕ) → has new at ≡ true → (has old at ≡ true) ⊎ ReadWaits placed node nets read at) → RowWaits placed node nets old ins → RowWaits placed node nets new ins
row_next placed node nets old new ins place read inside is more waits at is_new within planned same sound short =
    let Goal = brought_at planned node (slice_index nets at) ≤ greatest (map (lead planned node) ins) in
    let if_old = λ (is_old : has old at ≡ true). waits at is_old within planned same sound short in
    let if_read = λ (reads : ReadWaits placed node nets read at).
    let here = reads within planned same sound short in
    let its : lead planned node read ≡ lead planned node (slice_index ins place) = ap (lead planned node) is in
    let got : Goal = omega (arith, here, its, at_greatest (lead planned node) ins place inside) in got in
    ⊎_elim if_old if_read (more at is_new)

-- ---- all inlets of a node

-- an inlet is needed
inlet_needed : (placed : PlacedDesign) (node : ℕ) (nets : List ℕ) (place : ℕ) → AreInlets placed node nets → place < length nets → is_needed (flat_of placed) placed.chip_of (slice_index nets place) node ≡ true
inlet_needed placed node nets place are within =
    let net = slice_index nets place in
    let test = is_pair net node in
    let needs = needed_pairs (flat_of placed) placed.chip_of in
    let some = listed nets place within in
    sym (any-needed_pairs (flat_of placed) placed.chip_of net node) ∙ some_counted test needs (omega (arith, some, are net node))
  where
    listed : (list : List ℕ) (at : ℕ) → at < length list → 1 ≤ count_by (is_pair (slice_index list at) node) (pairs_at node list)
    listed [] at inside = absurd (omega (arith, inside))
    listed (first ∷ list) zero inside =
        let need : Need = record { net = first; to = node } in
        omega (arith, count_cons (is_pair first node) need (pairs_at node list), ap one_if (own_pair need))
    listed (first ∷ list) (suc at) inside =
        let need : Need = record { net = first; to = node } in
        omega (arith, count_cons (is_pair (slice_index list at) node) need (pairs_at node list), listed list at (omega (arith, inside)))

-- so all are there by the end of a period
pub presses_periods : (placed : PlacedDesign) (node : ℕ) (nets row : List ℕ) (number : ℕ) → AreInlets placed node nets → IsPressing placed node nets row number → IsBelowPeriods placed number
presses_periods placed node nets row number are presses planned same sound short =
    let back = sym same in
    presses planned same sound short planned.plan.period (λ place is within.
    let needed : is_needed planned.ordered.flat planned.plan.chip_of (slice_index nets place) node ≡ true = ap (λ (p : PlacedDesign). is_needed (flat_of p) p.chip_of (slice_index nets place) node) same ∙ inlet_needed placed node nets place are within in
    pair_in_period planned sound (slice_index nets place) node needed)

-- the greater of two such numbers
pub greater_below : (placed : PlacedDesign) (one other both : ℕ) → both ≡ max one other → IsBelowPeriods placed one → IsBelowPeriods placed other → IsBelowPeriods placed both
greater_below placed one other both is first second planned same sound short = omega (arith, is, first planned same sound short, second planned same sound short)

pub greater_presses : (placed : PlacedDesign) (node : ℕ) (nets row : List ℕ) (one other both : ℕ) → both ≡ max one other → IsPressing placed node nets row one → IsPressing placed node nets row other → IsPressing placed node nets row both
greater_presses placed node nets row one other both is first second planned same sound short end there = omega (arith, is, first planned same sound short end there, second planned same sound short end there)
