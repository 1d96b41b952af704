-- Nodes that are done: what they have recorded makes up the rows of the netlist's history.
use Rattle.std.proofs.Common.{◌≡◌, ◌<◌, ◌≤◌, ◌+◌, ◌-◌, ◌∷◌, ◌&&◌, ◌||◌, ◌⊎◌, ℕ, zero, suc, Bool, true, false, List, [], length, map, take, get_or, eqb, nat_lt, slice_get, if◌then◌else◌, ap, ap₂, refl, sym, ◌∙◌, ⊎_elim, inl, inr, eqb-true, eq-eqb, true≢false, lt-ltb, None, arith}
use Rattle.std.specs.List.{All, filter, range_with_len}
use Rattle.std.proofs.lemmas.Bool.{and_from, and_parts, cases_lt, le-ltb, ne_eqb}
use Rattle.std.proofs.lemmas.List.{get_or-map, get_or_default, length-map, take_all}
use Rattle.std.proofs.lemmas.List.FromFn.{get_or-range_with_len, length-range_with_len}
use Rattle.std.proofs.lemmas.List.Folds.{list_any_at}
use Rattle.std.proofs.lemmas.Map.Views.{any-filter_same}
use Rattle.vw_net.specs.declared.flat.Flat.{Flat}
use Rattle.vw_net.specs.Cells.{latch_count}
use Rattle.vw_net.specs.History.{next_state, outputs_of, state_after, states_of}
use Rattle.vw_net.specs.Order.{is_among, is_latch}
use Rattle.vw_net.specs.Value.{net_value}
use Rattle.vw_net.proofs.Counts.{length-outputs_of, length-state_after, length-states_of}
use Rattle.vw_plan.specs.Nets.{driving_cell}
use Rattle.vw_plan.specs.PlannedBoard.{PlannedBoard, home}
use Rattle.vw_prog.specs.declared.job.Job.{Job}
use Rattle.vw_prog.specs.Due.{is_source, own_latches, recorded}
use Rattle.vw_prog.specs.Scripts.{planned_of, state_at, value_at}
use Rattle.vw_node.specs.declared.node.Node.{Node}
use Rattle.vw_node.specs.Fits.{bit_by, bit_at_slot}
use Rattle.vw_node.specs.Starts.{net_count}
use Rattle.vw_node.proofs.SlotBits.{bits_are}
use Rattle.vw_plan.specs.declared.checked.Checked.{Checked}
use Rattle.vw_prog.specs.Actions.{actions}
use Rattle.vw_prog.specs.Codes.{IsCode}
use Rattle.vw_node.specs.Lists.{tabulate}
use Rattle.vw_node.specs.States.{latch_number}
use Rattle.vw_node.proofs.Clocks.{value-latch}
use Rattle.vw_node.proofs.Held.{latch_is, latch_within}
use Rattle.vw_node.proofs.Values.{get_or-tabulate, length-tabulate}
use Rattle.vw_answer.specs.Answers.{IsDoneNode, IsFinished}
use Rattle.vw_answer.specs.Latches.{HasLatches, HaveLatches, with_latches}
use Rattle.vw_answer.proofs.SameLists.{same_lists}
use Rattle.vw_answer.proofs.LatchRows.{latch_with, number_within, put_right, same_width}

-- ---- histories, clock by clock

states_at : (flat : Flat) (state : List Bool) (rows : List (List Bool)) (clock : ℕ) → clock < length rows → get_or (states_of flat state rows) clock [] ≡ state_after flat state (take clock rows)
states_at flat state [] clock within = absurd (omega (arith, within))
states_at flat state (row ∷ rows) zero within = refl
states_at flat state (row ∷ rows) (suc clock) within = states_at flat (next_state flat row state) rows clock (omega (arith, within))

outputs_are : (flat : Flat) (state : List Bool) (rows : List (List Bool)) (clock : ℕ) → clock < length rows → get_or (outputs_of flat state rows) clock [] ≡ map (net_value flat (get_or rows clock []) (state_after flat state (take clock rows))) flat.outputs
outputs_are flat state [] clock within = absurd (omega (arith, within))
outputs_are flat state (row ∷ rows) zero within = refl
outputs_are flat state (row ∷ rows) (suc clock) within = outputs_are flat (next_state flat row state) rows clock (omega (arith, within))

-- two functions that agree on the nets of a list
map_among : (f g : ℕ → Bool) (nets : List ℕ) → ((net : ℕ) → is_among nets net ≡ true → f net ≡ g net) → map f nets ≡ map g nets
map_among f g [] agree = refl
map_among f g (net ∷ nets) agree =
    ap₂ (λ (bit : Bool) (bits : List Bool). bit ∷ bits) (agree net (ap (λ (first : Bool). first || is_among nets net) (eq-eqb net net refl)))
    (map_among f g nets (λ other among. agree other (or_right (eqb net other) (is_among nets other) among))) where
      or_right : (first second : Bool) → second ≡ true → (first || second) ≡ true
      or_right true second is = refl
      or_right false second is = is

module _ (job : Job) where
  abbrev flat : Flat
  flat = job.checked.ordered.flat

  abbrev planned : PlannedBoard
  planned = planned_of job

  abbrev IsLatch : ℕ → Type 0
  IsLatch net = is_latch (driving_cell flat net) ≡ true

  latch_net : (net : ℕ) → IsLatch net → (flat.inputs ≤ net) × (net < flat.inputs + length flat.cells)
  latch_net net latch =
      let cell = latch_is job 0 (driving_cell flat net) latch in
      let within = latch_within job 0 net cell.0 cell.1.0 cell.1.1 in
      let if_input = λ (input : net < flat.inputs).
      let none : is_latch (driving_cell flat net) ≡ false = ap (λ (is : Bool). is_latch (if is then None else slice_get flat.cells (net - flat.inputs))) (lt-ltb net flat.inputs input) in
      let no : ⊥ = true≢false (sym latch ∙ none) in
      let whole : (flat.inputs ≤ net) × (net < flat.inputs + length flat.cells) = absurd no in whole in
      let if_cell = λ (past : flat.inputs ≤ net). let whole : (flat.inputs ≤ net) × (net < flat.inputs + length flat.cells) = (past, within) in whole in
      ⊎_elim if_input if_cell (cases_lt net flat.inputs)

  -- a latch is on a chip
  pub latch_home : (net : ℕ) → IsLatch net → (1 ≤ home planned net) × (home planned net ≤ job.checked.board.chips)
  latch_home net latch =
      let within = latch_net net latch in
      let place : net - flat.inputs < length job.checked.plan.chip_of = omega (arith, within.0, within.1, job.checked.sound.one_chip_each.each) in
      let chip = job.checked.sound.one_chip_each.chips (net - flat.inputs) 0 place in
      let its : home planned net ≡ get_or job.checked.plan.chip_of (net - flat.inputs) 0 = ap (λ (input : Bool). if input then 0 else get_or job.checked.plan.chip_of (net - flat.inputs) 0) (le-ltb net flat.inputs within.0) in
      (omega (arith, chip.0, its), omega (arith, chip.1, its))

  -- the latches of a node

  among_range : (first count net : ℕ) → first ≤ net → net < first + count → is_among (range_with_len first count) net ≡ true
  among_range first count net low high =
      let place : net - first < length (range_with_len first count) = omega (arith, low, high, length-range_with_len first count) in
      let at : get_or (range_with_len first count) (net - first) 0 ≡ net = get_or-range_with_len first count (net - first) 0 (omega (arith, low, high)) ∙ (let same : first + (net - first) ≡ net = omega (arith, low) in same) in
      list_any_at (λ (other : ℕ). eqb other net) (range_with_len first count) (net - first) 0 place (eq-eqb (get_or (range_with_len first count) (net - first) 0) net at)

  among_filter : (test : ℕ → Bool) (nets : List ℕ) (net : ℕ) → is_among (filter test nets) net ≡ (test net && is_among nets net)
  among_filter test nets net = any-filter_same (λ (other : ℕ). eqb other net) test (test net) (λ other is. ap test (eqb-true other net is)) nets

  pub own_among : (node net : ℕ) → IsLatch net → home planned net ≡ node → is_among (own_latches planned node) net ≡ true
  own_among node net latch its =
      let within = latch_net net latch in
      among_filter (λ net. is_latch (driving_cell flat net) && eqb (home planned net) node) (range_with_len flat.inputs (length flat.cells)) net
      ∙ and_from (is_latch (driving_cell flat net) && eqb (home planned net) node) (is_among (range_with_len flat.inputs (length flat.cells)) net)
      (and_from (is_latch (driving_cell flat net)) (eqb (home planned net) node) latch (eq-eqb (home planned net) node its)) (among_range flat.inputs (length flat.cells) net within.0 within.1)

  pub own_are : (node net : ℕ) → is_among (own_latches planned node) net ≡ true → IsLatch net
  own_are node net among =
      let both : ((is_latch (driving_cell flat net) && eqb (home planned net) node) && is_among (range_with_len flat.inputs (length flat.cells)) net) ≡ true =
      sym (among_filter (λ net. is_latch (driving_cell flat net) && eqb (home planned net) node) (range_with_len flat.inputs (length flat.cells)) net) ∙ among in
      (and_parts (is_latch (driving_cell flat net)) (eqb (home planned net) node) (and_parts (is_latch (driving_cell flat net) && eqb (home planned net) node) (is_among (range_with_len flat.inputs (length flat.cells)) net) both).0).0

  pub own_home : (node net : ℕ) → is_among (own_latches planned node) net ≡ true → home planned net ≡ node
  own_home node net among =
      let both : ((is_latch (driving_cell flat net) && eqb (home planned net) node) && is_among (range_with_len flat.inputs (length flat.cells)) net) ≡ true =
      sym (among_filter (λ net. is_latch (driving_cell flat net) && eqb (home planned net) node) (range_with_len flat.inputs (length flat.cells)) net) ∙ among in
      eqb-true (home planned net) node (and_parts (is_latch (driving_cell flat net)) (eqb (home planned net) node) (and_parts (is_latch (driving_cell flat net) && eqb (home planned net) node) (is_among (range_with_len flat.inputs (length flat.cells)) net) both).0).1

  among_at_place : (nets : List ℕ) (place default : ℕ) → place < length nets → is_among nets (get_or nets place default) ≡ true
  among_at_place nets place default within = list_any_at (λ (other : ℕ). eqb other (get_or nets place default)) nets place default within (eq-eqb (get_or nets place default) (get_or nets place default) refl)

  -- ---- a row of all latches

  -- the value of a latch in a clock is in the state before it
  pub state_bit : (clock net : ℕ) → IsLatch net → value_at job clock net ≡ get_or (state_at job clock) (latch_number job net) false
  state_bit clock net latch = let cell = latch_is job 0 (driving_cell flat net) latch in value-latch job clock net cell.0 cell.1.0 cell.1.1

  pub state_width : (clock : ℕ) → length (state_at job clock) ≡ latch_count flat.cells
  state_width clock = length-state_after flat job.start (take clock job.rows) job.all_latches

  -- a row that is right at each latch is the state
  pub row_is : (clock : ℕ) (row : List Bool) → length row ≡ latch_count flat.cells → ((net : ℕ) → IsLatch net → get_or row (latch_number job net) false ≡ value_at job clock net) → row ≡ state_at job clock
  row_is clock row wide right = same_lists row (state_at job clock) false (wide ∙ sym (state_width clock)) (λ place below.
      let found = latch_with job place (omega (arith, below, wide)) in
      ap (λ (one : ℕ). get_or row one false) (sym found.1.1) ∙ right found.0 found.1.0 ∙ state_bit clock found.0 found.1.0 ∙ ap (λ (one : ℕ). get_or (state_at job clock) one false) found.1.1)

  -- ---- what a node that is done has

  module _ (there : Node) (finished : IsFinished job there) where
    abbrev own_nets : List ℕ
    own_nets = own_latches planned there.share.node

    abbrev code : IsCode planned there.share.node (actions planned there.share.node) there.code.now
    code = finished.fits.code

    own_bit : (net : ℕ) → is_among own_nets net ≡ true → bit_by there.code.now.nets.items there.slots.items net ≡ value_at job (length job.rows) net
    own_bit net among =
        let latch = own_are there.share.node net among in
        let at = latch_net net latch in
        let own : is_source planned there.share.node net ≡ true = and_from (eqb (home planned net) there.share.node) (nat_lt net flat.inputs || is_latch (driving_cell flat net)) (eq-eqb (home planned net) there.share.node (own_home there.share.node net among)) (or_second (nat_lt net flat.inputs) (is_latch (driving_cell flat net)) latch) in
        let many : net_count there.share ≡ flat.inputs + length flat.cells = ap (λ (checked : Checked). checked.ordered.flat.inputs + length checked.ordered.flat.cells) finished.fits.share.checked in
        sym (get_or-tabulate (bit_by there.code.now.nets.items there.slots.items) (net_count there.share) net false (omega (arith, at.1, many)))
        ∙ finished.holds.latched net at.0 own ∙ ap (λ (one : ℕ). value_at job one net) finished.clock where
          or_second : (first second : Bool) → second ≡ true → (first || second) ≡ true
          or_second true second is = refl
          or_second false second is = is

    pub done_node : IsDoneNode job there.share.node there
    done_node = record {
      numbers = code.numbers;
      rows = sym (take_all there.clock there.rows (omega (arith, finished.fits.count, finished.clock))) ∙ finished.holds.told
          ∙ ap (tabulate (λ clock. map (value_at job clock) (recorded planned there.share.node))) finished.clock;
      last = bits_are there.code.now.nets.items there.slots.items own_nets there.code.now.latches.items code.latches
          ∙ map_among (bit_by there.code.now.nets.items there.slots.items) (value_at job (length job.rows)) own_nets own_bit;
    }

  -- what a chip has recorded
  pub chip_nets : (node : ℕ) → 1 ≤ node → recorded planned node ≡ own_latches planned node
  chip_nets node chip = ap (λ (host : Bool). if host then flat.outputs else own_latches planned node) (ne_eqb node 0 (λ same. absurd (omega (arith, chip, same))))

  module _ (node : ℕ) (there : Node) (is_done : IsDoneNode job node there) where
    pub row_at_clock : (clock : ℕ) → clock < length job.rows → get_or there.rows clock [] ≡ map (value_at job clock) (recorded planned node)
    row_at_clock clock within =
        ap (λ (rows : List (List Bool)). get_or rows clock []) is_done.rows
        ∙ get_or-tabulate (λ clock. map (value_at job clock) (recorded planned node)) (length job.rows) clock [] within

    pub rows_count : length there.rows ≡ length job.rows
    rows_count = ap (λ (rows : List (List Bool)). length rows) is_done.rows ∙ length-tabulate (λ clock. map (value_at job clock) (recorded planned node)) (length job.rows)

  -- ---- the outputs

  pub outputs_told : (there : Node) → IsDoneNode job 0 there → there.rows ≡ outputs_of flat job.start job.rows
  unfolding value_at
  outputs_told there is_done = same_lists there.rows (outputs_of flat job.start job.rows) [] (rows_count 0 there is_done ∙ sym (length-outputs_of flat job.start job.rows)) (λ clock below.
      let within : clock < length job.rows = omega (arith, below, rows_count 0 there is_done) in
      row_at_clock 0 there is_done clock within ∙ sym (outputs_are flat job.start job.rows clock within))

  -- ---- the latches

  pub no_latches : (rows : List (List Bool)) → length rows ≡ length job.rows → All (λ row. length row ≡ latch_count flat.cells) rows → HaveLatches job 1 rows
  no_latches rows count wide = record {
    count = count;
    each = λ clock within. record {
      wide = wide clock [] within;
      right = λ net latch below. absurd (omega (arith, (latch_home net latch).0, below));
    };
  }

  pub all_latches : (rows : List (List Bool)) (done : ℕ) → HaveLatches job done rows → suc job.checked.board.chips ≤ done → rows ≡ states_of flat job.start job.rows
  all_latches rows done have over = same_lists rows (states_of flat job.start job.rows) [] (have.count ∙ sym (length-states_of flat job.start job.rows)) (λ clock below.
      let within : clock < length job.rows = omega (arith, below, have.count) in
      let row = have.each clock below in
      row_is clock (get_or rows clock []) row.wide (λ net latch. row.right net latch (omega (arith, (latch_home net latch).1, over))) ∙ sym (states_at flat job.start job.rows clock within))

  -- the rows of the end, before any chip
  pub no_last : (row : List Bool) → length row ≡ latch_count flat.cells → HasLatches job (length job.rows) 1 row
  no_last row wide = record { wide = wide; right = λ net latch below. absurd (omega (arith, (latch_home net latch).0, below)) }

  pub all_last : (row : List Bool) (done : ℕ) → HasLatches job (length job.rows) done row → suc job.checked.board.chips ≤ done → row ≡ state_after flat job.start job.rows
  all_last row done has over =
      row_is (length job.rows) row has.wide (λ net latch. has.right net latch (omega (arith, (latch_home net latch).1, over)))
      ∙ ap (λ (rows : List (List Bool)). state_after flat job.start rows) (take_all (length job.rows) job.rows (omega arith))

  -- one chip more, in one row
  pub row_more : (clock node : ℕ) (numbers : List ℕ) (bits row new : List Bool) → HasLatches job clock node row → numbers ≡ map (latch_number job) (own_latches planned node) → bits ≡ map (value_at job clock) (own_latches planned node)
      → new ≡ with_latches numbers bits row → HasLatches job clock (node + 1) new
  row_more clock node numbers bits row new has numbers_are bits_so new_is =
      let own = own_latches planned node in
      let made : new ≡ with_latches (map (latch_number job) own) (map (value_at job clock) own) row = new_is ∙ ap₂ (λ (places : List ℕ) (values : List Bool). with_latches places values row) numbers_are bits_so in
      record {
        wide = ap (λ (list : List Bool). length list) made ∙ same_width job (map (latch_number job) own) (map (value_at job clock) own) row ∙ has.wide;
        right = λ net latch below.
            let right : (is_among own net ≡ true) ⊎ (get_or row (latch_number job net) false ≡ value_at job clock net) =
            ⊎_elim (λ (before : home planned net < node). inr (has.right net latch before)) (λ (past : node ≤ home planned net). inl (own_among node net latch (omega (arith, past, below)))) (cases_lt (home planned net) node) in
            ap (λ (list : List Bool). get_or list (latch_number job net) false) made ∙ put_right job (value_at job clock) own row net (own_are node) latch (omega (arith, has.wide)) right;
      }

  module _ (node : ℕ) (chip : 1 ≤ node) (there : Node) (is_done : IsDoneNode job node there) where
    -- the numbers of its latches are below their count
    each_within : (place default : ℕ) → place < length there.code.now.numbers.items → get_or there.code.now.numbers.items place default < latch_count flat.cells
    each_within place default within =
        let own = own_latches planned node in
        let low : place < length own = omega (arith, within, ap (λ (list : List ℕ). length list) is_done.numbers, length-map own (latch_number job)) in
        let net = get_or own place 0 in
        let is : get_or there.code.now.numbers.items place default ≡ latch_number job net = ap (λ (list : List ℕ). get_or list place default) is_done.numbers ∙ get_or-map (latch_number job) own place 0 default low in
        omega (arith, is, number_within job net (own_are node net (among_at_place own place 0 low)))

    pub within_row : (clock done : ℕ) (row : List Bool) → HasLatches job clock done row → All (λ number. number < length row) there.code.now.numbers.items
    within_row clock done row has place default within = omega (arith, each_within place default within, has.wide)

    pub within_rows : (done : ℕ) (rows : List (List Bool)) → HaveLatches job done rows → All (λ row. All (λ number. number < length row) there.code.now.numbers.items) rows
    within_rows done rows have clock none below place default within =
        omega (arith, each_within place default within, (have.each clock below).wide, ap (λ (bits : List Bool). length bits) (get_or_default rows clock none [] below))

    pub bits_wide : All (λ bits. length bits ≡ length there.code.now.numbers.items) there.rows
    bits_wide clock none below =
        let early : clock < length job.rows = omega (arith, below, rows_count node there is_done) in
        ap (λ (bits : List Bool). length bits) (get_or_default there.rows clock none [] below ∙ row_at_clock node there is_done clock early ∙ ap (map (value_at job clock)) (chip_nets node chip))
        ∙ length-map (own_latches planned node) (value_at job clock) ∙ sym (length-map (own_latches planned node) (latch_number job)) ∙ sym (ap (λ (list : List ℕ). length list) is_done.numbers)

    pub latches_long : length there.code.now.latches.items ≡ length there.code.now.numbers.items
    latches_long =
        sym (length-map there.code.now.latches.items (bit_at_slot there.slots.items)) ∙ ap (λ (bits : List Bool). length bits) is_done.last
        ∙ length-map (own_latches planned node) (value_at job (length job.rows)) ∙ sym (length-map (own_latches planned node) (latch_number job)) ∙ sym (ap (λ (list : List ℕ). length list) is_done.numbers)

    pub rows_more : (rows new : List (List Bool)) → HaveLatches job node rows → length new ≡ length rows
        → ((clock : ℕ) → clock < length new → get_or new clock [] ≡ with_latches there.code.now.numbers.items (get_or there.rows clock []) (get_or rows clock [])) → HaveLatches job (node + 1) new
    rows_more rows new have count each = record {
      count = count ∙ have.count;
      each = λ clock within.
          let low : clock < length rows = omega (arith, within, count) in
          row_more clock node there.code.now.numbers.items (get_or there.rows clock []) (get_or rows clock []) (get_or new clock []) (have.each clock low) is_done.numbers
          (row_at_clock node there is_done clock (omega (arith, low, have.count)) ∙ ap (map (value_at job clock)) (chip_nets node chip)) (each clock within);
    }

    pub last_more : (row new : List Bool) → HasLatches job (length job.rows) node row → new ≡ with_latches there.code.now.numbers.items (map (bit_at_slot there.slots.items) there.code.now.latches.items) row → HasLatches job (length job.rows) (node + 1) new
    last_more row new has new_is = row_more (length job.rows) node there.code.now.numbers.items (map (bit_at_slot there.slots.items) there.code.now.latches.items) row new has is_done.numbers is_done.last new_is
