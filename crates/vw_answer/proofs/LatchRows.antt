-- Rows of latches, filled by the nodes of the latches one after the other.
use Rattle.std.proofs.Common.{◌≡◌, ◌<◌, ◌≤◌, ◌+◌, ◌-◌, ◌∷◌, ◌||◌, ◌⊎◌, ℕ, zero, suc, Bool, true, false, List, [], length, map, take, drop, get_or, set, eqb, slice_get, if◌then◌else◌, ap, ap₂, refl, sym, ◌∙◌, ⊎_elim, inl, inr, eqb-true, eq-eqb, true≢false, None, arith, lt-ltb}
use Rattle.std.proofs.lemmas.Bool.{cases_Bool, cases_eq, cases_lt, le-ltb}
use Rattle.std.proofs.lemmas.List.{drop_more, get_or-set_other, get_or-set_same, length-set, set-set, take_all}
use Rattle.vw_net.specs.Steps.Bits.{one_if}
use Rattle.vw_net.specs.declared.cell.Cell.{Cell}
use Rattle.vw_net.specs.declared.cell.Cell.TheVariants.{Gate, Latch}
use Rattle.vw_net.specs.declared.flat.Flat.{Flat}
use Rattle.vw_net.specs.Cells.{latch_count}
use Rattle.vw_net.specs.Order.{is_among, is_latch}
use Rattle.vw_plan.specs.Nets.{driving_cell}
use Rattle.vw_prog.specs.declared.job.Job.{Job}
use Rattle.vw_node.specs.States.{latch_number}
use Rattle.vw_node.proofs.Held.{latch_is, latch_within}
use Rattle.vw_answer.specs.Latches.{with_latches}

-- ---- a row among others

-- one bit more is put into the row of a clock
pub latches_put : (numbers : List ℕ) (bits : List Bool) (place default : ℕ) (other : Bool) (clock : ℕ) (rows new : List (List Bool)) → place < length numbers → place < length bits → clock < length rows
    → new ≡ set rows clock (set (get_or rows clock []) (get_or numbers place default) (get_or bits place other))
    → set new clock (with_latches (drop (place + 1) numbers) (drop (place + 1) bits) (get_or new clock [])) ≡ set rows clock (with_latches (drop place numbers) (drop place bits) (get_or rows clock []))
latches_put numbers bits place default other clock rows new of_number of_bit within new_is =
    let row = set (get_or rows clock []) (get_or numbers place default) (get_or bits place other) in
    let rest = with_latches (drop (place + 1) numbers) (drop (place + 1) bits) in
    ap (λ (all : List (List Bool)). set all clock (rest (get_or all clock []))) new_is
    ∙ ap (λ (now : List Bool). set (set rows clock row) clock (rest now)) (get_or-set_same rows clock row [] within)
    ∙ set-set rows clock row (rest row)
    ∙ sym (ap₂ (λ (numbers : List ℕ) (bits : List Bool). set rows clock (with_latches numbers bits (get_or rows clock []))) (drop_more numbers place default of_number) (drop_more bits place other of_bit))

-- ---- the numbers of latches

count_next : (cells : List Cell) (number : ℕ) → latch_count (take (suc number) cells) ≡ latch_count (take number cells) + one_if (is_latch (slice_get cells number))
count_next [] zero = omega arith
count_next [] (suc number) = omega arith
count_next (Gate ins cover ∷ cells) zero = omega arith
count_next (Latch d init ∷ cells) zero = omega arith
count_next (Gate ins cover ∷ cells) (suc number) = count_next cells number
count_next (Latch d init ∷ cells) (suc number) = omega (arith, count_next cells number)

latch_more : (flat : Flat) (net : ℕ) → latch_count (take (net + 1 - flat.inputs) flat.cells) ≡ latch_count (take (net - flat.inputs) flat.cells) + one_if (is_latch (driving_cell flat net))
latch_more flat net =
    let if_input = λ (input : net < flat.inputs).
    let now : net - flat.inputs ≡ 0 = omega arith in
    let next : net + 1 - flat.inputs ≡ 0 = omega arith in
    let kind : one_if (is_latch (driving_cell flat net)) ≡ 0 = ap (λ (is : Bool). one_if (is_latch (if is then None else slice_get flat.cells (net - flat.inputs)))) (lt-ltb net flat.inputs input) in
    let whole : latch_count (take (net + 1 - flat.inputs) flat.cells) ≡ latch_count (take (net - flat.inputs) flat.cells) + one_if (is_latch (driving_cell flat net)) = omega (arith, kind, ap (λ (many : ℕ). latch_count (take many flat.cells)) now, ap (λ (many : ℕ). latch_count (take many flat.cells)) next) in whole in
    let if_cell = λ (past : flat.inputs ≤ net).
    let next : net + 1 - flat.inputs ≡ suc (net - flat.inputs) = omega arith in
    let kind : one_if (is_latch (driving_cell flat net)) ≡ one_if (is_latch (slice_get flat.cells (net - flat.inputs))) = ap (λ (is : Bool). one_if (is_latch (if is then None else slice_get flat.cells (net - flat.inputs)))) (le-ltb net flat.inputs past) in
    let whole : latch_count (take (net + 1 - flat.inputs) flat.cells) ≡ latch_count (take (net - flat.inputs) flat.cells) + one_if (is_latch (driving_cell flat net)) = omega (arith, kind, ap (λ (many : ℕ). latch_count (take many flat.cells)) next, count_next flat.cells (net - flat.inputs)) in whole in
    ⊎_elim if_input if_cell (cases_lt net flat.inputs)

module _ (job : Job) where
  abbrev flat : Flat
  flat = job.checked.ordered.flat

  abbrev IsLatch : ℕ → Type 0
  IsLatch net = is_latch (driving_cell flat net) ≡ true

  number_grows : (net more : ℕ) → latch_number job net ≤ latch_number job (net + more)
  number_grows net zero = let same : net + zero ≡ net = omega arith in omega (arith, ap (latch_number job) same)
  number_grows net (suc more) =
      let same : net + suc more ≡ net + more + 1 = omega arith in
      omega (arith, ap (latch_number job) same, latch_more flat (net + more), number_grows net more)

  number_before : (net other : ℕ) → IsLatch net → net < other → latch_number job net < latch_number job other
  number_before net other latch before =
      let same : other ≡ net + 1 + (other - (net + 1)) = omega (arith, before) in
      omega (arith, latch_more flat net, ap one_if latch, number_grows (net + 1) (other - (net + 1)), ap (latch_number job) same)

  -- no two latches have one number
  pub number_once : (net other : ℕ) → IsLatch net → IsLatch other → latch_number job net ≡ latch_number job other → net ≡ other
  number_once net other one two same =
      let if_less = λ (less : net < other). absurd (omega (arith, number_before net other one less, same)) in
      let if_more = λ (past : other ≤ net).
      let if_same = λ (is : net ≡ other). is in
      let if_apart = λ (apart : net ≡ other → ⊥). absurd (omega (arith, number_before other net two (omega (arith, past, apart)), same)) in
      ⊎_elim if_same if_apart (cases_eq net other) in
      ⊎_elim if_less if_more (cases_lt net other)

  pub number_within : (net : ℕ) → IsLatch net → latch_number job net < latch_count flat.cells
  number_within net latch =
      let cell = latch_is job 0 (driving_cell flat net) latch in
      let within : net < flat.inputs + length flat.cells = latch_within job 0 net cell.0 cell.1.0 cell.1.1 in
      let all : latch_number job (flat.inputs + length flat.cells) ≡ latch_count flat.cells =
      ap latch_count (take_all (flat.inputs + length flat.cells - flat.inputs) flat.cells (omega arith)) in
      omega (arith, number_before net (flat.inputs + length flat.cells) latch within, all)

  nth_latch : (cells : List Cell) (number : ℕ) → number < latch_count cells → (place : ℕ) × ((is_latch (slice_get cells place) ≡ true) × (latch_count (take place cells) ≡ number))
  nth_latch [] number within = absurd (omega (arith, within))
  nth_latch (Gate ins cover ∷ cells) number within = let rest = nth_latch cells number within in (suc rest.0, (rest.1.0, rest.1.1))
  nth_latch (Latch d init ∷ cells) zero within = (0, (refl, refl))
  nth_latch (Latch d init ∷ cells) (suc number) within = let rest = nth_latch cells number (omega (arith, within)) in (suc rest.0, (rest.1.0, ap suc rest.1.1))

  pub driven_at : (place : ℕ) → driving_cell flat (flat.inputs + place) ≡ slice_get flat.cells place
  driven_at place =
      let back : flat.inputs + place - flat.inputs ≡ place = omega arith in
      ap (λ (input : Bool). if input then None else slice_get flat.cells (flat.inputs + place - flat.inputs)) (le-ltb (flat.inputs + place) flat.inputs (omega arith)) ∙ ap (slice_get flat.cells) back

  -- each number is a latch's
  pub latch_with : (number : ℕ) → number < latch_count flat.cells → (net : ℕ) × (IsLatch net × (latch_number job net ≡ number))
  latch_with number within =
      let found = nth_latch flat.cells number within in
      let back : flat.inputs + found.0 - flat.inputs ≡ found.0 = omega arith in
      let whole : (net : ℕ) × (IsLatch net × (latch_number job net ≡ number)) = (flat.inputs + found.0, (ap is_latch (driven_at found.0) ∙ found.1.0, ap (λ (place : ℕ). latch_count (take place flat.cells)) back ∙ found.1.1)) in whole

  -- ---- bits at the numbers of latches

  pub same_width : (numbers : List ℕ) (bits row : List Bool) → length (with_latches numbers bits row) ≡ length row
  same_width [] bits row = refl
  same_width (number ∷ numbers) [] row = refl
  same_width (number ∷ numbers) (bit ∷ bits) row = same_width numbers bits (set row number bit) ∙ length-set row number bit

  module _ (bit : ℕ → Bool) where
    abbrev IsRight : List Bool → ℕ → Type 0
    IsRight row net = get_or row (latch_number job net) false ≡ bit net

    -- all nets of a list are latches
    abbrev AreAll : List ℕ → Type 0
    AreAll nets = (net : ℕ) → is_among nets net ≡ true → IsLatch net

    set_right : (row : List Bool) (own net : ℕ) → IsLatch own → IsLatch net → latch_count flat.cells ≤ length row → (own ≡ net) ⊎ IsRight row net → IsRight (set row (latch_number job own) (bit own)) net
    set_right row own net latch one long right =
        let if_same = λ (same : own ≡ net).
        let at : latch_number job own ≡ latch_number job net = ap (latch_number job) same in
        ap (λ (where_to : ℕ). get_or (set row where_to (bit own)) (latch_number job net) false) at ∙ get_or-set_same row (latch_number job net) (bit own) false (omega (arith, number_within net one, long)) ∙ ap bit same in
        let if_apart = λ (apart : own ≡ net → ⊥).
        let other : latch_number job net ≡ latch_number job own → ⊥ = λ same. apart (sym (number_once net own one latch same)) in
        let old : IsRight row net = ⊎_elim (λ same. absurd (apart same)) (λ old. old) right in
        get_or-set_other row (latch_number job own) (latch_number job net) (bit own) false other ∙ old in
        ⊎_elim if_same if_apart (cases_eq own net)

    -- what is right stays right, and what is among the nets becomes right
    pub put_right : (nets : List ℕ) (row : List Bool) (net : ℕ) → AreAll nets → IsLatch net → latch_count flat.cells ≤ length row → (is_among nets net ≡ true) ⊎ IsRight row net → IsRight (with_latches (map (latch_number job) nets) (map bit nets) row) net
    put_right [] row net all one long right = ⊎_elim (λ none. absurd (true≢false (sym none))) (λ old. old) right
    put_right (own ∷ nets) row net all one long right =
        let latch : IsLatch own = all own (ap (λ (first : Bool). first || is_among nets own) (eq-eqb own own refl)) in
        let later : AreAll nets = λ other among. all other (or_right (eqb own other) (is_among nets other) among) in
        let if_among = λ (among : is_among nets net ≡ true). put_right nets (set row (latch_number job own) (bit own)) net later one (omega (arith, long, length-set row (latch_number job own) (bit own))) (inl among) in
        let if_not = λ (none : is_among nets net ≡ false).
        let now : (own ≡ net) ⊎ IsRight row net = ⊎_elim (λ (among : (eqb own net || is_among nets net) ≡ true). inl (eqb-true own net (first_of (eqb own net) (is_among nets net) among none))) (λ old. inr old) right in
        put_right nets (set row (latch_number job own) (bit own)) net later one (omega (arith, long, length-set row (latch_number job own) (bit own))) (inr (set_right row own net latch one long now)) in
        ⊎_elim if_among if_not (cases_Bool (is_among nets net)) where
          or_right : (first second : Bool) → second ≡ true → (first || second) ≡ true
          or_right true second is = refl
          or_right false second is = is

          first_of : (first second : Bool) → (first || second) ≡ true → second ≡ false → first ≡ true
          first_of true second is none = refl
          first_of false second is none = absurd (true≢false (sym is ∙ none))
