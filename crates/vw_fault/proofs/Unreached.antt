-- Faults of nets that reach no output change none.
use Rattle.std.proofs.Common.{◌≡◌, ◌+◌, ◌-◌, ◌==◌, ◌∙◌, not, ℕ, zero, suc, Bool, true, false, List, [], ◌∷◌, length, take, map, slice_get, slice_index_or, nat_lt, if◌then◌else◌, Option, Some, None, All, ap, ap₂, sym, refl, ⊎_elim, true≢false, arith}
use Rattle.std.proofs.lemmas.Bool.{cases_Bool, eq-eqb, ne_eqb, ltb-false, or_parts}
use Rattle.std.proofs.lemmas.List.Elements.{All-cons, All-nil, All-weaker}
use Rattle.std.proofs.lemmas.Option.{none-some, same_Some}
use Rattle.vw_net.specs.declared.cell.Cell.{Cell}
use Rattle.vw_net.specs.declared.cell.Cell.TheVariants.{Gate, Latch}
use Rattle.vw_net.specs.declared.cell.Init.{Init}
use Rattle.vw_net.specs.declared.flat.Flat.{Flat}
use Rattle.vw_net.specs.Cells.{latch_count, latch_inputs}
use Rattle.vw_net.specs.Cover.{cover_value}
use Rattle.vw_net.specs.FoundValue.{found_level, found_value, as_it_is}
use Rattle.vw_net.specs.Order.{is_among, read_nets_at}
use Rattle.vw_net.specs.Value.{driven_value}
use Rattle.vw_net.proofs.DrivenValues.{map_agree}
use Rattle.vw_fault.specs.declared.open.Open.{Open}
use Rattle.vw_fault.specs.Found.{found_outputs_at, found_next_state, found_outputs}
use Rattle.vw_fault.specs.Reached.{IsClosedByReading}
use Rattle.vw_fault.specs.Stuck.{find_stuck, is_detected}
use Rattle.vw_fault.proofs.Differences.{undetected}
use Rattle.vw_fault.proofs.Plain.{plain_outputs}

-- the latch at a cell takes the net that stands there
latch_input_at : (cells : List Cell) (number d : ℕ) (init : Init) → slice_get cells number ≡ Some (Latch d init)
    → slice_get (latch_inputs cells) (latch_count (take number cells)) ≡ Some d
latch_input_at [] number d init here = absurd (none-some (Latch d init) here)
latch_input_at (cell ∷ cells) zero d init here = rw (same_Some cell (Latch d init) here) refl
latch_input_at (Gate ins cover ∷ cells) (suc number) d init here = latch_input_at cells number d init here
latch_input_at (Latch e other ∷ cells) (suc number) d init here = latch_input_at cells number d init here

mapped_at : (value : ℕ → Bool) (nets : List ℕ) (place net : ℕ) → slice_get nets place ≡ Some net → slice_index_or (map value nets) place false ≡ value net
mapped_at value [] place net is = absurd (none-some net is)
mapped_at value (first ∷ nets) zero net is = ap value (same_Some first net is)
mapped_at value (first ∷ nets) (suc place) net is = mapped_at value nets place net is

module _ (find other : ℕ → Bool → Bool) (flat : Flat) (reaches : ℕ → Bool) (closed : IsClosedByReading flat reaches)
    (same : (net : ℕ) → reaches net ≡ true → (bit : Bool) → find net bit ≡ other net bit) where
  -- two states in which the latches that reach an output have the same bits
  record Agree (one two : List Bool) : Type 0 where
    bits : (number d : ℕ) (init : Init) → slice_get flat.cells number ≡ Some (Latch d init) → reaches (flat.inputs + number) ≡ true
        → slice_index_or one (latch_count (take number flat.cells)) false ≡ slice_index_or two (latch_count (take number flat.cells)) false

  module _ (row one two : List Bool) (agree : Agree one two) where
    -- what a cell gives a net that reaches an output
    driven_same : (level number : ℕ) → reaches (flat.inputs + number) ≡ true
        → ((net : ℕ) → reaches net ≡ true → found_level find level flat row one net ≡ found_level other level flat row two net)
        → (cell : Option Cell) → slice_get flat.cells number ≡ cell
        → driven_value (found_level find level flat row one) one (latch_count (take number flat.cells)) cell ≡ driven_value (found_level other level flat row two) two (latch_count (take number flat.cells)) cell
    driven_same level number its below None here = refl
    driven_same level number its below (Some (Gate ins cover)) here =
        let reads : All (λ net. reaches net ≡ true) ins = rw here at (closed.reads number its) in
        let found = found_level find level flat row one in
        let plain = found_level other level flat row two in
        ap (cover_value cover) (map_agree found plain ins (All-weaker (λ net. reaches net ≡ true) (λ net. found net ≡ plain net) below ins reads))
    driven_same level number its below (Some (Latch d init)) here = agree.bits number d init here its

    level_more : (level net : ℕ) → reaches net ≡ true
        → ((other_net : ℕ) → reaches other_net ≡ true → found_level find level flat row one other_net ≡ found_level other level flat row two other_net)
        → found_level find (suc level) flat row one net ≡ found_level other (suc level) flat row two net
    level_more level net its below = ⊎_elim if_input if_driven (cases_Bool (nat_lt net flat.inputs)) where
      if_input : nat_lt net flat.inputs ≡ true → found_level find (suc level) flat row one net ≡ found_level other (suc level) flat row two net
      if_input input = rw input (same net its (slice_index_or row net false))

      if_driven : nat_lt net flat.inputs ≡ false → found_level find (suc level) flat row one net ≡ found_level other (suc level) flat row two net
      if_driven past =
          let its_net : net ≡ flat.inputs + (net - flat.inputs) = omega (arith, ltb-false net flat.inputs past) in
          let driven = driven_same level (net - flat.inputs) (ap reaches (sym its_net) ∙ its) below (slice_get flat.cells (net - flat.inputs)) refl in
          rw past (ap (find net) driven ∙ same net its _)

    level_same : (level net : ℕ) → reaches net ≡ true → found_level find level flat row one net ≡ found_level other level flat row two net
    level_same zero net its = refl
    level_same (suc level) net its = level_more level net its (level_same level)

    value_same : (net : ℕ) → reaches net ≡ true → found_value find flat row one net ≡ found_value other flat row two net
    unfolding found_value
    value_same net its = level_same (length flat.cells + 1) net its

    outputs_same : found_outputs_at find flat row one ≡ found_outputs_at other flat row two
    outputs_same =
        let found = found_value find flat row one in
        let plain = found_value other flat row two in
        map_agree found plain flat.outputs (All-weaker (λ net. reaches net ≡ true) (λ net. found net ≡ plain net) value_same flat.outputs closed.outputs)

    next_agree : Agree (found_next_state find flat row one) (found_next_state other flat row two)
    next_agree = record { bits = bits } where
      bits : (number d : ℕ) (init : Init) → slice_get flat.cells number ≡ Some (Latch d init) → reaches (flat.inputs + number) ≡ true
          → slice_index_or (found_next_state find flat row one) (latch_count (take number flat.cells)) false ≡ slice_index_or (found_next_state other flat row two) (latch_count (take number flat.cells)) false
      bits number d init here its =
          let at = latch_input_at flat.cells number d init here in
          let reads : All (λ net. reaches net ≡ true) (d ∷ []) = rw here at (closed.reads number its) in
          let found = found_value find flat row one in
          let plain = found_value other flat row two in
          mapped_at found (latch_inputs flat.cells) (latch_count (take number flat.cells)) d at
          ∙ value_same d (reads 0 0 (omega arith))
          ∙ sym (mapped_at plain (latch_inputs flat.cells) (latch_count (take number flat.cells)) d at)

  all_outputs_same : (one two : List Bool) (rows : List (List Bool)) → Agree one two → found_outputs find flat one rows ≡ found_outputs other flat two rows
  all_outputs_same one two [] agree = refl
  all_outputs_same one two (row ∷ rows) agree =
      ap₂ (λ (first : List Bool) (more : List (List Bool)). first ∷ more)
      (outputs_same row one two agree)
      (all_outputs_same (found_next_state find flat row one) (found_next_state other flat row two) rows (next_agree row one two agree))

-- a fault of a net that is not among nets that are closed
pub unreached : (flat : Flat) (start : List Bool) (rows : List (List Bool)) (fault : Open) (reaches : ℕ → Bool)
    → IsClosedByReading flat reaches → reaches fault.net ≡ false → is_detected flat start rows fault ≡ false
unreached flat start rows fault reaches closed not_its =
    let other_net = λ (net : ℕ) (its : reaches net ≡ true) (is : net ≡ fault.net). true≢false (sym its ∙ ap reaches is ∙ not_its) in
    let same = λ (net : ℕ) (its : reaches net ≡ true) (bit : Bool). ap (λ (here : Bool). if here then fault.bit else bit) (ne_eqb net fault.net (other_net net its)) in
    undetected flat start rows fault (all_outputs_same (find_stuck fault) as_it_is flat reaches closed same start start rows (record { bits = λ number d init here its. refl }) ∙ plain_outputs flat start rows)

-- numbers among which one isn't differ from it
others : (numbers : List ℕ) (number : ℕ) → is_among numbers number ≡ false → All (λ other. not (other == number) ≡ true) numbers
others [] number none = All-nil (λ other. not (other == number) ≡ true)
others (first ∷ numbers) number none =
    let parts = or_parts (first == number) (is_among numbers number) none in
    All-cons (λ other. not (other == number) ≡ true) first numbers (ap not parts.0) (others numbers number parts.1)

-- nets other than one that nothing reads are closed
pub unread : (flat : Flat) (start : List Bool) (rows : List (List Bool)) (fault : Open) → is_among flat.outputs fault.net ≡ false
    → ((number : ℕ) → is_among (read_nets_at (slice_get flat.cells number)) fault.net ≡ false) → is_detected flat start rows fault ≡ false
unread flat start rows fault no_output no_read =
    let closed : IsClosedByReading flat (λ net. not (net == fault.net)) = record { outputs = others flat.outputs fault.net no_output; reads = λ number its. others (read_nets_at (slice_get flat.cells number)) fault.net (no_read number) } in
    unreached flat start rows fault (λ net. not (net == fault.net)) closed (ap not (eq-eqb fault.net fault.net refl))
