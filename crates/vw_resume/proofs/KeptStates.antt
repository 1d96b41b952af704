-- States that are kept on the way.
use Rattle.std.proofs.Common.{◌≡◌, ◌<◌, ◌+◌, ◌-◌, ◌%◌, ◌==◌, ℕ, Bool, true, false, List, [], ◌∷◌, ◌++◌, length, take, drop, get_or, refl, sym, ◌∙◌, ap, ap₂, append_assoc, append-nil, length-append, if◌then◌else◌, arith}
use Rattle.std.specs.List.{filter, flat_map, range_with_len}
use Rattle.std.proofs.lemmas.Bool.{ne_eqb}
use Rattle.std.proofs.lemmas.Grind.{flat_map-append}
use Rattle.std.proofs.lemmas.List.{drop_more, take_all}
use Rattle.std.proofs.Math.Seq.{take-append_seam}
use Rattle.vw_net.specs.declared.flat.Flat.{Flat}
use Rattle.vw_net.specs.Cells.{start_values}
use Rattle.vw_net.specs.History.{History, flat_history, next_state, state_after, states_of}
use Rattle.vw_net.proofs.Counts.{length-states_of}
use Rattle.vw_net.proofs.Histories.{state_after-append}
use Rattle.vw_trace.specs.Triggers.{shown_history}
use Rattle.vw_resume.specs.Saved.{counted_from_start, saved_text, kept_texts}
use Rattle.vw_resume.specs.States.{state_text}
use Rattle.vw_resume.specs.Steps.Kept.{kept_text, kept_before, kept_from}

-- ---- batch by batch

-- the states before some clocks, and then those before others
pub kept_before-append : (every clock : ℕ) (states more : List (List Bool)) → kept_before every clock (states ++ more) ≡ kept_before every clock states ++ kept_before every (clock + length states) more
kept_before-append every clock [] more = ap (λ (n : ℕ). kept_before every n more) (let e : clock ≡ clock + 0 = omega arith in e)
kept_before-append every clock (state ∷ states) more =
    let count : clock + 1 + length states ≡ clock + length (state ∷ states) = omega arith in
    ap (λ (t : List ℕ). kept_text every clock state ++ t) (kept_before-append every (clock + 1) states more ∙ ap (λ (n : ℕ). kept_before every (clock + 1) states ++ kept_before every n more) count)
    ∙ sym (append_assoc (kept_text every clock state) (kept_before every (clock + 1) states) (kept_before every (clock + length (state ∷ states)) more))

-- what is kept of a history, behind the clocks of a batch
pub kept_further : (every clock count : ℕ) (states : List (List Bool)) (more : History) (text : List ℕ) → count ≡ length states → text ≡ kept_before every clock states
    → kept_before every clock (states ++ more.states) ++ state_text (clock + length (states ++ more.states)) more.last ≡ text ++ kept_from every (clock + count) more
kept_further every clock count states more text counted is =
    let all : clock + length (states ++ more.states) ≡ clock + length states + length more.states = omega (arith, length-append states more.states) in
    let written = kept_before every clock states in
    let later = kept_before every (clock + length states) more.states in
    ap₂ (λ (t : List ℕ) (n : ℕ). t ++ state_text n more.last) (kept_before-append every clock states more.states) all
    ∙ append_assoc written later (state_text (clock + length states + length more.states) more.last)
    ∙ ap₂ (λ (t : List ℕ) (n : ℕ). t ++ kept_from every (clock + n) more) (sym is) (sym counted)

-- one state more
pub state_further : (every first i clock : ℕ) (states : List (List Bool)) (state : List Bool) (text new : List ℕ) → i < length states → state ≡ get_or states i state
    → clock ≡ first + i → new ≡ text ++ kept_text every clock state → text ++ kept_before every (first + i) (drop i states) ≡ kept_before every first states
    → new ++ kept_before every (first + (i + 1)) (drop (i + 1) states) ≡ kept_before every first states
state_further every first i clock states state text new inside is_state is more old =
    let next : first + (i + 1) ≡ first + i + 1 = omega arith in
    let left = drop_more states i state inside ∙ ap (λ (s : List Bool). s ∷ drop (i + 1) states) (sym is_state) in
    let rest = kept_before every (first + i + 1) (drop (i + 1) states) in
    ap (λ (n : ℕ). new ++ kept_before every n (drop (i + 1) states)) next
    ∙ ap (λ (t : List ℕ). t ++ rest) (more ∙ ap (λ (n : ℕ). text ++ kept_text every n state) is) ∙ append_assoc text (kept_text every (first + i) state) rest
    ∙ ap (λ (ss : List (List Bool)). text ++ kept_before every (first + i) ss) (sym left) ∙ old

-- ---- of a netlist

module _ (every : ℕ) (unknown : Bool) (flat : Flat) (all : List (List Bool)) where
  abbrev start : List Bool
  start = start_values unknown flat.cells

  abbrev text : ℕ → List ℕ
  text clock = saved_text unknown flat (take clock all)

  abbrev is_multiple : ℕ → Bool
  is_multiple clock = clock % every == 0

  -- a state that is kept, or isn't, and the texts behind it
  one_kept : (clock : ℕ) (state : List Bool) (rest : List ℕ) (clocks : List ℕ) → (clock == 0) ≡ false → text clock ≡ state_text clock state → rest ≡ flat_map text (filter is_multiple clocks)
      → kept_text every clock state ++ rest ≡ flat_map text (filter is_multiple (clock ∷ clocks))
  one_kept clock state rest clocks later is same = rw later (by (is_multiple clock)) where
    by : (kept : Bool) → (if kept then state_text clock state else []) ++ rest ≡ flat_map text (if kept then clock ∷ filter is_multiple clocks else filter is_multiple clocks)
    by true = ap₂ (λ (one more : List ℕ). one ++ more) (sym is) same
    by false = same

  -- behind the first rows, the states before the clocks of the others
  kept_behind : (front rows : List (List Bool)) → all ≡ front ++ rows → 0 < length front
      → kept_before every (length front) (states_of flat (state_after flat start front) rows) ≡ flat_map text (filter is_multiple (range_with_len (length front) (length rows)))
  kept_behind front [] is some = refl
  kept_behind front (row ∷ rows) is some =
      let state = state_after flat start front in
      let more : length (front ++ row ∷ []) ≡ length front + 1 = length-append front (row ∷ []) in
      let next : state_after flat start (front ++ row ∷ []) ≡ next_state flat row state = state_after-append flat start front (row ∷ []) in
      let here : take (length front) all ≡ front = ap (take (length front)) is ∙ take-append_seam front (row ∷ rows) in
      let its : text (length front) ≡ state_text (length front) state = ap (λ (rows : List (List Bool)). saved_text unknown flat rows) here in
      let rest = kept_behind (front ++ row ∷ []) rows (is ∙ sym (append_assoc front (row ∷ []) rows)) (omega (arith, more)) in
      one_kept (length front) state (kept_before every (length front + 1) (states_of flat (next_state flat row state) rows)) (range_with_len (length front + 1) (length rows))
      (ne_eqb (length front) 0 (λ none. omega (arith, none, some))) its
      (ap₂ (λ (n : ℕ) (bits : List Bool). kept_before every n (states_of flat bits rows)) (sym more) (sym next) ∙ rest ∙ ap (λ (n : ℕ). flat_map text (filter is_multiple (range_with_len n (length rows)))) more)

  abbrev early : List (List Bool) → List ℕ
  early rows = flat_map text (filter is_multiple (range_with_len 1 (length rows - 1)))

  -- from the start
  kept_before_all : (rows : List (List Bool)) → all ≡ rows → kept_before every 0 (states_of flat start rows) ≡ early rows
  kept_before_all [] is = refl
  kept_before_all (row ∷ rows) is =
      let count : length rows ≡ length (row ∷ rows) - 1 = omega arith in
      kept_behind (row ∷ []) rows is (omega arith) ∙ ap (λ (n : ℕ). flat_map text (filter is_multiple (range_with_len 1 n))) count

  -- what is left at the start is the texts of all that is kept
  pub kept_is : kept_from every 0 (flat_history flat start all) ≡ kept_texts every (saved_text unknown flat) all
  kept_is =
      let states = states_of flat start all in
      let count : 0 + length states ≡ length all = omega (arith, length-states_of flat start all) in
      let last : state_text (0 + length states) (state_after flat start all) ≡ flat_map text (length all ∷ []) =
      ap (λ (n : ℕ). state_text n (state_after flat start all)) count ∙ ap (λ (rows : List (List Bool)). saved_text unknown flat rows) (sym (take_all (length all) all (omega arith))) ∙ sym (append-nil (text (length all))) in
      ap₂ (λ (one other : List ℕ). one ++ other) (kept_before_all all refl) last ∙ sym (flat_map-append text (filter is_multiple (range_with_len 1 (length all - 1))) (length all ∷ []))

-- with a trigger, too: it isn't among the states
pub kept_shown : (until : Bool) (every : ℕ) (unknown : Bool) (flat : Flat) (rows : List (List Bool)) → let start = start_values unknown flat.cells in
    kept_from every 0 (shown_history until flat start rows) ≡ kept_texts every (saved_text unknown flat) (counted_from_start until unknown flat rows)
kept_shown false every unknown flat rows = kept_is every unknown flat rows
kept_shown true every unknown flat rows = kept_is every unknown flat (counted_from_start true unknown flat rows)
