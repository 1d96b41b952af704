-- Batches of clocks whose last output is a trigger.
use Rattle.std.proofs.Common.{◌≡◌, ◌≤◌, ◌+◌, ◌⊎◌, ℕ, suc, Bool, true, false, true≢false, List, [], ◌∷◌, ◌++◌, length, take, map, inl, inr, refl, sym, ◌∙◌, ap, ap₂, arith, append-nil, if◌then◌else◌}
use Rattle.std.specs.Prelude.{slice_index_or}
use Rattle.std.proofs.lemmas.List.{length-map, take_all, take_at}
use Rattle.vw_net.specs.declared.flat.Flat.{Flat}
use Rattle.vw_net.specs.History.{History, flat_history, next_state, outputs_at, outputs_of, state_after, states_of}
use Rattle.vw_net.proofs.Counts.{length-outputs_of, length-states_of}
use Rattle.vw_net.proofs.Histories.{flat_history-append, outputs_of-append}
use Rattle.vw_trace.specs.declared.engine.Batch.{Batch}
use Rattle.vw_trace.specs.Recorded.{clocks_before}
use Rattle.vw_trace.specs.Batches.{ends_in, shown_before}
use Rattle.vw_trace.specs.Triggers.{but_last, clocks_until, counted, fires, in_batches, last_is_1, shown, shown_count, shown_history, worked}

-- a test, and what comes of it
by_test : (test : Bool) (P : Type 0) → (test ≡ true → P) → (test ≡ false → P) → P
by_test true P holding failing = holding refl
by_test false P holding failing = failing refl

-- ---- how many clocks count

-- where the trigger isn't 1 in a clock, those behind it are counted on, and where it is, none is
pub counted_on : (outputs : List Bool) (more : List (List Bool)) → last_is_1 outputs ≡ false → clocks_until (outputs ∷ more) ≡ suc (clocks_until more)
counted_on outputs more none = ap (λ (b : Bool). if b then 1 else suc (clocks_until more)) none

pub counted_here : (outputs : List Bool) (more : List (List Bool)) → last_is_1 outputs ≡ true → clocks_until (outputs ∷ more) ≡ 1
counted_here outputs more is = ap (λ (b : Bool). if b then 1 else suc (clocks_until more)) is

pub fires_on : (outputs : List Bool) (more : List (List Bool)) → last_is_1 outputs ≡ false → fires (outputs ∷ more) ≡ fires more
fires_on outputs more none = ap (λ (b : Bool). if b then true else fires more) none

pub fires_here : (outputs : List Bool) (more : List (List Bool)) → last_is_1 outputs ≡ true → fires (outputs ∷ more) ≡ true
fires_here outputs more is = ap (λ (b : Bool). if b then true else fires more) is

-- where the trigger is 1 in none of the first clocks, those behind them are counted on
pub until_later : (first more : List (List Bool)) → fires first ≡ false → clocks_until (first ++ more) ≡ length first + clocks_until more
until_later [] more none = omega arith
until_later (outputs ∷ first) more none = by_test (last_is_1 outputs) (clocks_until ((outputs ∷ first) ++ more) ≡ length (outputs ∷ first) + clocks_until more)
    (λ is. absurd (true≢false (sym (fires_here outputs first is) ∙ none)))
    (λ is. omega (arith, counted_on outputs (first ++ more) is, until_later first more (sym (fires_on outputs first is) ∙ none)))

-- where it is 1 in one of them, it counts alone
pub until_within : (first more : List (List Bool)) → fires first ≡ true → clocks_until (first ++ more) ≡ clocks_until first
until_within [] more fired = absurd (true≢false (sym fired))
until_within (outputs ∷ first) more fired = by_test (last_is_1 outputs) (clocks_until ((outputs ∷ first) ++ more) ≡ clocks_until (outputs ∷ first))
    (λ is. counted_here outputs (first ++ more) is ∙ sym (counted_here outputs first is))
    (λ is. counted_on outputs (first ++ more) is ∙ ap suc (until_within first more (sym (fires_on outputs first is) ∙ fired)) ∙ sym (counted_on outputs first is))

-- there are no more than there are, and at least one of some
pub until_few : (outputs : List (List Bool)) → clocks_until outputs ≤ length outputs
until_few [] = omega arith
until_few (outputs ∷ more) = by_test (last_is_1 outputs) (clocks_until (outputs ∷ more) ≤ length (outputs ∷ more))
    (λ is. omega (arith, counted_here outputs more is)) (λ is. omega (arith, counted_on outputs more is, until_few more))

pub until_some : (outputs : List Bool) (more : List (List Bool)) → 1 ≤ clocks_until (outputs ∷ more)
until_some outputs more = by_test (last_is_1 outputs) (1 ≤ clocks_until (outputs ∷ more))
    (λ is. omega (arith, counted_here outputs more is)) (λ is. omega (arith, counted_on outputs more is))

-- ---- what is worked out

few_in_batch : (clocks : ℕ) → clocks ≤ in_batches clocks
few_in_batch clocks = omega arith

one_in_batch : (clocks : ℕ) → 1 ≤ clocks → clocks ≤ 256 → in_batches clocks ≡ 256
one_in_batch clocks some few = omega (arith, some, few)

some_in_batch : (clocks : ℕ) → 1 ≤ clocks → 256 ≤ in_batches clocks
some_in_batch clocks some = omega (arith, some)

next_in_batch : (clocks : ℕ) → in_batches (256 + clocks) ≡ 256 + in_batches clocks
next_in_batch clocks = omega arith

-- a front of two lists
take_past : {X : Type 0} (first more : List X) (count : ℕ) → take (length first + count) (first ++ more) ≡ first ++ take count more
take_past [] more count = let on : 0 + count ≡ count = omega arith in ap (λ (n : ℕ). take n more) on
take_past (x ∷ first) more count =
    let on : suc (length first) + count ≡ suc (length first + count) = omega arith in
    ap (λ (n : ℕ). take n (x ∷ (first ++ more))) on ∙ ap (λ (list : List _). x ∷ list) (take_past first more count)

module _ (flat : Flat) (state : List Bool) where
  -- rows that fit into a batch
  pub one_batch : (until : Bool) (next : List (List Bool)) → length next ≤ 256 → worked until flat state next ≡ next
  one_batch false next few = refl
  one_batch true [] few = take_all (in_batches 0) [] (omega arith)
  one_batch true (row ∷ next) few =
      let outputs = outputs_of flat (next_state flat row state) next in
      take_all (in_batches (clocks_until (outputs_at flat row state ∷ outputs))) (row ∷ next)
      (omega (arith, few, some_in_batch (clocks_until (outputs_at flat row state ∷ outputs)) (until_some (outputs_at flat row state) outputs)))

module _ (flat : Flat) (state : List Bool) (next more : List (List Bool)) where
  abbrev its : List (List Bool)
  its = outputs_of flat state next

  abbrev there : List Bool
  there = state_after flat state next

  all_outputs : outputs_of flat state (next ++ more) ≡ its ++ outputs_of flat there more
  all_outputs = outputs_of-append flat state next more

  -- a whole batch in which nothing ends
  pub full_batch : (until : Bool) → length next ≡ 256 → ends_in until its ≡ false → worked until flat state (next ++ more) ≡ next ++ worked until flat there more
  full_batch false full none = refl
  full_batch true full none =
      let later = clocks_until (outputs_of flat there more) in
      let count : clocks_until (its ++ outputs_of flat there more) ≡ 256 + later =
      until_later its (outputs_of flat there more) none ∙ ap (λ (n : ℕ). n + later) (length-outputs_of flat state next ∙ full) in
      let clocks : in_batches (clocks_until (outputs_of flat state (next ++ more))) ≡ length next + in_batches later =
      ap (λ (list : List (List Bool)). in_batches (clocks_until list)) all_outputs ∙ ap in_batches count ∙ next_in_batch later ∙ ap (λ (n : ℕ). n + in_batches later) (sym full) in
      ap (λ (n : ℕ). take n (next ++ more)) clocks ∙ take_past next more (in_batches later)

  -- one in which all ends, behind which the rows end, too, or which is whole
  pub last_batch : (until : Bool) → length next ≤ 256 → (length next ≡ 256) ⊎ (more ≡ []) → ends_in until its ≡ true → worked until flat state (next ++ more) ≡ next
  last_batch false few whole ends = absurd (true≢false (sym ends))
  last_batch true few whole ends =
      let count = clocks_until its in
      let within : count ≤ 256 = omega (arith, few, until_few its, length-outputs_of flat state next) in
      let clocks : in_batches (clocks_until (outputs_of flat state (next ++ more))) ≡ 256 =
      ap (λ (list : List (List Bool)). in_batches (clocks_until list)) all_outputs ∙ ap in_batches (until_within its (outputs_of flat there more) ends)
      ∙ one_in_batch count (some its ends) within in
      ap (λ (n : ℕ). take n (next ++ more)) clocks ∙ by whole where
        some : (outputs : List (List Bool)) → fires outputs ≡ true → 1 ≤ clocks_until outputs
        some [] fired = absurd (true≢false (sym fired))
        some (one ∷ outputs) fired = until_some one outputs

        by : (length next ≡ 256) ⊎ (more ≡ []) → take 256 (next ++ more) ≡ next
        by (inl full) = take_at next more 256 full
        by (inr none) = ap (λ (list : List (List Bool)). take 256 (next ++ list)) none ∙ ap (take 256) (append-nil next) ∙ take_all 256 next few

-- ---- what is shown

-- a clock in front of others
abbrev with_clock : List Bool → List Bool → History → History
with_clock outputs state history = record { outputs = outputs ∷ history.outputs; states = state ∷ history.states; last = history.last }

-- what is shown of a batch with a trigger, and then of more
abbrev shown_with : List (List Bool) → List (List Bool) → List Bool → History → History
shown_with outputs states last more = if fires outputs then record {
  outputs = map but_last (take (clocks_until outputs) outputs);
  states = take (clocks_until outputs) states;
  last = slice_index_or states (clocks_until outputs) last;
} else clocks_before (map but_last outputs) states more

with_first : (first state : List Bool) (outputs states : List (List Bool)) (last : List Bool) (more : History) → last_is_1 first ≡ false
    → shown_with (first ∷ outputs) (state ∷ states) last more ≡ with_clock (but_last first) state (shown_with outputs states last more)
with_first first state outputs states last more none = ap (λ (b : Bool). whole b (fires outputs)) none ∙ by (fires outputs) where
  whole : Bool → Bool → History
  whole b fired =
      let clocks = if b then 1 else suc (clocks_until outputs) in
      if (if b then true else fired) then record {
        outputs = map but_last (take clocks (first ∷ outputs));
        states = take clocks (state ∷ states);
        last = slice_index_or (state ∷ states) clocks last;
      } else clocks_before (map but_last (first ∷ outputs)) (state ∷ states) more

  by : (fired : Bool) → whole false fired ≡ with_clock (but_last first) state (if fired then record {
    outputs = map but_last (take (clocks_until outputs) outputs);
    states = take (clocks_until outputs) states;
    last = slice_index_or states (clocks_until outputs) last;
  } else clocks_before (map but_last outputs) states more)
  by true = refl
  by false = refl

-- the state before the first of some clocks, or behind none
first_state : (flat : Flat) (state : List Bool) (rows : List (List Bool)) → slice_index_or (states_of flat state rows) 0 (state_after flat state rows) ≡ state
first_state flat state [] = refl
first_state flat state (row ∷ rows) = refl

shown_after : (flat : Flat) (state : List Bool) (next more : List (List Bool))
    → shown_history true flat state (next ++ more) ≡ shown_with (outputs_of flat state next) (states_of flat state next) (state_after flat state next) (shown_history true flat (state_after flat state next) more)
shown_after flat state [] more = refl
shown_after flat state (row ∷ next) more = by_test (last_is_1 here) (left (last_is_1 here) ≡ right)
    (λ is. ap left is ∙ ap (λ (last : List Bool). record { outputs = but_last here ∷ []; states = state ∷ []; last = last }) (sym (first_state flat there next)) ∙ sym (ap ended is))
    (λ none. ap left none ∙ ap (with_clock (but_last here) state) (shown_after flat there next more)
    ∙ sym (with_first here state (outputs_of flat there next) (states_of flat there next) (state_after flat there next) rest none)) where
      here : List Bool
      here = outputs_at flat row state

      there : List Bool
      there = next_state flat row state

      rest : History
      rest = shown_history true flat (state_after flat there next) more

      left : Bool → History
      left b = shown true (flat_history flat state (take (if b then 1 else suc (clocks_until (outputs_of flat there (next ++ more)))) (row ∷ (next ++ more))))

      ended : Bool → History
      ended b =
          let clocks = if b then 1 else suc (clocks_until (outputs_of flat there next)) in
          if (if b then true else fires (outputs_of flat there next)) then record {
            outputs = map but_last (take clocks (here ∷ outputs_of flat there next));
            states = take clocks (state ∷ states_of flat there next);
            last = slice_index_or (state ∷ states_of flat there next) clocks (state_after flat there next);
          } else clocks_before (map but_last (here ∷ outputs_of flat there next)) (state ∷ states_of flat there next) rest

      right : History
      right = shown_with (here ∷ outputs_of flat there next) (state ∷ states_of flat there next) (state_after flat there next) rest

-- what is shown of a batch that was worked out, and then of the rows behind it
pub shown_next : (until : Bool) (flat : Flat) (state : List Bool) (next more : List (List Bool)) (batch : Batch) → batch.outputs ≡ outputs_of flat state next → batch.states ≡ states_of flat state next
    → shown_history until flat state (next ++ more) ≡ shown_before until batch (state_after flat state next) (shown_history until flat (state_after flat state next) more)
shown_next false flat state next more batch outputs states =
    flat_history-append flat state next more ∙ sym (ap₂ (λ (os ss : List (List Bool)). clocks_before os ss (flat_history flat (state_after flat state next) more)) outputs states)
shown_next true flat state next more batch outputs states =
    shown_after flat state next more
    ∙ sym (ap₂ (λ (os ss : List (List Bool)). shown_with os ss (state_after flat state next) (shown_history true flat (state_after flat state next) more)) outputs states)

-- no row
pub shown_none : (until : Bool) (flat : Flat) (state : List Bool) → shown_history until flat state [] ≡ record { outputs = []; states = []; last = state }
shown_none false flat state = refl
shown_none true flat state = refl

-- as many outputs as states, and no more outputs than there are
pub shown_even : (until : Bool) (flat : Flat) (state : List Bool) (rows : List (List Bool)) → length (shown_history until flat state rows).outputs ≡ length (shown_history until flat state rows).states
shown_even false flat state rows = length-outputs_of flat state rows ∙ sym (length-states_of flat state rows)
shown_even true flat state rows =
    let these = counted true flat state rows in
    length-map (outputs_of flat state these) but_last ∙ length-outputs_of flat state these ∙ sym (length-states_of flat state these)

pub shown_few : (until : Bool) (count : ℕ) → shown_count until count ≤ count
shown_few false count = omega arith
shown_few true count = omega arith
