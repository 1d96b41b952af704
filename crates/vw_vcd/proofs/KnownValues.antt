-- The values of all signals at each time, and that each value behind the first clock is a change: for any identifiers of which
-- no two below 2 ^ 32 are one.
use Rattle.std.proofs.Common.{◌≡◌, ◌<◌, ◌≤◌, ◌+◌, ◌++◌, ◌^◌, ◌∙◌, ℕ, zero, suc, Bool, true, false, List, [], ◌∷◌, length, map, slice_get, replicate, Option, Some, None, ap, ap₂, refl, sym, subst, append-nil, append_assoc, true≢false, arith}
use Rattle.std.specs.List.{AllByRecursion, range_with_len}
use Rattle.std.specs.Option.{option_or}
use Rattle.vw_vcd.specs.Changes.{of_each, of_changed}
use Rattle.vw_vcd.specs.Replay.{GivenValue, last_given, AreChanges}
use Rattle.vw_vcd.proofs.LastGiven.{given_in, last_append, one_other, other_id, each_later, changed_later, each_now, changed_now}
use Rattle.vw_vcd.proofs.GivenInWaves.{clock_given, clocks_given}

-- at every time from this one on, the value given last to each signal is its bit, and to what is no signal none was given
abbrev pub Knows : (ℕ → List ℕ) → List GivenValue → ℕ → List Bool → Type 0
Knows id given from bits = (time k : ℕ) → from ≤ time → k < 2 ^ 32 → last_given given time (id k) ≡ slice_get bits k

-- what is given behind changes is a change, too
changes_append : (given more rest : List GivenValue) → AreChanges given more → AreChanges (given ++ more) rest → AreChanges given (more ++ rest)
changes_append given [] rest are further = subst (λ (all : List GivenValue). AreChanges all rest) (append-nil given) further
changes_append given (one ∷ more) rest are further =
    (are.0, changes_append (given ++ one ∷ []) more rest are.1 (subst (λ (all : List GivenValue). AreChanges all rest) (sym (append_assoc given (one ∷ []) more)) further))

module _ (id : ℕ → List ℕ) (apart : (one other : ℕ) → one < 2 ^ 32 → other < 2 ^ 32 → id one ≡ id other → one ≡ other) where
  -- ---- what is known after a clock

  -- after the first clock, its values
  pub first_known : (clock : ℕ) (bits : List Bool) → length bits < 2 ^ 32 → Knows id (of_each (given_in id clock true) 0 bits) clock bits
  first_known clock bits few time k since small =
      let here : k ≡ 0 + k = omega arith in
      ap (λ (one : ℕ). last_given (of_each (given_in id clock true) 0 bits) time (id one)) here ∙ each_now id apart clock true time 0 k bits since (omega arith) (omega arith)

  -- after a later clock its values, where those before were known
  pub next_known : (given : List GivenValue) (from clock : ℕ) (before bits : List Bool) → from ≤ clock → length before ≡ length bits → length bits < 2 ^ 32
      → Knows id given from before → Knows id (given ++ of_changed (given_in id clock false) 0 before bits) clock bits
  next_known given from clock before bits order same few knows time k since small =
      let changes = of_changed (given_in id clock false) 0 before bits in
      let here : k ≡ 0 + k = omega arith in
      last_append given changes time (id k)
      ∙ ap₂ (λ (now was : Option Bool). option_or now was) (ap (λ (one : ℕ). last_given changes time (id one)) here) (knows time k (omega arith) small)
      ∙ changed_now id apart clock false time 0 k before bits since same (omega arith) (omega arith)

  -- ---- values

  -- nothing is given before its clock
  clock_later : (time : ℕ) (other : List ℕ) (clock : ℕ) (before : Option (List Bool)) (bits : List Bool) → time < clock → last_given (clock_given id clock before bits) time other ≡ None
  clock_later time other clock None bits later = each_later id apart clock true time other 0 bits later
  clock_later time other clock (Some before) bits later = changed_later id apart clock false time other 0 before bits later

  -- so it is with clocks
  clocks_later : (time : ℕ) (other : List ℕ) (clock : ℕ) (before : Option (List Bool)) (rows : List (List Bool)) → time < clock → last_given (clocks_given id clock before rows) time other ≡ None
  clocks_later time other clock before [] later = refl
  clocks_later time other clock before (bits ∷ rows) later =
      last_append (clock_given id clock before bits) (clocks_given id (clock + 1) (Some bits) rows) time other
      ∙ ap₂ (λ (now was : Option Bool). option_or now was) (clocks_later time other (clock + 1) (Some bits) rows (omega arith)) (clock_later time other clock before bits later)

  -- a row that is had value by value
  row_values : (value : List ℕ → Option Bool) (number : ℕ) (bits : List Bool) → ((k : ℕ) → k < length bits → value (id (number + k)) ≡ slice_get bits k)
      → map value (map id (range_with_len number (length bits))) ≡ map Some bits
  row_values value number [] each = refl
  row_values value number (bit ∷ bits) each =
      let here : number ≡ number + 0 = omega arith in
      ap₂ (λ (first : Option Bool) (rest : List (Option Bool)). first ∷ rest) (ap (λ (one : ℕ). value (id one)) here ∙ each 0 (omega arith))
      (row_values value (number + 1) bits (λ (k : ℕ) (below : k < length bits).
      let next : number + 1 + k ≡ number + suc k = omega arith in
      ap (λ (one : ℕ). value (id one)) next ∙ each (suc k) (omega arith)))

  -- the values in a clock, where what was given up to it is known
  row_now : (all given : List GivenValue) (clock : ℕ) (bits : List Bool) (rows : List (List Bool)) → length bits < 2 ^ 32 → Knows id given clock bits → all ≡ given ++ clocks_given id (clock + 1) (Some bits) rows
      → map (last_given all clock) (map id (range_with_len 0 (length bits))) ≡ map Some bits
  row_now all given clock bits rows few knows is =
      row_values (last_given all clock) 0 bits (λ (k : ℕ) (below : k < length bits).
      let here : 0 + k ≡ k = omega arith in
      ap₂ (λ (one : ℕ) (whole : List GivenValue). last_given whole clock (id one)) here is
      ∙ last_append given (clocks_given id (clock + 1) (Some bits) rows) clock (id k)
      ∙ ap₂ (λ (now was : Option Bool). option_or now was) (clocks_later clock (id k) (clock + 1) (Some bits) rows (omega arith)) (knows clock k (omega arith) (omega arith)))

  -- in all clocks behind what is known
  pub rows_now : (all given : List GivenValue) (signals from clock : ℕ) (before : List Bool) (rows : List (List Bool)) → from ≤ clock → signals < 2 ^ 32
      → length before ≡ signals → AllByRecursion (λ row. length row ≡ signals) rows → Knows id given from before → all ≡ given ++ clocks_given id clock (Some before) rows
      → map (λ time. map (last_given all time) (map id (range_with_len 0 signals))) (range_with_len clock (length rows)) ≡ map (map Some) rows
  rows_now all given signals from clock before [] order few wide are knows is = refl
  rows_now all given signals from clock before (bits ∷ rows) order few wide are knows is =
      let changes = of_changed (given_in id clock false) 0 before bits in
      let further = clocks_given id (clock + 1) (Some bits) rows in
      let width : length bits ≡ signals = are.0 in
      let known = next_known given from clock before bits order (wide ∙ sym width) (omega arith) knows in
      let parts = is ∙ sym (append_assoc given changes further) in
      ap₂ (λ (first : List (Option Bool)) (rest : List (List (Option Bool))). first ∷ rest)
      (ap (λ (many : ℕ). map (last_given all clock) (map id (range_with_len 0 many))) (sym width) ∙ row_now all (given ++ changes) clock bits rows (omega arith) known parts)
      (rows_now all (given ++ changes) signals clock (clock + 1) bits rows (omega arith) few width are.1 known parts)

  -- in all clocks of a wave
  clocks_now : (clock signals : ℕ) (rows : List (List Bool)) → signals < 2 ^ 32 → AllByRecursion (λ row. length row ≡ signals) rows
      → map (λ time. map (last_given (clocks_given id clock None rows) time) (map id (range_with_len 0 signals))) (range_with_len clock (length rows)) ≡ map (map Some) rows
  clocks_now clock signals [] few are = refl
  clocks_now clock signals (bits ∷ rows) few are =
      let all = clocks_given id clock None (bits ∷ rows) in
      let first = of_each (given_in id clock true) 0 bits in
      let width : length bits ≡ signals = are.0 in
      let known = first_known clock bits (omega arith) in
      ap₂ (λ (front : List (Option Bool)) (rest : List (List (Option Bool))). front ∷ rest)
      (ap (λ (many : ℕ). map (last_given all clock) (map id (range_with_len 0 many))) (sym width) ∙ row_now all first clock bits rows (omega arith) known refl)
      (rows_now all first signals clock (clock + 1) bits rows (omega arith) few width are.1 known refl)

  -- and before the first of them no signal has a value
  none_yet : (value : List ℕ → Option Bool) (number signals : ℕ) → ((other : List ℕ) → value other ≡ None) → map value (map id (range_with_len number signals)) ≡ replicate signals None
  none_yet value number zero none = refl
  none_yet value number (suc signals) none =
      ap₂ (λ (first : Option Bool) (rest : List (Option Bool)). first ∷ rest) (none (id number)) (none_yet value (number + 1) signals none)

  -- so at all times from one before them on
  all_values_from : (clock signals : ℕ) (rows : List (List Bool)) → signals < 2 ^ 32 → AllByRecursion (λ row. length row ≡ signals) rows → (from many : ℕ) → from + many ≡ clock
      → map (λ time. map (last_given (clocks_given id clock None rows) time) (map id (range_with_len 0 signals))) (range_with_len from (many + length rows)) ≡ replicate many (replicate signals None) ++ map (map Some) rows
  all_values_from clock signals rows few are from zero is =
      let none : zero + length rows ≡ length rows = omega arith in
      let here : from ≡ clock = omega (arith, is) in
      ap₂ (λ (start count : ℕ). map (λ time. map (last_given (clocks_given id clock None rows) time) (map id (range_with_len 0 signals))) (range_with_len start count)) here none
      ∙ clocks_now clock signals rows few are
  all_values_from clock signals rows few are from (suc many) is =
      let next : suc many + length rows ≡ suc (many + length rows) = omega arith in
      let before : from < clock = omega (arith, is) in
      ap (λ (count : ℕ). map (λ time. map (last_given (clocks_given id clock None rows) time) (map id (range_with_len 0 signals))) (range_with_len from count)) next
      ∙ ap₂ (λ (first : List (Option Bool)) (rest : List (List (Option Bool))). first ∷ rest)
      (none_yet (last_given (clocks_given id clock None rows) from) 0 signals (λ (other : List ℕ). clocks_later from other clock None rows before))
      (all_values_from clock signals rows few are (from + 1) many (omega (arith, is)))

  -- at all times
  pub all_values : (clock signals : ℕ) (rows : List (List Bool)) → signals < 2 ^ 32 → AllByRecursion (λ row. length row ≡ signals) rows
      → map (λ time. map (last_given (clocks_given id clock None rows) time) (map id (range_with_len 0 signals))) (range_with_len 0 (clock + length rows)) ≡ replicate clock (replicate signals None) ++ map (map Some) rows
  all_values clock signals rows few are = all_values_from clock signals rows few are 0 clock (omega arith)

  -- ---- changes

  -- all values of the first clock are in the first block
  first_changes : (given : List GivenValue) (clock number : ℕ) (bits : List Bool) → AreChanges given (of_each (given_in id clock true) number bits)
  first_changes given clock number [] = tt
  first_changes given clock number (bit ∷ bits) = (λ (first : true ≡ false). absurd (true≢false first), first_changes (given ++ given_in id clock true number bit ∷ []) clock (number + 1) bits)

  -- where the values before are known, the changed ones are changes
  changed_changes : (given : List GivenValue) (clock number : ℕ) (before bits : List Bool) → length before ≡ length bits → number + length bits ≤ 2 ^ 32
      → ((k : ℕ) → number + k < 2 ^ 32 → last_given given clock (id (number + k)) ≡ slice_get before k) → AreChanges given (of_changed (given_in id clock false) number before bits)
  changed_changes given clock number [] bits same few known = tt
  changed_changes given clock number (old ∷ before) [] same few known = tt
  changed_changes given clock number (old ∷ before) (bit ∷ bits) same few known =
      by old bit here (changed_changes given clock (number + 1) before bits (omega arith) (omega arith) later)
      (λ (is : Bool). changed_changes (given ++ given_in id clock false number is ∷ []) clock (number + 1) before bits (omega arith) (omega arith) (behind is)) where
        here : last_given given clock (id number) ≡ Some old
        here = let none : number ≡ number + 0 = omega arith in ap (λ (one : ℕ). last_given given clock (id one)) none ∙ known 0 (omega arith)

        later : (k : ℕ) → number + 1 + k < 2 ^ 32 → last_given given clock (id (number + 1 + k)) ≡ slice_get before k
        later k small = let next : number + 1 + k ≡ number + suc k = omega arith in ap (λ (one : ℕ). last_given given clock (id one)) next ∙ known (suc k) (omega arith)

        behind : (is : Bool) (k : ℕ) → number + 1 + k < 2 ^ 32 → last_given (given ++ given_in id clock false number is ∷ []) clock (id (number + 1 + k)) ≡ slice_get before k
        behind is k small =
            last_append given (given_in id clock false number is ∷ []) clock (id (number + 1 + k))
            ∙ ap₂ (λ (now was : Option Bool). option_or now was)
            (one_other clock clock (id number) (id (number + 1 + k)) is (λ (one_id : id number ≡ id (number + 1 + k)). other_id id apart clock false (number + 1 + k) number (omega arith) small (sym one_id)))
            (later k small)

        by : (was is : Bool) → last_given given clock (id number) ≡ Some was → AreChanges given (of_changed (given_in id clock false) (number + 1) before bits)
            → ((new : Bool) → AreChanges (given ++ given_in id clock false number new ∷ []) (of_changed (given_in id clock false) (number + 1) before bits))
            → AreChanges given (of_changed (given_in id clock false) number (was ∷ before) (is ∷ bits))
        by true true last passed taken = passed
        by false false last passed taken = passed
        by true false last passed taken = (λ (first : false ≡ false). last, taken false)
        by false true last passed taken = (λ (first : false ≡ false). last, taken true)

  -- behind values that are known, whatever clocks give are changes
  pub rows_change : (given : List GivenValue) (signals from clock : ℕ) (before : List Bool) (rows : List (List Bool)) → from ≤ clock → signals < 2 ^ 32
      → length before ≡ signals → AllByRecursion (λ row. length row ≡ signals) rows → Knows id given from before → AreChanges given (clocks_given id clock (Some before) rows)
  rows_change given signals from clock before [] order few wide are knows = tt
  rows_change given signals from clock before (bits ∷ rows) order few wide are knows =
      let changes = of_changed (given_in id clock false) 0 before bits in
      let further = clocks_given id (clock + 1) (Some bits) rows in
      let width : length bits ≡ signals = are.0 in
      let known = next_known given from clock before bits order (wide ∙ sym width) (omega arith) knows in
      let now = changed_changes given clock 0 before bits (wide ∙ sym width) (omega arith) (λ (k : ℕ) (small : 0 + k < 2 ^ 32).
      let here : 0 + k ≡ k = omega arith in
      ap (λ (one : ℕ). last_given given clock (id one)) here ∙ knows clock k order (omega arith)) in
      changes_append given changes further now (rows_change (given ++ changes) signals clock (clock + 1) bits rows (omega arith) few width are.1 known)

  -- in a whole wave
  pub all_change : (clock signals : ℕ) (rows : List (List Bool)) → signals < 2 ^ 32 → AllByRecursion (λ row. length row ≡ signals) rows → AreChanges [] (clocks_given id clock None rows)
  all_change clock signals [] few are = tt
  all_change clock signals (bits ∷ rows) few are =
      let first = of_each (given_in id clock true) 0 bits in
      let width : length bits ≡ signals = are.0 in
      changes_append [] first (clocks_given id (clock + 1) (Some bits) rows) (first_changes [] clock 0 bits)
      (rows_change first signals clock (clock + 1) bits rows (omega arith) few width are.1 (first_known clock bits (omega arith)))
