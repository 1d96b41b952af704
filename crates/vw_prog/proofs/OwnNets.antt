-- The nets of a node: what is due at it has a place among those that its code knows.
use Rattle.std.proofs.Common.{◌≡◌, ◌<◌, ◌≤◌, ◌+◌, ◌-◌, ◌&&◌, ◌||◌, ◌∷◌, ◌++◌, ◌^◌, ◌⊎◌, ℕ, zero, suc, min, Bool, true, false, not, List, [], length, map, take, cond, eqb, nat_lt, slice_get, slice_index, Option, Some, None, if◌then◌else◌, ap, refl, sym, ◌∙◌, ⊎_elim, true≢false, eqb-true, eq-eqb, arith}
use Rattle.std.specs.List.{AllByRecursion, filter, list_any, range_with_len}
use Rattle.std.proofs.lemmas.Bool.{and_from, and_parts, cases_eq, ltb-false, ltb-true, or_cases, or_left, or_right}
use Rattle.std.proofs.lemmas.List.Folds.{list_any-append}
use Rattle.std.proofs.lemmas.Option.{slice_get_within}
use Rattle.vw_net.specs.declared.cell.Cell.{Cell}
use Rattle.vw_net.specs.declared.flat.Flat.{Flat}
use Rattle.vw_net.specs.Order.{is_among, is_latch}
use Rattle.vw_plan.specs.Nets.{driving_cell}
use Rattle.vw_plan.specs.PlannedBoard.{PlannedBoard, home}
use Rattle.vw_plan.specs.Sound.{IsSound}
use Rattle.vw_prog.specs.declared.action.Action.{Action}
use Rattle.vw_prog.specs.declared.action.Action.TheVariants as action
use Rattle.vw_prog.specs.declared.entry.Entry.{Entry}
use Rattle.vw_prog.specs.declared.owners.OwnLatch.{OwnLatch}
use Rattle.vw_prog.specs.Actions.{action_of, actions}
use Rattle.vw_prog.specs.Coding.{gate_nets, known_nets, own_latch, take_nets}
use Rattle.vw_prog.specs.Due.{settles_net, is_due, is_source, own_latches}
use Rattle.vw_prog.specs.Timetable.{entries_at, is_evaluating, is_sending, timetable}
use Rattle.vw_prog.proofs.EntryParts.{HasParts, entry_has}

-- ---- lists

pub all_from : {X : Type 0} (P : X → Type 0) (xs : List X) → ((place : ℕ) (x : X) → slice_get xs place ≡ Some x → P x) → AllByRecursion P xs
all_from P [] all = tt
all_from P (x ∷ xs) all = (all 0 x refl, all_from P xs (λ place other is. all (suc place) other is))

pub map_twice : {A B C : Type 0} (g : B → C) (f : A → B) (xs : List A) → map g (map f xs) ≡ map (λ x. g (f x)) xs
map_twice g f [] = refl
map_twice g f (x ∷ xs) = ap (λ (rest : List _). g (f x) ∷ rest) (map_twice g f xs)

among_range : (count first net : ℕ) → first ≤ net → net < first + count → is_among (range_with_len first count) net ≡ true
among_range zero first net from to = absurd (omega (arith, from, to))
among_range (suc count) first net from to =
    ⊎_elim (λ (same : first ≡ net). or_left (eqb first net) (is_among (range_with_len (first + 1) count) net) (eq-eqb first net same))
    (λ (apart : first ≡ net → ⊥). or_right (eqb first net) (is_among (range_with_len (first + 1) count) net) (among_range count (first + 1) net (omega (arith, from, apart)) (omega (arith, to)))) (cases_eq first net)

among_passing : (test : ℕ → Bool) (count first net : ℕ) → first ≤ net → net < first + count → test net ≡ true
    → is_among (filter test (range_with_len first count)) net ≡ true
among_passing test zero first net from to passes = absurd (omega (arith, from, to))
among_passing test (suc count) first net from to passes =
    let more = filter test (range_with_len (first + 1) count) in
    ⊎_elim (λ (same : first ≡ net).
    let kept : test first ≡ true = ap test same ∙ passes in
    ap (λ (keep : Bool). is_among (cond keep (first ∷ more) more) net) kept ∙ or_left (eqb first net) (is_among more net) (eq-eqb first net same))
    (λ (apart : first ≡ net → ⊥). by (test first) (among_passing test count (first + 1) net (omega (arith, from, apart)) (omega (arith, to)) passes)) (cases_eq first net) where
      by : (keep : Bool) → is_among (filter test (range_with_len (first + 1) count)) net ≡ true
          → is_among (cond keep (first ∷ filter test (range_with_len (first + 1) count)) (filter test (range_with_len (first + 1) count))) net ≡ true
      by false there = there
      by true there = or_right (eqb first net) (is_among (filter test (range_with_len (first + 1) count)) net) there

-- ---- what the actions give

module _ (planned : PlannedBoard) (sound : IsSound planned) (node : ℕ) where
  abbrev flat : Flat
  flat = planned.ordered.flat

  abbrev inputs : ℕ
  inputs = flat.inputs

  abbrev count : ℕ
  count = inputs + length flat.cells

  abbrev own_entries : List Entry
  own_entries = entries_at node (timetable planned)

  abbrev program : List Action
  program = actions planned node

  abbrev own : List ℕ
  own = own_latches planned node

  -- an entry that settles_net a net has an action that does
  given : (entries : List Entry) → AllByRecursion (HasParts planned sound) entries → (net : ℕ) → list_any (settles_net net) entries ≡ true
      → (is_among (gate_nets inputs (map (action_of inputs) entries ++ action.Step ∷ [])) net || is_among (take_nets (map (action_of inputs) entries ++ action.Step ∷ [])) net) ≡ true
  given [] all net any = absurd (true≢false (sym any))
  given (entry ∷ entries) all net any =
      let rest = λ (later : list_any (settles_net net) entries ≡ true). given entries all.1 net later in
      by (is_evaluating entry) (is_sending entry) refl refl (or_cases (settles_net net entry) (list_any (settles_net net) entries) any) rest where
        abbrev_rest : List Action
        abbrev_rest = map (action_of inputs) entries ++ action.Step ∷ []

        same_net : settles_net net entry ≡ true → entry.net ≡ net
        same_net is = eqb-true entry.net net (and_parts (not (is_sending entry)) (eqb entry.net net) is).1

        number : is_evaluating entry ≡ true → min (inputs + (entry.net - inputs)) (2 ^ 32 - 1) ≡ entry.net
        number is =
            let its = all.0.gate is in
            let low : entry.net < count = all.0.net in
            omega (arith, its.1.0, low, flat.few_inputs, flat.few_cells)

        by : (first second : Bool) → is_evaluating entry ≡ first → is_sending entry ≡ second
            → (settles_net net entry ≡ true) ⊎ (list_any (settles_net net) entries ≡ true)
            → (list_any (settles_net net) entries ≡ true → (is_among (gate_nets inputs abbrev_rest) net || is_among (take_nets abbrev_rest) net) ≡ true)
            → (is_among (gate_nets inputs ((if first then action.Evaluate (entry.net - inputs) else (if second then action.Send entry.link entry.place entry.net else action.Take entry.link entry.place entry.net)) ∷ abbrev_rest)) net
            || is_among (take_nets ((if first then action.Evaluate (entry.net - inputs) else (if second then action.Send entry.link entry.place entry.net else action.Take entry.link entry.place entry.net)) ∷ abbrev_rest)) net) ≡ true
        by true second first_is second_is why rest =
            ⊎_elim (λ (here : settles_net net entry ≡ true).
            or_left (eqb (min (inputs + (entry.net - inputs)) (2 ^ 32 - 1)) net || is_among (gate_nets inputs abbrev_rest) net) (is_among (take_nets abbrev_rest) net)
            (or_left (eqb (min (inputs + (entry.net - inputs)) (2 ^ 32 - 1)) net) (is_among (gate_nets inputs abbrev_rest) net) (eq-eqb (min (inputs + (entry.net - inputs)) (2 ^ 32 - 1)) net (number first_is ∙ same_net here))))
            (λ (later : list_any (settles_net net) entries ≡ true).
            ⊎_elim (λ (one : is_among (gate_nets inputs abbrev_rest) net ≡ true).
            or_left (eqb (min (inputs + (entry.net - inputs)) (2 ^ 32 - 1)) net || is_among (gate_nets inputs abbrev_rest) net) (is_among (take_nets abbrev_rest) net) (or_right (eqb (min (inputs + (entry.net - inputs)) (2 ^ 32 - 1)) net) (is_among (gate_nets inputs abbrev_rest) net) one))
            (λ (two : is_among (take_nets abbrev_rest) net ≡ true). or_right (eqb (min (inputs + (entry.net - inputs)) (2 ^ 32 - 1)) net || is_among (gate_nets inputs abbrev_rest) net) (is_among (take_nets abbrev_rest) net) two)
            (or_cases (is_among (gate_nets inputs abbrev_rest) net) (is_among (take_nets abbrev_rest) net) (rest later))) why
        by false true first_is second_is why rest =
            ⊎_elim (λ (here : settles_net net entry ≡ true). absurd (true≢false (sym (and_parts (not (is_sending entry)) (eqb entry.net net) here).0 ∙ ap not second_is))) rest why
        by false false first_is second_is why rest =
            ⊎_elim (λ (here : settles_net net entry ≡ true). or_right (is_among (gate_nets inputs abbrev_rest) net) (eqb entry.net net || is_among (take_nets abbrev_rest) net) (or_left (eqb entry.net net) (is_among (take_nets abbrev_rest) net) (eq-eqb entry.net net (same_net here))))
            (λ (later : list_any (settles_net net) entries ≡ true).
            ⊎_elim (λ (one : is_among (gate_nets inputs abbrev_rest) net ≡ true). or_left (is_among (gate_nets inputs abbrev_rest) net) (eqb entry.net net || is_among (take_nets abbrev_rest) net) one)
            (λ (two : is_among (take_nets abbrev_rest) net ≡ true). or_right (is_among (gate_nets inputs abbrev_rest) net) (eqb entry.net net || is_among (take_nets abbrev_rest) net) (or_right (eqb entry.net net) (is_among (take_nets abbrev_rest) net) two))
            (or_cases (is_among (gate_nets inputs abbrev_rest) net) (is_among (take_nets abbrev_rest) net) (rest later))) why

  all_parts : AllByRecursion (HasParts planned sound) own_entries
  all_parts = all_from (HasParts planned sound) own_entries (λ place entry is. entry_has planned sound node place entry is)

  abbrev latches : List OwnLatch
  latches = map (own_latch flat) own

  abbrev known : List ℕ
  known = known_nets inputs node latches program

  abbrev host_nets : List ℕ
  host_nets = if eqb node 0 then range_with_len 0 inputs else []

  nets_back : map (λ (latch : OwnLatch). latch.net) latches ≡ own
  nets_back = map_twice (λ (latch : OwnLatch). latch.net) (own_latch flat) own ∙ map_id own where
    map_id : (xs : List ℕ) → map (λ x. x) xs ≡ xs
    map_id [] = refl
    map_id (x ∷ xs) = ap (λ (rest : List ℕ). x ∷ rest) (map_id xs)

  -- a latch of the node
  pub own_latch_at : (net : ℕ) → (is_latch (driving_cell flat net) && eqb (home planned net) node) ≡ true → (net < count) × (is_among own net ≡ true)
  own_latch_at net is =
      let latch = (and_parts (is_latch (driving_cell flat net)) (eqb (home planned net) node) is).0 in
      let low = by (nat_lt net inputs) refl latch in
      (omega (arith, low.1), among_passing (λ (one : ℕ). is_latch (driving_cell flat one) && eqb (home planned one) node) (length flat.cells) inputs net low.0 low.1 is) where
        by : (input : Bool) → nat_lt net inputs ≡ input → is_latch (if input then None else slice_get flat.cells (net - inputs)) ≡ true
            → (inputs ≤ net) × (net < inputs + length flat.cells)
        by true test at = absurd (true≢false (sym at))
        by false test at =
            let from : inputs ≤ net = ltb-false net inputs test in
            (from, omega (arith, from, inside (slice_get flat.cells (net - inputs)) refl at)) where
              inside : (cell : Option Cell) → slice_get flat.cells (net - inputs) ≡ cell → is_latch cell ≡ true → net - inputs < length flat.cells
              inside None there at = absurd (true≢false (sym at))
              inside (Some cell) there at = slice_get_within flat.cells (net - inputs) cell there

  -- what is due is known
  pub among_known : (net : ℕ)
      → ((is_among host_nets net || is_among own net) || (is_among (gate_nets inputs program) net || is_among (take_nets program) net)) ≡ true
      → is_among known net ≡ true
  among_known net is =
      let third = list_any-append (λ (other : ℕ). eqb other net) (host_nets ++ map (λ (latch : OwnLatch). latch.net) latches ++ gate_nets inputs program) (take_nets program) in
      let second = list_any-append (λ (other : ℕ). eqb other net) (host_nets ++ map (λ (latch : OwnLatch). latch.net) latches) (gate_nets inputs program) in
      let first = list_any-append (λ (other : ℕ). eqb other net) host_nets (map (λ (latch : OwnLatch). latch.net) latches) ∙ ap (λ (nets : List ℕ). is_among host_nets net || is_among nets net) nets_back in
      third ∙ ap (λ (front : Bool). front || is_among (take_nets program) net) (second ∙ ap (λ (front : Bool). front || is_among (gate_nets inputs program) net) first)
      ∙ regroup (is_among host_nets net || is_among own net) (is_among (gate_nets inputs program) net) (is_among (take_nets program) net) ∙ is where
        regroup : (one two three : Bool) → ((one || two) || three) ≡ (one || (two || three))
        regroup true two three = refl
        regroup false two three = refl

  pub source_known : (net : ℕ) → is_source planned node net ≡ true → (net < count) × (is_among known net ≡ true)
  source_known net is =
      let parts = and_parts (eqb (home planned net) node) (nat_lt net inputs || is_latch (driving_cell flat net)) is in
      let given_nets = is_among (gate_nets inputs program) net || is_among (take_nets program) net in
      let if_input = λ (input : nat_lt net inputs ≡ true).
      let low = ltb-true net inputs input in
      let at_host : home planned net ≡ 0 = ap (λ (is : Bool). if is then 0 else slice_index planned.plan.chip_of (net - inputs)) input in
      let host : eqb node 0 ≡ true = eq-eqb node 0 (sym (eqb-true (home planned net) node parts.0) ∙ at_host) in
      let there : is_among host_nets net ≡ true = ap (λ (one : Bool). is_among (if one then range_with_len 0 inputs else []) net) host ∙ among_range inputs 0 net (omega arith) (omega (arith, low)) in
      let whole : (net < count) × (is_among known net ≡ true) = (omega (arith, low), among_known net (or_left (is_among host_nets net || is_among own net) given_nets (or_left (is_among host_nets net) (is_among own net) there))) in whole in
      let if_latch = λ (latch : is_latch (driving_cell flat net) ≡ true).
      let at = own_latch_at net (and_from (is_latch (driving_cell flat net)) (eqb (home planned net) node) latch parts.0) in
      let whole : (net < count) × (is_among known net ≡ true) = (at.0, among_known net (or_left (is_among host_nets net || is_among own net) given_nets (or_right (is_among host_nets net) (is_among own net) at.1))) in whole in
      ⊎_elim if_input if_latch (or_cases (nat_lt net inputs) (is_latch (driving_cell flat net)) parts.1)

  pub due_known : (net : ℕ) → is_due planned node own_entries net ≡ true → is_among known net ≡ true
  due_known net is =
      ⊎_elim (λ (source : is_source planned node net ≡ true). (source_known net source).1)
      (λ (any : list_any (settles_net net) own_entries ≡ true). among_known net (or_right (is_among host_nets net || is_among own net) (is_among (gate_nets inputs program) net || is_among (take_nets program) net) (given own_entries all_parts net any)))
      (or_cases (is_source planned node net) (list_any (settles_net net) own_entries) is)

  -- what was due sooner
  pub due_later : (many : ℕ) (net : ℕ) → is_due planned node (take many own_entries) net ≡ true → is_due planned node own_entries net ≡ true
  due_later many net is =
      ⊎_elim (λ (source : is_source planned node net ≡ true). or_left (is_source planned node net) (list_any (settles_net net) own_entries) source)
      (λ (any : list_any (settles_net net) (take many own_entries) ≡ true). or_right (is_source planned node net) (list_any (settles_net net) own_entries) (more own_entries many any))
      (or_cases (is_source planned node net) (list_any (settles_net net) (take many own_entries)) is) where
        more : (entries : List Entry) (many : ℕ) → list_any (settles_net net) (take many entries) ≡ true → list_any (settles_net net) entries ≡ true
        more [] zero any = any
        more [] (suc many) any = any
        more (entry ∷ entries) zero any = absurd (true≢false (sym any))
        more (entry ∷ entries) (suc many) any =
            ⊎_elim (λ (here : settles_net net entry ≡ true). or_left (settles_net net entry) (list_any (settles_net net) entries) here)
            (λ (later : list_any (settles_net net) (take many entries) ≡ true). or_right (settles_net net entry) (list_any (settles_net net) entries) (more entries many later)) (or_cases (settles_net net entry) (list_any (settles_net net) (take many entries)) any)
