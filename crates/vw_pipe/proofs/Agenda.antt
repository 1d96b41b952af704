-- All tasks, in their order, are one for each gate and one for each route.
use Rattle.std.proofs.Common.{◌≡◌, ◌<◌, ◌≤◌, ◌+◌, ◌∙◌, ◌∷◌, ℕ, zero, suc, Bool, true, false, List, [], length, take, get_or, slice_get, slice_index, Some, ap, refl, sym, subst, ⊎_elim, true≢false, arith}
use Rattle.std.specs.List.{All, list_any}
use Rattle.std.specs.Prelude.{sum_by}
use Rattle.std.specs.List.Sorted.{IsPermutation}
use Rattle.std.proofs.lemmas.Bool.{cases_Bool, cases_eq, or_cases, or_left, or_right}
use Rattle.std.proofs.lemmas.List.Sorted.{All-permutation, sum_by-IsPermutation}
use Rattle.std.proofs.lemmas.Option.{get_or_from_slice_get, slice_get_within}
use Rattle.std.proofs.lemmas.List.{take_all}
use Rattle.std.proofs.lemmas.List.Elements.{All-append, All-cons, All-nil}
use Rattle.std.proofs.lemmas.List.Sums.{sum_by-append, sum_by-cons}
use Rattle.vw_net.specs.declared.ordered.Ordered.{Ordered}
use Rattle.vw_net.specs.Steps.Bits.{one_if}
use Rattle.vw_net.proofs.Lists.{one_if-le}
use Rattle.vw_plan.specs.declared.need.Route.{Route}
use Rattle.vw_pipe.specs.declared.task.Task.{Task}
use Rattle.vw_pipe.specs.declared.turns.Turns.{Turns}
use Rattle.vw_pipe.specs.Steps.Tasks.{AreRising, all_tasks, tasks_from}
use Rattle.vw_pipe.proofs.DoneTasks.{is_task-own, is_task-true}
use Rattle.vw_pipe.specs.Steps.Underway.{AreTasks, IsOfKind, is_passed, is_task, no_task, task_at}

-- how many of some tasks are this one
abbrev times_listed : Bool → ℕ → List Task → ℕ
times_listed sends place tasks = sum_by (λ task. one_if (is_task sends place task)) tasks

times-cons : (sends : Bool) (place : ℕ) (task : Task) (tasks : List Task)
    → times_listed sends place (task ∷ tasks) ≡ one_if (is_task sends place task) + times_listed sends place tasks
times-cons sends place task tasks = sum_by-cons (λ (one : Task). one_if (is_task sends place one)) task tasks

-- a task of another kind or place isn't this one
is_task-false : (sends : Bool) (place : ℕ) (task : Task) → (task.sends ≡ sends → task.place ≡ place → ⊥) → is_task sends place task ≡ false
is_task-false sends place task differs =
    let if_is = λ (is : is_task sends place task ≡ true).
    let its = is_task-true sends place task is in
    let whole : is_task sends place task ≡ false = absurd (differs its.0 its.1) in whole in
    ⊎_elim if_is (λ not. not) (cases_Bool (is_task sends place task))

module _ {X : Type 0} (turn_of : X → ℕ) where
  -- how many of the tasks for some things are this one
  abbrev times_made : Bool → Bool → ℕ → ℕ → List X → ℕ
  times_made made sends place from xs = times_listed sends place (tasks_from turn_of made from xs)

  -- a list of tasks has none of the other kind
  none_of_other : (sends other : Bool) (place from : ℕ) (xs : List X)
      → ((task : Task) → task.sends ≡ sends → is_task other place task ≡ false) → times_made sends other place from xs ≡ 0
  none_of_other sends other place from [] apart = refl
  none_of_other sends other place from (x ∷ xs) apart =
      let first : Task = record { turn = turn_of x; sends = sends; place = from } in
      let none : one_if (is_task other place first) ≡ 0 = ap one_if (apart first refl) in
      let rest = none_of_other sends other place (suc from) xs apart in
      omega (arith, times-cons other place first (tasks_from turn_of sends (suc from) xs), none, rest)

  -- none of a lesser place
  none_below : (sends : Bool) (place from : ℕ) (xs : List X) → place < from → times_made sends sends place from xs ≡ 0
  none_below sends place from [] below = refl
  none_below sends place from (x ∷ xs) below =
      let first : Task = record { turn = turn_of x; sends = sends; place = from } in
      let none : one_if (is_task sends place first) ≡ 0 = ap one_if (is_task-false sends place first (λ _ same. omega (arith, same, below))) in
      let rest = none_below sends place (suc from) xs (omega (arith, below)) in
      omega (arith, times-cons sends place first (tasks_from turn_of sends (suc from) xs), none, rest)

  -- and one of each place
  one_within : (sends : Bool) (place from : ℕ) (xs : List X) → from ≤ place → place < from + length xs → times_made sends sends place from xs ≡ 1
  one_within sends place from [] late within = absurd (omega (arith, late, within))
  one_within sends place from (x ∷ xs) late within =
      let first : Task = record { turn = turn_of x; sends = sends; place = from } in
      let cons = times-cons sends place first (tasks_from turn_of sends (suc from) xs) in
      let if_here = λ (same : from ≡ place).
      let own = subst (λ (at : ℕ). is_task sends at first ≡ true) same (is_task-own first) in
      let one : one_if (is_task sends place first) ≡ 1 = ap one_if own in
      let rest = none_below sends place (suc from) xs (omega (arith, same)) in
      let whole : times_made sends sends place from (x ∷ xs) ≡ 1 = omega (arith, cons, one, rest) in whole in
      let if_later = λ (apart : from ≡ place → ⊥).
      let none : one_if (is_task sends place first) ≡ 0 = ap one_if (is_task-false sends place first (λ _ same. apart same)) in
      let past : suc from ≤ place = omega arith in
      let rest = one_within sends place (suc from) xs past (omega (arith, within)) in
      let whole : times_made sends sends place from (x ∷ xs) ≡ 1 = omega (arith, cons, none, rest) in whole in
      ⊎_elim if_here if_later (cases_eq from place)

  at_most_one : (sends : Bool) (place from : ℕ) (xs : List X) → times_made sends sends place from xs ≤ 1
  at_most_one sends place from [] = omega arith
  at_most_one sends place from (x ∷ xs) =
      let first : Task = record { turn = turn_of x; sends = sends; place = from } in
      let cons = times-cons sends place first (tasks_from turn_of sends (suc from) xs) in
      let if_here = λ (same : from ≡ place).
      let low : one_if (is_task sends place first) ≤ 1 = one_if-le (is_task sends place first) in
      let rest = none_below sends place (suc from) xs (omega (arith, same)) in
      let whole : times_made sends sends place from (x ∷ xs) ≤ 1 = omega (arith, cons, low, rest) in whole in
      let if_later = λ (apart : from ≡ place → ⊥).
      let none : one_if (is_task sends place first) ≡ 0 = ap one_if (is_task-false sends place first (λ _ same. apart same)) in
      let rest = at_most_one sends place (suc from) xs in
      let whole : times_made sends sends place from (x ∷ xs) ≤ 1 = omega (arith, cons, none, rest) in whole in
      ⊎_elim if_here if_later (cases_eq from place)

  -- the task for a thing
  abbrev task_for : Bool → ℕ → X → Task
  task_for sends place x = record { turn = turn_of x; sends = sends; place = place }

  -- what holds of each task that is made
  all_made : (P : Task → Type 0) (sends : Bool) (from : ℕ) (xs : List X)
      → ((at : ℕ) (x : X) → slice_get xs at ≡ Some x → P (record { turn = turn_of x; sends = sends; place = from + at }))
      → All P (tasks_from turn_of sends from xs)
  all_made P sends from [] each = All-nil P
  all_made P sends from (x ∷ xs) each =
      let zero_more : from + 0 ≡ from = omega arith in
      let first : P (task_for sends from x) = subst (λ (at : ℕ). P (task_for sends at x)) zero_more (each 0 x refl) in
      let rest = all_made P sends (suc from) xs (λ at y is.
      let more : from + suc at ≡ suc from + at = omega arith in
      subst (λ (place : ℕ). P (task_for sends place y)) more (each (suc at) y is)) in
      All-cons P (task_for sends from x) (tasks_from turn_of sends (suc from) xs) first rest

-- ---- counting

module _ (test : Task → Bool) where
  abbrev count : List Task → ℕ
  count tasks = sum_by (λ task. one_if (test task)) tasks

  count-cons : (task : Task) (tasks : List Task) → count (task ∷ tasks) ≡ one_if (test task) + count tasks
  count-cons task tasks = sum_by-cons (λ (one : Task). one_if (test one)) task tasks

  once_in : (tasks : List Task) (at : ℕ) → at < length tasks → test (task_at tasks at) ≡ true → 1 ≤ count tasks
  once_in [] at within is = absurd (omega (arith, within))
  once_in (task ∷ tasks) zero within is = let one : one_if (test task) ≡ 1 = ap one_if is in omega (arith, count-cons task tasks, one)
  once_in (task ∷ tasks) (suc at) within is = omega (arith, count-cons task tasks, once_in tasks at (omega (arith, within)) is)

  twice_in : (tasks : List Task) (at : ℕ) → at < length tasks → list_any test (take at tasks) ≡ true → test (task_at tasks at) ≡ true
      → 2 ≤ count tasks
  twice_in [] at within before is = absurd (omega (arith, within))
  twice_in (task ∷ tasks) zero within before is = absurd (true≢false (sym before))
  twice_in (task ∷ tasks) (suc at) within before is =
      let cons = count-cons task tasks in
      let here = λ (first : test task ≡ true).
      let one : one_if (test task) ≡ 1 = ap one_if first in
      let whole : 2 ≤ count (task ∷ tasks) = omega (arith, cons, one, once_in tasks at (omega (arith, within)) is) in whole in
      let later = λ (rest : list_any test (take at tasks) ≡ true).
      let twice = twice_in tasks at (omega (arith, within)) rest is in
      let whole : 2 ≤ count (task ∷ tasks) = omega (arith, cons, twice) in whole in
      ⊎_elim here later (or_cases (test task) (list_any test (take at tasks)) before)

  some_in : (tasks : List Task) → 1 ≤ count tasks → list_any test tasks ≡ true
  some_in [] one = absurd (omega (arith, one))
  some_in (task ∷ tasks) one =
      let if_here = λ (is : test task ≡ true). or_left (test task) (list_any test tasks) is in
      let if_not = λ (is : test task ≡ false).
      let none : one_if (test task) ≡ 0 = ap one_if is in
      or_right (test task) (list_any test tasks) (some_in tasks (omega (arith, one, count-cons task tasks, none))) in
      ⊎_elim if_here if_not (cases_Bool (test task))

module _ (ordered : Ordered) (turns : Turns) (routes : List Route) (long : length turns.routes.items ≡ length routes) where
  -- the turns of gates and of routes
  abbrev gate_turn : ℕ → ℕ
  gate_turn number = slice_index turns.nets.items (ordered.flat.inputs + number)

  abbrev route_turn : ℕ → ℕ
  route_turn turn = turn

  abbrev route_turns : List ℕ
  route_turns = turns.routes.items

  abbrev gate_tasks : List Task
  gate_tasks = tasks_from gate_turn false 0 ordered.order

  abbrev sendings : List Task
  sendings = tasks_from route_turn true 0 route_turns

  abbrev all : List Task
  all = all_tasks ordered turns

  both : (sends : Bool) (place : ℕ) → times_listed sends place all ≡ times_listed sends place gate_tasks + times_listed sends place sendings
  both sends place = sum_by-append (λ (one : Task). one_if (is_task sends place one)) gate_tasks sendings

  no_gate : (place : ℕ) → times_listed true place gate_tasks ≡ 0
  no_gate place = none_of_other gate_turn false true place 0 ordered.order (λ task is. is_task-false true place task (λ other _. true≢false (sym other ∙ is)))

  no_sending : (place : ℕ) → times_listed false place sendings ≡ 0
  no_sending place = none_of_other route_turn true false place 0 route_turns (λ task is. is_task-false false place task (λ other _. true≢false (sym is ∙ other)))

  few_all : (sends : Bool) (place : ℕ) → times_listed sends place all ≤ 1
  few_all false place = omega (arith, both false place, no_sending place, at_most_one gate_turn false place 0 ordered.order)
  few_all true place = omega (arith, both true place, no_gate place, at_most_one route_turn true place 0 route_turns)

  -- a task is for what its kind says
  abbrev IsOfOwnKind : Task → Type 0
  IsOfOwnKind task = IsOfKind ordered turns routes task.sends task

  kinds_all : All IsOfOwnKind all
  kinds_all = All-append IsOfOwnKind gate_tasks sendings
      (all_made gate_turn IsOfOwnKind false 0 ordered.order (λ at number is.
      let same : 0 + at ≡ at = omega arith in
      let inside : 0 + at < length ordered.order = omega (arith, slice_get_within ordered.order at number is) in
      let number_is = ap (λ (place : ℕ). get_or ordered.order place 0) same ∙ get_or_from_slice_get ordered.order at number 0 is in
      (inside, ap gate_turn (sym number_is))))
      (all_made route_turn IsOfOwnKind true 0 route_turns (λ at one is.
      let same : 0 + at ≡ at = omega arith in
      let inside : 0 + at < length routes = omega (arith, slice_get_within route_turns at one is, long) in
      let turn_is = ap (λ (place : ℕ). get_or route_turns place 0) same ∙ get_or_from_slice_get route_turns at one 0 is in
      (inside, sym turn_is)))

  module _ (tasks : List Task) (same : IsPermutation all tasks) where
    as_many : (sends : Bool) (place : ℕ) → times_listed sends place tasks ≡ times_listed sends place all
    as_many sends place = sum_by-IsPermutation (λ (one : Task). one_if (is_task sends place one)) all tasks same

    is_there : (sends : Bool) (place : ℕ) → times_listed sends place all ≡ 1 → is_passed tasks (length tasks) sends place ≡ true
    is_there sends place one =
        let all_taken = take_all (length tasks) tasks (omega arith) in
        ap (list_any (is_task sends place)) all_taken ∙ some_in (is_task sends place) tasks (omega (arith, one, as_many sends place))

    -- no task stands behind another that is the same
    only_once : (at : ℕ) → at < length tasks → is_passed tasks at (task_at tasks at).sends (task_at tasks at).place ≡ false
    only_once at within =
        let task = task_at tasks at in
        let if_before = λ (done : is_passed tasks at task.sends task.place ≡ true).
        let twice = twice_in (is_task task.sends task.place) tasks at within done (is_task-own task) in
        let no : ⊥ = omega (arith, twice, as_many task.sends task.place, few_all task.sends task.place) in
        let whole : is_passed tasks at task.sends task.place ≡ false = absurd no in whole in
        ⊎_elim if_before (λ not. not) (cases_Bool (is_passed tasks at task.sends task.place))

    pub are_tasks : AreRising tasks → AreTasks ordered turns routes tasks
    are_tasks rising = record {
      kinds = λ place within. All-permutation IsOfOwnKind all tasks same kinds_all place no_task within;
      once = only_once;
      gates = λ place within.
          let one = one_within gate_turn false place 0 ordered.order (omega arith) (omega (arith, within)) in
          is_there false place (omega (arith, both false place, no_sending place, one));
      routed = λ number within.
          let one = one_within route_turn true number 0 route_turns (omega arith) (omega (arith, within, long)) in
          is_there true number (omega (arith, both true number, no_gate number, one));
      rising = rising;
    }
