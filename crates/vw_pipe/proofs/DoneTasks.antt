-- Which tasks are done.
use Rattle.std.proofs.Common.{◌≡◌, ◌<◌, ◌≤◌, ◌+◌, ◌-◌, ◌∙◌, ◌||◌, ◌⊎◌, ℕ, zero, suc, Bool, true, false, List, length, eqb, ap, refl, sym, subst, ⊎_elim, true≢false, arith, eqb-true, eq-eqb}
use Rattle.std.proofs.lemmas.Bool.{and_from, and_parts, cases_Bool, cases_order, or_cases, or_left}
use Rattle.std.proofs.lemmas.List.Folds.{list_any_more}
use Rattle.vw_net.specs.declared.ordered.Ordered.{Ordered}
use Rattle.vw_plan.specs.declared.board.Board.{Board}
use Rattle.vw_plan.specs.declared.need.Route.{Route}
use Rattle.vw_plan.specs.Routes.{AreRoutes}
use Rattle.vw_pipe.specs.declared.task.Task.{Task}
use Rattle.vw_pipe.specs.declared.turns.Turns.{Turns}
use Rattle.vw_pipe.specs.Steps.Tasks.{IsAtMost, task_rank}
use Rattle.vw_pipe.specs.Steps.Turns.{AreTurns}
use Rattle.vw_pipe.specs.Steps.Underway.{AreTasks, IsOfKind, is_passed, is_task, no_task, task_at}

rank_one : (a b : Bool) → task_rank a ≡ task_rank b → a ≡ b
rank_one false false same = refl
rank_one true true same = refl
rank_one false true same = absurd (omega (arith, same))
rank_one true false same = absurd (omega (arith, same))

-- a task that is this one has its kind and its place
pub is_task-true : (sends : Bool) (place : ℕ) (task : Task) → is_task sends place task ≡ true → (task.sends ≡ sends) × (task.place ≡ place)
is_task-true sends place task is =
    let parts = and_parts (eqb (task_rank task.sends) (task_rank sends)) (eqb task.place place) is in
    (rank_one task.sends sends (eqb-true (task_rank task.sends) (task_rank sends) parts.0), eqb-true task.place place parts.1)

pub is_task-own : (task : Task) → is_task task.sends task.place task ≡ true
is_task-own task = and_from _ _ (eq-eqb (task_rank task.sends) (task_rank task.sends) refl) (eq-eqb task.place task.place refl)

module _ (tasks : List Task) where
  -- where a task stands among the first so many
  abbrev IsFoundBefore : ℕ → Bool → ℕ → Type 0
  IsFoundBefore count sends place = (at : ℕ) × (at < count) × ((task_at tasks at).sends ≡ sends) × ((task_at tasks at).place ≡ place)

  -- whether a task is this one, or stands before it
  abbrev is_passed_or_next : ℕ → Bool → ℕ → Bool
  is_passed_or_next count sends place = is_passed tasks count sends place || is_task sends place (task_at tasks count)

  -- of one task more
  pub is_passed-more : (count : ℕ) (sends : Bool) (place : ℕ) → count < length tasks
      → is_passed tasks (count + 1) sends place ≡ (is_passed tasks count sends place || is_task sends place (task_at tasks count))
  is_passed-more count sends place within = list_any_more (is_task sends place) tasks count no_task within

  passed_or_next : (count next : ℕ) (sends : Bool) (place : ℕ) → next ≡ count + 1 → count < length tasks
      → is_passed tasks next sends place ≡ true → is_passed_or_next count sends place ≡ true
  passed_or_next count next sends place is within done =
      sym (is_passed-more count sends place within) ∙ ap (λ (n : ℕ). is_passed tasks n sends place) (sym is) ∙ done

  -- what is done by the next task is that task, or was done before
  pub done_or_next : (count next : ℕ) (sends : Bool) (place : ℕ) → next ≡ count + 1 → count < length tasks → is_passed tasks next sends place ≡ true
      → (is_passed tasks count sends place ≡ true) ⊎ (is_task sends place (task_at tasks count) ≡ true)
  done_or_next count next sends place is within done =
      or_cases (is_passed tasks count sends place) (is_task sends place (task_at tasks count)) (passed_or_next count next sends place is within done)

  -- what is done is done at a place
  pub done_at : (count : ℕ) (sends : Bool) (place : ℕ) → count ≤ length tasks → is_passed tasks count sends place ≡ true
      → (at : ℕ) × (at < count) × ((task_at tasks at).sends ≡ sends) × ((task_at tasks at).place ≡ place)
  done_at zero sends place within done = absurd (true≢false (sym done))
  done_at (suc count) sends place within done =
      let next : suc count ≡ count + 1 = omega arith in
      let before = λ (is : is_passed tasks count sends place ≡ true).
      let found = done_at count sends place (omega (arith, within)) is in
      let early : found.0 < suc count = omega (arith, found.1) in
      let whole : IsFoundBefore (suc count) sends place = (found.0, early, found.2, found.3) in whole in
      let here = λ (is : is_task sends place (task_at tasks count) ≡ true).
      let its = is_task-true sends place (task_at tasks count) is in
      let early : count < suc count = omega arith in
      let whole : IsFoundBefore (suc count) sends place = (count, early, its.0, its.1) in whole in
      ⊎_elim before here (done_or_next count (suc count) sends place next (omega (arith, within)) done)

  -- what stays done
  pub done_later : (count : ℕ) (sends : Bool) (place : ℕ) → count < length tasks
      → is_passed tasks count sends place ≡ true → is_passed tasks (count + 1) sends place ≡ true
  done_later count sends place within done = is_passed-more count sends place within ∙ or_left _ _ done

  pub not_done_before : (count : ℕ) (sends : Bool) (place : ℕ) → count < length tasks
      → is_passed tasks (count + 1) sends place ≡ false → is_passed tasks count sends place ≡ false
  not_done_before count sends place within none =
      let if_done = λ (done : is_passed tasks count sends place ≡ true).
      let whole : is_passed tasks count sends place ≡ false = absurd (true≢false (sym (done_later count sends place within done) ∙ none)) in whole in
      ⊎_elim if_done (λ not. not) (cases_Bool (is_passed tasks count sends place))

  -- what no later task is was done before
  pub done_before : (count more : ℕ) (sends : Bool) (place : ℕ) → count + more ≤ length tasks
      → ((at : ℕ) → count ≤ at → at < length tasks → is_task sends place (task_at tasks at) ≡ false)
      → is_passed tasks (count + more) sends place ≡ true → is_passed tasks count sends place ≡ true
  done_before count zero sends place within none done =
      let same : count + 0 ≡ count = omega arith in
      ap (λ (n : ℕ). is_passed tasks n sends place) (sym same) ∙ done
  done_before count (suc more) sends place within none done =
      let last = count + more in
      let next : count + suc more ≡ last + 1 = omega arith in
      let either = done_or_next last (count + suc more) sends place next (omega (arith, within)) done in
      let not_last = none last (omega arith) (omega (arith, within)) in
      let if_before = done_before count more sends place (omega (arith, within)) none in
      ⊎_elim if_before (λ is. absurd (true≢false (sym is ∙ not_last))) either

module _ {ordered : Ordered} {turns : Turns} {routes : List Route} {tasks : List Task} (are : AreTasks ordered turns routes tasks) where
  -- what a task is for
  pub kind_at : (at : ℕ) (sends : Bool) → at < length tasks → (task_at tasks at).sends ≡ sends → IsOfKind ordered turns routes sends (task_at tasks at)
  kind_at at sends within is = subst (λ (kind : Bool). IsOfKind ordered turns routes kind (task_at tasks at)) is (are.kinds at within)

  pub at_most : (one other : ℕ) → one < other → other < length tasks → IsAtMost (task_at tasks one) (task_at tasks other)
  at_most one other before within = are.rising one other no_task before within

  at_most_own : (one other : ℕ) → one ≡ other → IsAtMost (task_at tasks one) (task_at tasks other)
  at_most_own one other same =
      let own : IsAtMost (task_at tasks one) (task_at tasks one) = record { turns = omega arith; kinds = λ _. omega arith; places = λ _ _. omega arith } in
      subst (λ (n : ℕ). IsAtMost (task_at tasks one) (task_at tasks n)) same own

  -- what comes before a task is done before it
  pub done_earlier : (count : ℕ) (sends : Bool) (place : ℕ) → count < length tasks → is_passed tasks (length tasks) sends place ≡ true
      → ((at : ℕ) → at < length tasks → (task_at tasks at).sends ≡ sends → (task_at tasks at).place ≡ place
      → IsAtMost (task_at tasks count) (task_at tasks at) → ⊥)
      → is_passed tasks count sends place ≡ true
  done_earlier count sends place within done before = by (length tasks) refl where
    none : (at : ℕ) → count ≤ at → at < length tasks → is_task sends place (task_at tasks at) ≡ false
    none at late inside =
        let if_is = λ (is : is_task sends place (task_at tasks at) ≡ true).
        let its = is_task-true sends place (task_at tasks at) is in
        let not_behind = before at inside its.0 its.1 in
        let if_apart = ⊎_elim (λ less. not_behind (at_most count at less inside)) (λ more. absurd (omega (arith, more, late))) in
        let no : ⊥ = ⊎_elim (λ same. not_behind (at_most_own count at same)) if_apart (cases_order count at) in
        let whole : is_task sends place (task_at tasks at) ≡ false = absurd no in whole in
        ⊎_elim if_is (λ not. not) (cases_Bool (is_task sends place (task_at tasks at)))

    by : (all : ℕ) → all ≡ length tasks → is_passed tasks count sends place ≡ true
    by all is =
        let sum : count + (all - count) ≡ length tasks = omega (arith, is, within) in
        done_before tasks count (all - count) sends place (omega (arith, is, within)) none (ap (λ (n : ℕ). is_passed tasks n sends place) sum ∙ done)

-- tasks in an order that goes with the turns of the nets, for routes that the chips of the cells need
pub record IsAgenda (ordered : Ordered) (board : Board) (chip_of : List ℕ) (routes : List Route) (turns : Turns) (tasks : List Task) : Type 0 where
  pub each : length chip_of ≡ length ordered.flat.cells
  pub kept : AreTurns ordered chip_of routes turns
  pub tasks_are : AreTasks ordered turns routes tasks
  pub routes_are : AreRoutes ordered.flat board chip_of routes
