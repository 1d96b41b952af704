-- Tasks in their order.
use Rattle.std.proofs.Common.{◌≡◌, ◌<◌, ◌≤◌, ◌+◌, ◌-◌, ◌++◌, ℕ, zero, suc, Bool, true, false, List, [], length, get_or, slice_index, ap, refl, sym, ◌∙◌, subst, true≢false, arith}
use Rattle.std.specs.List.Sorted.{IsSorted}
use Rattle.std.specs.Ordering.{bool_cmp, nat_cmp, ordering_then, is_lt}
use Rattle.std.specs.declared.cmp.Ordering.{Ordering}
use Rattle.std.specs.declared.cmp.Ordering.TheVariants.{Less, Equal, Greater}
use Rattle.vw_net.specs.declared.ordered.Ordered.{Ordered}
use Rattle.vw_pipe.specs.declared.task.Task.{Task}
use Rattle.vw_pipe.specs.declared.turns.Turns.{Turns}
use Rattle.vw_pipe.specs.Steps.Tasks.{AreRising, IsAtMost, all_tasks, task_rank, tasks_from}

abbrev pub task_cmp : Task → Task → Ordering
task_cmp task other = ordering_then (nat_cmp task.turn other.turn) (ordering_then (bool_cmp task.sends other.sends) (nat_cmp task.place other.place))

at_most_trans : (one two three : Task) → IsAtMost one two → IsAtMost two three → IsAtMost one three
at_most_trans one two three first second = record {
  turns = omega (arith, first.turns, second.turns);
  kinds = λ same.
      let first_turns : one.turn ≡ two.turn = omega (arith, first.turns, second.turns, same) in
      let second_turns : two.turn ≡ three.turn = omega (arith, first_turns, same) in
      omega (arith, first.kinds first_turns, second.kinds second_turns);
  places = λ same ranks.
      let first_turns : one.turn ≡ two.turn = omega (arith, first.turns, second.turns, same) in
      let second_turns : two.turn ≡ three.turn = omega (arith, first_turns, same) in
      let first_ranks : task_rank one.sends ≡ task_rank two.sends = omega (arith, first.kinds first_turns, second.kinds second_turns, ranks) in
      let second_ranks : task_rank two.sends ≡ task_rank three.sends = omega (arith, first_ranks, ranks) in
      omega (arith, first.places first_turns first_ranks, second.places second_turns second_ranks);
}

-- what isn't less than one before it
step_numbers : (a b : ℕ) (rest : Ordering) → is_lt (ordering_then (nat_cmp b a) rest) ≡ false → (a ≤ b) × (a ≡ b → is_lt rest ≡ false)
step_numbers a b rest not_less = by (nat_cmp b a) refl where
  by : (order : Ordering) → nat_cmp b a ≡ order → (a ≤ b) × (a ≡ b → is_lt rest ≡ false)
  by Less is = absurd (true≢false (sym (ap (λ (one : Ordering). is_lt (ordering_then one rest)) is) ∙ not_less))
  by Equal is =
      let same : b ≡ a = grind (arith, is) in
      let rest_is = ap (λ (one : Ordering). is_lt (ordering_then one rest)) is in
      (omega (arith, same), λ _. sym rest_is ∙ not_less)
  by Greater is = let more : a < b = grind (arith, is) in (omega (arith, more), λ same. absurd (omega (arith, more, same)))

step_sends : (one other : Bool) (rest : Ordering) → is_lt (ordering_then (bool_cmp other one) rest) ≡ false
    → (task_rank one ≤ task_rank other) × (task_rank one ≡ task_rank other → is_lt rest ≡ false)
step_sends false false rest not_less = (omega arith, λ same. not_less)
step_sends false true rest not_less = (omega arith, λ same. absurd (omega (arith, same)))
step_sends true false rest not_less = absurd (true≢false not_less)
step_sends true true rest not_less = (omega arith, λ same. not_less)

step_last : (a b : ℕ) → is_lt (nat_cmp b a) ≡ false → a ≤ b
step_last a b not_less = (step_numbers a b Equal (then_equal (nat_cmp b a) not_less)).0 where
  then_equal : (order : Ordering) → is_lt order ≡ false → is_lt (ordering_then order Equal) ≡ false
  then_equal Less no_less = no_less
  then_equal Equal no_less = no_less
  then_equal Greater no_less = no_less

step : (task other : Task) → is_lt (task_cmp other task) ≡ false → IsAtMost task other
step task other not_less =
    let later = ordering_then (bool_cmp other.sends task.sends) (nat_cmp other.place task.place) in
    let by_turn = step_numbers task.turn other.turn later not_less in
    let by_kind = λ (same : task.turn ≡ other.turn). step_sends task.sends other.sends (nat_cmp other.place task.place) (by_turn.1 same) in
    record {
      turns = by_turn.0;
      kinds = λ same. (by_kind same).0;
      places = λ same ranks. step_last task.place other.place ((by_kind same).1 ranks);
    }

rising_at : (tasks : List Task) → IsSorted task_cmp tasks → (i more : ℕ) (d : Task) → i + suc more < length tasks
    → IsAtMost (get_or tasks i d) (get_or tasks (i + suc more) d)
rising_at tasks sorted i zero d within = step (get_or tasks i d) (get_or tasks (i + 1) d) (sorted i d (omega arith) within)
rising_at tasks sorted i (suc more) d within =
    let next : i + suc more + 1 ≡ i + suc (suc more) = omega arith in
    let j = i + suc more in
    let task = λ (at : ℕ). get_or tasks at d in
    let before = rising_at tasks sorted i more d (omega (arith, within)) in
    let last : IsAtMost (task j) (task (j + 1)) = step (task j) (task (j + 1)) (sorted j d (omega arith) (omega (arith, within))) in
    at_most_trans (task i) (task j) (task (i + suc (suc more))) before (subst (λ (at : ℕ). IsAtMost (task j) (task at)) next last)

pub rising_from_sorted : (tasks : List Task) → IsSorted task_cmp tasks → AreRising tasks
rising_from_sorted tasks sorted i j d before within =
    let next : i + suc (j - suc i) ≡ j = omega (arith, before) in
    subst (λ (at : ℕ). IsAtMost (get_or tasks i d) (get_or tasks at d)) next (rising_at tasks sorted i (j - suc i) d (omega (arith, before, within)))

-- the lists of both kinds of tasks are all tasks
pub same_tasks : (ordered : Ordered) (turns : Turns) (none leads sends : List Task) → none ≡ []
    → leads ≡ none ++ tasks_from (λ number. slice_index turns.nets.items (ordered.flat.inputs + number)) false 0 ordered.order
    → sends ≡ leads ++ tasks_from (λ turn. turn) true 0 turns.routes.items
    → sends ≡ all_tasks ordered turns
same_tasks ordered turns none leads sends empty leads_are sends_are =
    let gate_tasks = tasks_from (λ (number : ℕ). slice_index turns.nets.items (ordered.flat.inputs + number)) false 0 ordered.order in
    let route_tasks = tasks_from (λ (turn : ℕ). turn) true 0 turns.routes.items in
    let leads_only = leads_are ∙ ap (λ (list : List Task). list ++ gate_tasks) empty in
    sends_are ∙ ap (λ (list : List Task). list ++ route_tasks) leads_only
