use Rattle.std.proofs.Common.{◌≡◌, ◌<◌, ◌+◌, ◌++◌, ◌∙◌, ℕ, List, [], ◌∷◌, false, length, drop, get_or, slice_index, ap, ap₂, refl, sym, arith, add-one, append_assoc, drop-cons}
use Rattle.vw_pipe.specs.declared.task.Task.{Task}
use Rattle.vw_pipe.specs.Steps.Tasks.{tasks_from}
use Rattle.vw_pipe.proofs.GatePlaces.{few_places}
use Rattle.vw_net.proofs.ReadyNets.{order_within}
use Rattle.vw_pipe.proofs.task.list_leads.Goals as goal

pub overflow_add-inputs : goal.overflow_add-inputs
overflow_add-inputs c =
    let ordered = c.args.ordered.now in
    let place = c.loop-place.place in
    let within : place < length ordered.order = omega (arith, ap length c.order-number-items.ensures) in
    let number : get_or c.order-number-items.result.now place 0 ≡ get_or ordered.order place 0 = cc in
    let inputs : c.inputs-inputs.result ≡ ordered.flat.inputs = cc in
    omega (arith, order_within ordered.is_order place within, ordered.flat.few_inputs, ordered.flat.few_cells)

pub overflow_cast-place : goal.overflow_cast-place
overflow_cast-place c =
    let ordered = c.args.ordered.now in
    omega (arith, few_places ordered, ap length c.order-number-items.ensures)

-- what is pushed for a number is the first of what is left
module _ (turn_of : ℕ → ℕ) (numbers : List ℕ) (place : ℕ) where
  -- the task for a gate with a turn
  abbrev lead_task : ℕ → Task
  lead_task turn = record { turn = turn; sends = false; place = place }

  one_more : (listed more all : List Task) (turn : ℕ) → place < length numbers → turn ≡ turn_of (get_or numbers place 0)
      → more ≡ listed ++ record { turn = turn; sends = false; place = place } ∷ []
      → listed ++ tasks_from turn_of false place (drop place numbers) ≡ all
      → more ++ tasks_from turn_of false (place + 1) (drop (place + 1) numbers) ≡ all
  one_more listed more all turn within value is so_far =
      let rest = tasks_from turn_of false (place + 1) (drop (place + 1) numbers) in
      let left : tasks_from turn_of false place (drop place numbers) ≡ lead_task (turn_of (get_or numbers place 0)) ∷ rest =
      rw (add-one, drop-cons numbers place 0 within) refl in
      ap (λ (front : List Task). front ++ rest) is
      ∙ append_assoc listed (lead_task turn ∷ []) rest
      ∙ ap (λ (one : ℕ). listed ++ lead_task one ∷ rest) value
      ∙ ap (λ (others : List Task). listed ++ others) (sym left)
      ∙ so_far

pub loop-place-preserved : goal.loop-place-preserved
loop-place-preserved c =
    let ordered = c.args.ordered.now in
    let place = c.loop-place.place in
    let turn_of = λ (number : ℕ). slice_index c.args.turns.now (ordered.flat.inputs + number) in
    let within : place < length ordered.order = omega (arith, c.loop-place-test.true, ap length c.order-number-items.ensures) in
    let inputs : c.inputs-inputs.result ≡ ordered.flat.inputs = c.inputs-inputs.ensures ∙ ap (λ flat. flat.inputs) c.flat.ensures in
    let number = ap (λ (numbers : List ℕ). get_or numbers place 0) c.order-number-items.ensures in
    let value = c.turn_in.ensures ∙ ap₂ (λ (first number : ℕ). slice_index c.args.turns.now (first + number)) inputs number in
    one_more turn_of ordered.order place c.loop-place.tasks.items c.push.new.self.items _ c.turn_in.result within value
    c.in_ok-push.ensures.items c.loop-place.invariant
