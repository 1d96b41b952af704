-- The lines of a trace, batch by batch.
use Rattle.std.proofs.Common.{◌≡◌, ◌+◌, ℕ, Bool, List, [], ◌∷◌, ◌++◌, length, ap, sym, ◌∙◌, arith, append_assoc, length-append}
use Rattle.vw_net.specs.History.{History, joined}
use Rattle.vw_rows.specs.Trace.{rows_text, clock_text, end_text, trace_lines_from}

-- the lines of clocks, and then of others
pub rows_text-append : (first : ℕ) (outputs states later_outputs later_states : List (List Bool)) → length outputs ≡ length states
    → rows_text first (outputs ++ later_outputs) (states ++ later_states) ≡ rows_text first outputs states ++ rows_text (first + length outputs) later_outputs later_states
rows_text-append first [] [] later_outputs later_states same = ap (λ n. rows_text n later_outputs later_states) (let e : first ≡ first + 0 = omega arith in e)
rows_text-append first [] (state ∷ states) later_outputs later_states same = absurd (omega arith)
rows_text-append first (row ∷ outputs) [] later_outputs later_states same = absurd (omega arith)
rows_text-append first (row ∷ outputs) (state ∷ states) later_outputs later_states same =
    let count : first + 1 + length outputs ≡ first + length (row ∷ outputs) = omega arith in
    ap (λ t. clock_text first row state ++ t) (rows_text-append (first + 1) outputs states later_outputs later_states (omega arith) ∙ ap (λ n. rows_text (first + 1) outputs states ++ rows_text n later_outputs later_states) count)
    ∙ sym (append_assoc (clock_text first row state) (rows_text (first + 1) outputs states) (rows_text (first + length (row ∷ outputs)) later_outputs later_states))

-- what follows the first line goes on behind the clocks of a first history
pub trace_lines_from-joined : (first : ℕ) (one more : History) → length one.outputs ≡ length one.states
    → trace_lines_from first (joined one more) ≡ rows_text first one.outputs one.states ++ trace_lines_from (first + length one.outputs) more
trace_lines_from-joined first one more same =
    let count : first + length (one.outputs ++ more.outputs) ≡ first + length one.outputs + length more.outputs = omega (arith, length-append one.outputs more.outputs) in
    let written = rows_text first one.outputs one.states in
    let later = rows_text (first + length one.outputs) more.outputs more.states in
    ap (λ t. t ++ end_text (first + length (one.outputs ++ more.outputs)) more.last) (rows_text-append first one.outputs one.states more.outputs more.states same)
    ∙ ap (λ n. (written ++ later) ++ end_text n more.last) count
    ∙ append_assoc written later (end_text (first + length one.outputs + length more.outputs) more.last)

-- behind the last clock the last line is left
pub trace_lines_from-ended : (first : ℕ) (last : List Bool) → trace_lines_from first (record { outputs = []; states = []; last = last }) ≡ end_text first last
trace_lines_from-ended first last = ap (λ n. end_text n last) (let e : first + 0 ≡ first = omega arith in e)
