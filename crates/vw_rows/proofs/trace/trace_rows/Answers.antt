use Rattle.std.proofs.Common.{◌≡◌, ◌<◌, ◌≤◌, ◌+◌, ℕ, Bool, List, ◌∷◌, ◌++◌, length, drop, get_or, ap, ap₂, sym, ◌∙◌, append_assoc, append-nil, arith}
use Rattle.std.proofs.lemmas.List.{drop_more, drop_all}
use Rattle.std.proofs.lemmas.Option.{get_or_from_slice_get}
use Rattle.vw_rows.specs.Trace.{clock_text, rows_text}
use Rattle.vw_rows.proofs.trace.trace_rows.Goals as goal

-- the line of one clock more
clock_further : (first i clock : ℕ) (outputs states : List (List Bool)) (row state : List Bool) (text new : List ℕ) → i < length outputs → i < length states
    → row ≡ get_or outputs i row → state ≡ get_or states i state → clock ≡ first + i → new ≡ text ++ clock_text clock row state
    → text ++ rows_text (first + i) (drop i outputs) (drop i states) ≡ rows_text first outputs states
    → new ++ rows_text (first + (i + 1)) (drop (i + 1) outputs) (drop (i + 1) states) ≡ rows_text first outputs states
clock_further first i clock outputs states row state text new within inside is_row is_state is more old =
    let next : first + (i + 1) ≡ first + i + 1 = omega arith in
    let row_left = drop_more outputs i row within ∙ ap (λ (r : List Bool). r ∷ drop (i + 1) outputs) (sym is_row) in
    let state_left = drop_more states i state inside ∙ ap (λ (s : List Bool). s ∷ drop (i + 1) states) (sym is_state) in
    let rest = rows_text (first + i + 1) (drop (i + 1) outputs) (drop (i + 1) states) in
    ap (λ (n : ℕ). new ++ rows_text n (drop (i + 1) outputs) (drop (i + 1) states)) next
    ∙ ap (λ (t : List ℕ). t ++ rest) (more ∙ ap (λ (n : ℕ). text ++ clock_text n row state) is) ∙ append_assoc text (clock_text (first + i) row state) rest
    ∙ ap₂ (λ (os ss : List (List Bool)). text ++ rows_text (first + i) os ss) (sym row_left) (sym state_left) ∙ old

pub loop-i-preserved : goal.loop-i-preserved
loop-i-preserved c =
    let i = c.loop-i.i in
    let outputs = c.args.outputs.now in
    let states = c.args.latches.now in
    let row = c.row.result.now in
    let state = c.row-in-loop-i.result.now in
    let within : i < length outputs = omega (arith, c.loop-i-test.true, c.len-i-end.ensures) in
    let inside : i < length states = omega (arith, within, c.requires) in
    clock_further c.args.first i (c.from.result + i) outputs states row state c.loop-i.text.items c.push_clock.new.text.items within inside
    (sym (get_or_from_slice_get outputs i row row c.row.ensures)) (sym (get_or_from_slice_get states i state state c.row-in-loop-i.ensures)) (ap (λ (n : ℕ). n + i) c.from.ensures) c.in_ok-push_clock.ensures c.loop-i.invariant

pub returns : goal.returns
returns c =
    let i = c.loop-i.i in
    let text = c.loop-i.text.items in
    let outputs = c.args.outputs.now in
    let past : length outputs ≤ i = omega (arith, c.loop-i-test.false, c.len-i-end.ensures) in
    sym (append-nil text) ∙ ap (λ (rs : List (List Bool)). text ++ rows_text (c.args.first + i) rs (drop i c.args.latches.now)) (sym (drop_all i outputs past)) ∙ c.loop-i.invariant
