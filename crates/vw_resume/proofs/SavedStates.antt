-- States that are saved.
use Rattle.std.proofs.Common.{◌≡◌, ◌∙◌, ◌+◌, ◌≤◌, ℕ, Bool, true, false, List, length, refl, ap, arith}
use Rattle.std.proofs.lemmas.List.{length-map}
use Rattle.vw_net.specs.declared.flat.Flat.{Flat}
use Rattle.vw_net.specs.Cells.{latch_count, start_values}
use Rattle.vw_net.specs.History.{outputs_of, state_after}
use Rattle.vw_net.proofs.Counts.{latch_count-le, length-outputs_of, length-start_values, length-state_after}
use Rattle.vw_trace.specs.Triggers.{but_last, counted, shown_history}
use Rattle.vw_resume.specs.Saved.{counted_from_start, saved_text}
use Rattle.vw_resume.specs.States.{Spells, state_text}

-- what is left of a run is the text that is saved
pub saved_is : (unknown : Bool) (flat : Flat) (rows : List (List Bool)) → let start = start_values unknown flat.cells in
    state_text (0 + length (outputs_of flat start rows)) (state_after flat start rows) ≡ saved_text unknown flat rows
saved_is unknown flat rows =
    let start = start_values unknown flat.cells in
    let count : 0 + length (outputs_of flat start rows) ≡ length rows = omega (arith, length-outputs_of flat start rows) in
    ap (λ (n : ℕ). state_text n (state_after flat start rows)) count

-- with a trigger, too
pub saved_shown : (until unknown : Bool) (flat : Flat) (rows : List (List Bool)) → let start = start_values unknown flat.cells in
    state_text (0 + length (shown_history until flat start rows).outputs) (shown_history until flat start rows).last ≡ saved_text unknown flat (counted_from_start until unknown flat rows)
saved_shown false unknown flat rows = saved_is unknown flat rows
saved_shown true unknown flat rows =
    let start = start_values unknown flat.cells in
    let these = counted true flat start rows in
    ap (λ (n : ℕ). state_text (0 + n) (state_after flat start these)) (length-map (outputs_of flat start these) but_last) ∙ saved_is unknown flat these

-- and it spells the state after the rows
pub saved_spells : (unknown : Bool) (flat : Flat) (rows : List (List Bool)) → length rows ≤ 4294967295
    → Spells (saved_text unknown flat rows) (record { clock = length rows; latches = state_after flat (start_values unknown flat.cells) rows })
saved_spells unknown flat rows few =
    let start = start_values unknown flat.cells in
    let long : length (state_after flat start rows) ≡ latch_count flat.cells = length-state_after flat start rows (length-start_values unknown flat.cells) in
    record { few_clocks = few; few_latches = omega (arith, long, latch_count-le flat.cells, flat.few_cells); spelled = refl }
