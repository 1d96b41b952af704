-- States that are saved. Source: this project.
use Rattle.std.specs.Prelude.{ℕ, ◌-◌, ◌%◌, ◌==◌, Bool, List, [], ◌∷◌, ◌++◌, length, take}
use Rattle.std.specs.List.{filter, flat_map, range_with_len}
use Rattle.vw_net.specs.declared.flat.Flat.{Flat}
use Rattle.vw_net.specs.Cells.{start_values}
use Rattle.vw_net.specs.History.{state_after}
use Rattle.vw_trace.specs.Triggers.{counted}
use Rattle.vw_resume.specs.States.{state_text}

-- the state of a netlist after some rows, from the start values on, where free latches start at `unknown`
abbrev pub saved_text : Bool → Flat → List (List Bool) → List ℕ
saved_text unknown flat rows = state_text (length rows) (state_after flat (start_values unknown flat.cells) rows)

-- of some rows those that count, from these start values on, where with `until` the last output is a trigger
abbrev pub counted_from_start : Bool → Bool → Flat → List (List Bool) → List (List Bool)
counted_from_start until unknown flat = counted until flat (start_values unknown flat.cells)

-- ---- on the way

-- of a run of so many clocks, how many are worked out where a state is kept: each multiple of `every` before the end, and all
abbrev pub kept_clocks : ℕ → ℕ → List ℕ
kept_clocks every all = filter (λ clock. clock % every == 0) (range_with_len 1 (all - 1)) ++ all ∷ []

-- a text of the first rows for each of these, where `text` is that of any rows
abbrev pub kept_texts : ℕ → (List (List Bool) → List ℕ) → List (List Bool) → List ℕ
kept_texts every text rows = flat_map (λ clock. text (take clock rows)) (kept_clocks every (length rows))
