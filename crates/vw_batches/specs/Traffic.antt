-- The words that the links of a board carry in a run.
use Rattle.std.specs.Prelude.{◌≡◌, ℕ, suc, Bool, List, [], ◌∷◌, ◌++◌, map, ltb, Option, Some, None, option_map, if◌then◌else◌}
use Rattle.vw_net.specs.declared.flat.Flat.{Flat}
use Rattle.vw_net.specs.Cells.{start_values}
use Rattle.vw_net.specs.History.{next_state}
use Rattle.vw_net.specs.Value.{net_value}
use Rattle.vw_plan.specs.PlannedBoard.{PlannedBoard}
use Rattle.vw_prog.specs.declared.entry.Entry.{Entry}
use Rattle.vw_prog.specs.declared.word.Word.{Word}
use Rattle.vw_prog.specs.Fabric.{Carried}
use Rattle.vw_prog.specs.Timetable.{passes}

-- the word of an entry in the clock of a row, from a state; the clock has this number
abbrev pub clock_word : Flat → ℕ → List Bool → List Bool → Entry → Word
clock_word flat clock state row entry =
    record { clock = clock; net = entry.net; pin = entry.place; bit = net_value flat row state entry.net }

-- the words that a link carries in the clocks of some rows, from a state on; the first clock has this number
abbrev pub words_from : PlannedBoard → ℕ → ℕ → List Bool → List (List Bool) → List Word
words_from planned link first state [] = []
words_from planned link first state (row ∷ rows) =
    map (clock_word planned.ordered.flat first state row) (passes planned link)
    ++ words_from planned link (suc first) (next_state planned.ordered.flat row state) rows

-- the words of each link over a whole run, where free latches start at `unknown`
abbrev pub traffic : PlannedBoard → Bool → List (List Bool) → ℕ → List Word
traffic planned unknown rows link = words_from planned link 0 (start_values unknown planned.ordered.flat.cells) rows

-- ---- the workers

-- one worker uses no link
abbrev pub scripts_of : ℕ → (ℕ → List Word) → Option (ℕ → List Word)
scripts_of workers words = if ltb workers 2 then None else Some words

-- what links have carried after further words, where links were used
abbrev pub grown_by : Option (ℕ → List Word) → Carried → Carried
grown_by None links = links
grown_by (Some words) links = option_map (λ so_far. λ link. so_far link ++ words link) links

-- what links have carried after the clocks of some rows, worked out by so many workers
abbrev pub after_rows : ℕ → PlannedBoard → ℕ → List Bool → List (List Bool) → Carried → Carried
after_rows workers planned first state rows links =
    grown_by (scripts_of workers (λ link. words_from planned link first state rows)) links

-- in the clocks of some rows links came from what they had carried before to what they have carried after
abbrev pub HaveCarried : ℕ → PlannedBoard → ℕ → List Bool → Carried → Carried → List (List Bool) → Type 0
HaveCarried workers planned first state before after rows = after ≡ after_rows workers planned first state rows before
