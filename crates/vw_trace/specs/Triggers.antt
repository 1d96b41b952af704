-- Runs that end behind the first clock in which a net is 1. Source: this project, after the trigger of a logic analyzer.
use Rattle.std.specs.Prelude.{ℕ, suc, ◌+◌, ◌-◌, ◌*◌, ◌/◌, Bool, true, false, List, [], ◌∷◌, length, map, take, slice_index_or, if◌then◌else◌}
use Rattle.vw_net.specs.declared.flat.Flat.{Flat}
use Rattle.vw_net.specs.History.{History, flat_history, outputs_of}

-- the trigger is the last output; where a run has none, the first argument of what stands here is `false`

-- whether the last of some bits is 1
abbrev pub last_is_1 : List Bool → Bool
last_is_1 bits = slice_index_or bits (length bits - 1) false

-- how many clocks count, which have these outputs: those up to the first in which the trigger is 1, and with it; or all
abbrev pub clocks_until : List (List Bool) → ℕ
clocks_until [] = 0
clocks_until (outputs ∷ more) = if last_is_1 outputs then 1 else suc (clocks_until more)

-- whether the trigger is 1 in one of them
abbrev pub fires : List (List Bool) → Bool
fires [] = false
fires (outputs ∷ more) = if last_is_1 outputs then true else fires more

-- the rows of the clocks that count, from a state on
abbrev pub counted : Bool → Flat → List Bool → List (List Bool) → List (List Bool)
counted false flat state rows = rows
counted true flat state rows = take (clocks_until (outputs_of flat state rows)) rows

-- ---- what is shown of them

-- all bits but the last
abbrev pub but_last : List Bool → List Bool
but_last bits = take (length bits - 1) bits

-- the trigger isn't shown among the outputs
abbrev pub shown : Bool → History → History
shown false history = history
shown true history = record { outputs = map but_last history.outputs; states = history.states; last = history.last }

-- so many outputs are shown of so many
abbrev pub shown_count : Bool → ℕ → ℕ
shown_count false count = count
shown_count true count = count - 1

-- what is shown of a netlist from a state on
abbrev pub shown_history : Bool → Flat → List Bool → List (List Bool) → History
shown_history until flat state rows = shown until (flat_history flat state (counted until flat state rows))

-- ---- what is worked out for them

-- whole batches of 256 clocks that have so many clocks
abbrev pub in_batches : ℕ → ℕ
in_batches clocks = 256 * ((clocks + 255) / 256)

-- the rows that are worked out, until the clocks are there that count
abbrev pub worked : Bool → Flat → List Bool → List (List Bool) → List (List Bool)
worked false flat state rows = rows
worked true flat state rows = take (in_batches (clocks_until (outputs_of flat state rows))) rows
