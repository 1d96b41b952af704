-- Faults that are cut into even shares, and the text of the grading of a share. Source: this project.
use Rattle.std.specs.Prelude.{ℕ, ◌+◌, ◌-◌, ◌*◌, ◌/◌, Bool, not, List, length, take, drop, filter}
use Rattle.vw_net.specs.declared.flat.Flat.{Flat}
use Rattle.vw_net.specs.Gathered.{gather}
use Rattle.vw_text.specs.Physical.{lines_text}
use Rattle.vw_fault.specs.declared.open.Open.{Open}
use Rattle.vw_fault.specs.Stuck.{is_detected, net_faults}
use Rattle.vw_fault.specs.Text.{grading_lines}

-- how many of so many items are in the first so many of even shares, rounded down
abbrev pub share_end : (shares count number : ℕ) → ℕ
share_end shares count number = number * count / shares

-- the items of a share, by its number from 1: those behind the shares before it, up to its own end
abbrev pub share_of : {X : Type 0} → (number shares : ℕ) → List X → List X
share_of number shares items =
    take (share_end shares (length items) number - share_end shares (length items) (number - 1)) (drop (share_end shares (length items) (number - 1)) items)

-- the faults of a share, and those of them that rows don't reveal
abbrev pub shared_faults : (number shares : ℕ) → Flat → List Open
shared_faults number shares flat = share_of number shares (gather net_faults (flat.inputs + length flat.cells))

abbrev pub open_shared : (number shares : ℕ) → Flat → List Bool → List (List Bool) → List Open
open_shared number shares flat start rows = filter (λ fault. not (is_detected flat start rows fault)) (shared_faults number shares flat)

-- the text of what rows don't reveal of a share of the faults of a netlist with these printed nets
abbrev pub share_text : (number shares : ℕ) → List (List ℕ) → Flat → List Bool → List (List Bool) → List ℕ
share_text number shares names flat start rows =
    lines_text (grading_lines names (length (shared_faults number shares flat)) (open_shared number shares flat start rows))
