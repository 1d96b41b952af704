-- Faults that are graded together.
use Rattle.std.specs.Prelude.{ℕ, ◌+◌, Bool, not, List, [], ◌∷◌, length, take, filter, if◌then◌else◌}
use Rattle.vw_net.specs.TruthTable.{bit_of}
use Rattle.vw_fault.specs.declared.grading.Grading.{Grading}
use Rattle.vw_fault.specs.declared.open.Open.{Open}
use Rattle.vw_fault.specs.Stuck.{is_detected}

-- how many nets there are
abbrev pub net_count : Grading → ℕ
net_count grading = grading.ordered.now.flat.inputs + length grading.ordered.now.flat.cells

-- the rows that are run, and the outputs of their clocks where nothing is stuck
abbrev pub rows_of : Grading → List (List Bool)
rows_of grading = take grading.count grading.rows.now

abbrev pub plain_of : Grading → List (List Bool)
plain_of grading = take grading.count grading.plain.now

-- whether the rows reveal a fault
abbrev pub is_seen : Grading → Open → Bool
is_seen grading fault = is_detected grading.ordered.now.flat grading.start.now (rows_of grading) fault

-- the faults that they don't reveal
abbrev pub open_of : Grading → List Open → List Open
open_of grading faults = filter (λ fault. not (is_seen grading fault)) faults

-- the faults whose lanes aren't seen, the first of them in this lane
abbrev pub left_open : ℕ → ℕ → List Open → List Open
left_open seen lane [] = []
left_open seen lane (fault ∷ faults) = if bit_of seen lane then left_open seen (lane + 1) faults else fault ∷ left_open seen (lane + 1) faults
