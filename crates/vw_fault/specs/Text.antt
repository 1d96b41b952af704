-- The text of a grading. Source: this project.
use Rattle.std.specs.Prelude.{ℕ, ◌*◌, ◌-◌, Bool, List, [], ◌∷◌, ◌++◌, length, map, codes, decimal, slice_index_or, if◌then◌else◌}
use Rattle.vw_net.specs.declared.flat.Flat.{Flat}
use Rattle.vw_text.specs.Physical.{lines_text}
use Rattle.vw_fault.specs.declared.open.Open.{Open}
use Rattle.vw_fault.specs.Stuck.{open_faults}

-- how many faults there are, and how many of them the rows reveal
abbrev pub head_line : ℕ → ℕ → List ℕ
head_line faults detected = codes "grade 1 " ++ (decimal faults ++ 32 ∷ decimal detected)

-- a fault that they don't reveal: the net as it is printed, and the bit
abbrev pub open_line : List ℕ → Bool → List ℕ
open_line net bit = codes "open " ++ (net ++ (if bit then codes " 1" else codes " 0"))

-- the line of each of them, by the printed nets, and the whole text, of so many faults
abbrev pub open_lines : List (List ℕ) → List Open → List (List ℕ)
open_lines names faults = map (λ fault. open_line (slice_index_or names fault.net []) fault.bit) faults

abbrev pub grading_lines : List (List ℕ) → ℕ → List Open → List (List ℕ)
grading_lines names count left = head_line count (count - length left) ∷ (open_lines names left ++ codes "end" ∷ [])

-- the text of what rows don't reveal of a netlist with these printed nets
abbrev pub grading_text : List (List ℕ) → Flat → List Bool → List (List Bool) → List ℕ
grading_text names flat start rows = lines_text (grading_lines names (2 * length names) (open_faults flat start rows))
