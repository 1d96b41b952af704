-- Nets that are stuck at a bit, and the rows that reveal them.
use Rattle.std.specs.Prelude.{ℕ, ◌+◌, ◌==◌, Bool, true, false, not, ◌||◌, List, [], ◌∷◌, length, filter, if◌then◌else◌}
use Rattle.vw_net.specs.declared.flat.Flat.{Flat}
use Rattle.vw_net.specs.Gathered.{gather}
use Rattle.vw_net.specs.History.{outputs_of}
use Rattle.vw_fault.specs.declared.open.Open.{Open}
use Rattle.vw_fault.specs.Found.{found_outputs}

-- every reader of the stuck net finds the bit at which it is stuck; each other net is found as it is
abbrev pub find_stuck : Open → ℕ → Bool → Bool
find_stuck fault net bit = if net == fault.net then fault.bit else bit

-- whether two bits, two lists of bits, two lists of clocks differ
abbrev pub differ : Bool → Bool → Bool
differ one other = if one then not other else other

abbrev pub bits_differ : List Bool → List Bool → Bool
bits_differ [] [] = false
bits_differ [] (other ∷ others) = true
bits_differ (one ∷ ones) [] = true
bits_differ (one ∷ ones) (other ∷ others) = differ one other || bits_differ ones others

abbrev pub clocks_differ : List (List Bool) → List (List Bool) → Bool
clocks_differ [] [] = false
clocks_differ [] (other ∷ others) = true
clocks_differ (one ∷ ones) [] = true
clocks_differ (one ∷ ones) (other ∷ others) = bits_differ one other || clocks_differ ones others

-- whether rows reveal a fault: the outputs of some clock differ between the faulty and the plain history
unfoldable pub is_detected : Flat → List Bool → List (List Bool) → Open → Bool
is_detected flat start rows fault = clocks_differ (found_outputs (find_stuck fault) flat start rows) (outputs_of flat start rows)

-- the two faults of a net
abbrev pub net_faults : ℕ → List Open
net_faults net = record { net = net; bit = false } ∷ record { net = net; bit = true } ∷ []

-- the faults that rows don't reveal, by net and then bit 0 before bit 1
abbrev pub open_faults : Flat → List Bool → List (List Bool) → List Open
open_faults flat start rows = filter (λ fault. not (is_detected flat start rows fault)) (gather net_faults (flat.inputs + length flat.cells))
