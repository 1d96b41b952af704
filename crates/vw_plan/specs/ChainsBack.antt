-- How nets of other nodes come to a net of a node: over gates of that node. Source: this project.
use Rattle.std.specs.Prelude.{◌≡◌, ◌≢◌, ◌≤◌, ◌+◌, ◌⊎◌, ℕ, Bool, List, [], ◌∷◌, IsTrue}
use Rattle.vw_net.specs.declared.flat.Flat.{Flat}
use Rattle.vw_net.specs.Order.{is_among, gate_inputs}
use Rattle.vw_plan.specs.Needs.{depth}
use Rattle.vw_plan.specs.Nets.{driving_cell, node_of}

-- whether a net is a gate's that reads another net
abbrev pub is_read_by : Flat → ℕ → ℕ → Bool
is_read_by flat net read = is_among (gate_inputs (driving_cell flat net)) read

-- a way back over gates of one node: each of these nets is of the node, and is read by the gate of the one before it,
-- the first of them by that of the net; the last of them is where the way ends
abbrev pub IsChainBack : Flat → List ℕ → ℕ → List ℕ → ℕ → Type 0
IsChainBack flat chip_of net [] end = net ≡ end
IsChainBack flat chip_of net (read ∷ reads) end =
    IsTrue (is_read_by flat net read) × (node_of flat chip_of read ≡ node_of flat chip_of net) × IsChainBack flat chip_of read reads end

-- a net of another node that a gate reads to which a way back leads
pub record IsInlet (flat : Flat) (chip_of : List ℕ) (net inlet : ℕ) : Type 0 where
  pub nets : List ℕ
  pub end : ℕ
  pub way : IsChainBack flat chip_of net nets end
  pub read : IsTrue (is_read_by flat end inlet)
  pub crosses : node_of flat chip_of inlet ≢ node_of flat chip_of end

-- a number that is one more than the greatest depth of an inlet, or 0 where there is none
pub record IsDeepest (flat : Flat) (chip_of : List ℕ) (net number : ℕ) : Type 0 where
  pub most : (inlet : ℕ) → IsInlet flat chip_of net inlet → depth flat chip_of inlet + 1 ≤ number
  pub reached : (number ≡ 0) ⊎ ((inlet : ℕ) × IsInlet flat chip_of net inlet × (number ≡ depth flat chip_of inlet + 1))
