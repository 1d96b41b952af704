-- Gates that read each other in a circle, by their cell numbers. A latch isn't a gate, so feedback through one is none.
use Rattle.std.specs.Prelude.{◌<◌, ◌==◌, ℕ, List, length, IsTrue}
use Rattle.std.specs.List.{AllZip, IsDistinct}
use Rattle.vw_net.specs.declared.flat.Flat.{Flat}
use Rattle.vw_net.specs.Lists.{turned}
use Rattle.vw_order.specs.Circles.{BeginsWithLeast}
use Rattle.vw_order.specs.GateReads.{gate_reads}

-- each gate reads the net of the next one, and the last one that of the first. A gate that reads its own net is a circle
pub record IsGateCircle (flat : Flat) (numbers : List ℕ) : Type 0 where
  pub some : 0 < length numbers
  pub each : AllZip (λ number next. IsTrue (gate_reads flat number next)) numbers (turned numbers)

-- a circle as it is listed: no gate twice, and the least number first
pub record IsListedLoop (flat : Flat) (numbers : List ℕ) : Type 0 where
  pub circle : IsGateCircle flat numbers
  pub once : IsDistinct ◌==◌ numbers
  pub least : BeginsWithLeast numbers

-- no list of gates is a loop
abbrev pub IsLoopFree : Flat → Type 0
IsLoopFree flat = (numbers : List ℕ) → IsListedLoop flat numbers → ⊥
