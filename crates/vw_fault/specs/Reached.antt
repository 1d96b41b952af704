-- Nets that may reach an output, over gates and latches and any number of clocks.
use Rattle.std.specs.Prelude.{◌≡◌, ℕ, ◌+◌, Bool, true, slice_get}
use Rattle.std.specs.List.{All}
use Rattle.vw_net.specs.declared.flat.Flat.{Flat}
use Rattle.vw_net.specs.Order.{read_nets_at}

-- each output is among these nets; and with the net of a cell, so is each net that the cell reads
pub record IsClosedByReading (flat : Flat) (reaches : ℕ → Bool) : Type 0 where
  pub outputs : All (λ net. reaches net ≡ true) flat.outputs
  pub reads : (number : ℕ) → reaches (flat.inputs + number) ≡ true → All (λ net. reaches net ≡ true) (read_nets_at (slice_get flat.cells number))
