-- What puts and takes leave of the two ends of a link. Source: this project.
use Rattle.std.specs.Prelude.{◌≡◌, ℕ}
use Rattle.vw_prog.specs.Fabric.{SeenPutEnd, SeenTakeEnd}

-- words up to a position were put in, and some puts were refused
abbrev pub HasPut : SeenPutEnd → SeenPutEnd → ℕ → Type 0
HasPut before after position = after ≡ record before { sent = position; full = after.full }

-- words up to a position were taken out, and some takes were refused
abbrev pub HasTaken : SeenTakeEnd → SeenTakeEnd → ℕ → Type 0
HasTaken before after position = after ≡ record before { taken = position; empty = after.empty }
