-- The table of a gate as contracts see it. Source: the Berkeley description of BLIF tables.
use Rattle.std.specs.Prelude.{◌≡◌, ◌≤◌, ℕ, Bool, List, length}
use Rattle.std.specs.List.{All}
use Rattle.vw_net.specs.declared.limits.TheConstants.{MOST_TABLE_INPUTS}
use Rattle.vw_net.specs.declared.cover.Row.{Row}

-- so many inputs, the value where some row matches, and the rows, each with a mark for each input
pub record Table : Type 0 where
  pub inputs : ℕ
  pub on : Bool
  pub rows : List Row
  pub narrow : inputs ≤ MOST_TABLE_INPUTS
  pub even : All (λ row. length row.marks ≡ inputs) rows
