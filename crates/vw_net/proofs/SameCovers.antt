-- Tables with the same inputs, value and rows are the same.
use Rattle.std.proofs.Common.{◌≡◌, ◌≤◌, length}
use Rattle.std.specs.List.{All}
use Rattle.std.proofs.Math.Bridge.{le_prop}
use Rattle.std.proofs.Math.Nat.{ℕ_set}
use mathlib.Core.HLevel.{is_prop→PathP}
use Rattle.vw_net.specs.declared.cover.Row.{Row}
use Rattle.vw_net.specs.declared.limits.TheConstants.{MOST_TABLE_INPUTS}
use Rattle.vw_net.specs.Table.{Table}

pub cover_same : (one other : Table) → one.inputs ≡ other.inputs → one.on ≡ other.on → one.rows ≡ other.rows → one ≡ other
cover_same one other inputs on rows =
    λ i. record {
      inputs = inputs i;
      on = on i;
      rows = rows i;
      narrow = is_prop→PathP (λ j. inputs j ≤ MOST_TABLE_INPUTS) (λ j. le_prop) one.narrow other.narrow i;
      even = is_prop→PathP (λ j. All (λ (row : Row). length row.marks ≡ inputs j) (rows j)) (λ j. hlevel ℕ_set) one.even other.even i;
    }
