-- Tables of truth tables.
use Rattle.std.specs.Prelude.{◌≡◌, ℕ, Bool, List, length}
use Rattle.vw_net.specs.Table.{Table}
use Rattle.vw_net.specs.Cover.{cover_value}
use Rattle.vw_net.specs.TruthTable.{bit_of, place_of}

-- a table with so many inputs, whose value is the bit of a truth table at the place of their values
pub record IsTableOf (inputs truth_table : ℕ) (table : Table) : Type 0 where
  pub arity : table.inputs ≡ inputs
  pub agrees : (bits : List Bool) → length bits ≡ inputs → cover_value table bits ≡ bit_of truth_table (place_of bits)
