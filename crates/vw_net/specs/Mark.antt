-- Rows of a table against values. Source: the Berkeley description of BLIF tables.
use Rattle.std.specs.Prelude.{Bool, true, false, not, ◌&&◌, List, [], ◌∷◌}
use Rattle.vw_net.specs.declared.cover.Mark.{Mark}
use Rattle.vw_net.specs.declared.cover.Mark.TheVariants.{Zero, One, Any}

-- whether a value is one that a mark asks for
abbrev pub mark_matches : Mark → Bool → Bool
mark_matches Zero bit = not bit
mark_matches One bit = bit
mark_matches Any bit = true

-- whether each mark matches the bit of its place
abbrev pub row_matches : List Mark → List Bool → Bool
row_matches [] bits = true
row_matches (mark ∷ marks) [] = false
row_matches (mark ∷ marks) (bit ∷ bits) = mark_matches mark bit && row_matches marks bits
