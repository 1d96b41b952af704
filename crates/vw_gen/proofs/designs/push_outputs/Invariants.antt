-- what is written, and the names that are left
use Rattle.std.proofs.Common.{◌≡◌, ◌-◌, ◌++◌, ◌∷◌, min}
use Rattle.std.specs.List.{flat_map, range_with_len}
use Rattle.vw_gen.specs.Nets.{cell_name}
use Rattle.vw_gen.proofs.designs.push_outputs.Given as goal

abbrev pub invariant-loop-cell : goal.invariant-loop-cell
invariant-loop-cell l = l.text.items ++ flat_map (λ cell. 32 ∷ cell_name cell) (range_with_len l.cell (l.cells - l.cell)) ≡ l.initial.text.items ++ flat_map (λ cell. 32 ∷ cell_name cell) (range_with_len (l.cells - min 8 l.cells) (min 8 l.cells))
