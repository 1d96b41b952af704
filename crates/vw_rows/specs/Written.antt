-- The plain way to write rows, one a line, each as a trace writes bits.
use Rattle.std.specs.Prelude.{ℕ, Bool, List, [], ◌∷◌, ◌++◌}
use Rattle.std.specs.List.{flat_map}
use Rattle.vw_text.specs.Printed.{bits_text}

abbrev pub rows_written : List (List Bool) → List ℕ
rows_written rows = flat_map (λ row. bits_text row ++ 10 ∷ []) rows
