-- What sums up a run of the generated texts. Source: this project.
use Rattle.std.specs.Prelude.{◌+◌, ◌*◌, ◌%◌, ◌++◌, ◌==◌, ℕ, List, [], ◌∷◌, codes, count_by, fold}
use Rattle.std.specs.Fmt.{decimal}

-- how many bytes of a trace are the digit 1
abbrev pub ones : List ℕ → ℕ
ones trace = count_by (λ byte. byte == 49) trace

-- all bytes of a trace, folded into 32 bits
abbrev pub folded : List ℕ → ℕ
folded trace = fold (λ so_far byte. (so_far * 31 + byte) % 4294967296) 0 trace

-- the summary: the number of cells, that of clocks, that of ones, and the fold
abbrev pub summary : ℕ → List ℕ → List ℕ
summary cells trace =
    codes "demo " ++ (decimal cells ++ (codes " 300 " ++ (decimal (ones trace) ++ (32 ∷ decimal (folded trace) ++ 10 ∷ []))))
