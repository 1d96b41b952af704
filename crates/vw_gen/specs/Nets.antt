-- The names of nets. Source: this project.
use Rattle.std.specs.Prelude.{ℕ, ◌+◌, ◌-◌, List, ◌∷◌, if◌then◌else◌, nat_lt}
use Rattle.std.specs.Fmt.{decimal}

-- eight inputs, `i0` to `i7`, and then the nets of the cells, `c0` and so on
abbrev pub net_name : ℕ → List ℕ
net_name net = if nat_lt net 8 then 105 ∷ decimal net else 99 ∷ decimal (net - 8)

-- the name of the net of a cell
abbrev pub cell_name : ℕ → List ℕ
cell_name cell = net_name (8 + cell)
