-- The text of a generated design of so many cells; this number is also the start of its draws. Source: this project.
use Rattle.std.specs.Prelude.{ℕ, ◌+◌, ◌-◌, ◌*◌, ◌/◌, ◌%◌, List, [], ◌∷◌, ◌++◌, min, codes, if◌then◌else◌, ◌==◌}
use Rattle.std.specs.List.{flat_map, range_with_len}
use Rattle.std.specs.Fmt.{decimal}
use Rattle.vw_text.specs.Physical.{lines_text}
use Rattle.vw_gen.specs.Draws.{draw}
use Rattle.vw_gen.specs.Nets.{net_name, cell_name}

-- the outputs are the nets of the last eight cells, or of all where there are fewer
abbrev pub outputs_line : ℕ → List ℕ
outputs_line cells = codes ".outputs" ++ flat_map (λ cell. 32 ∷ cell_name cell) (range_with_len (cells - min 8 cells) (min 8 cells))

-- the net that a draw gives a gate as an input: one of the 64 before its own, or of all where there are fewer
abbrev pub net_before : ℕ → ℕ → ℕ → ℕ
net_before start number cell = 7 + cell - draw start number (min (8 + cell) 64)

-- the line of a gate with these inputs
abbrev pub names_line : ℕ → ℕ → ℕ → List ℕ
names_line first second cell = codes ".names " ++ net_name first ++ 32 ∷ net_name second ++ 32 ∷ cell_name cell

-- the rows of a gate: and, or, exclusive or, not and
abbrev pub gate_rows : ℕ → List (List ℕ)
gate_rows kind =
    if kind == 0 then codes "11 1" ∷ []
    else (if kind == 1 then codes "1- 1" ∷ codes "-1 1" ∷ []
    else (if kind == 2 then codes "10 1" ∷ codes "01 1" ∷ []
    else codes "11 0" ∷ []))

-- a gate, by the next three draws: its first input, its second, and its rows
abbrev pub gate_lines : ℕ → ℕ → ℕ → List (List ℕ)
gate_lines start drawn cell = names_line (net_before start (drawn + 1) cell) (net_before start (drawn + 2) cell) cell ∷ gate_rows (draw start (drawn + 3) 4)

-- a latch, by the next two draws: its input, which is any net, and its initial value
abbrev pub latch_line : ℕ → ℕ → ℕ → ℕ → List ℕ
latch_line start drawn cells cell = codes ".latch " ++ net_name (draw start (drawn + 1) (8 + cells)) ++ 32 ∷ cell_name cell ++ 32 ∷ decimal (draw start (drawn + 2) 2)

-- the number of draws before a cell: each four cells take eleven, as three gates and a latch
abbrev pub draws_before : ℕ → ℕ
draws_before cell = 11 * (cell / 4) + 3 * (cell % 4)

-- every fourth cell is a latch, and the others are gates
abbrev pub cell_lines : ℕ → ℕ → List (List ℕ)
cell_lines cells cell = if cell % 4 == 3 then latch_line cells (draws_before cell) cells cell ∷ [] else gate_lines cells (draws_before cell) cell

-- the lines of the design
abbrev pub design_lines : ℕ → List (List ℕ)
design_lines cells =
    codes ".model demo" ∷ codes ".inputs i0 i1 i2 i3 i4 i5 i6 i7" ∷ outputs_line cells
    ∷ (flat_map (cell_lines cells) (range_with_len 0 cells) ++ codes ".end" ∷ [])

-- the text of the design, with the end of a line behind each line
abbrev pub design_text : ℕ → List ℕ
design_text cells = lines_text (design_lines cells)
