-- A netlist as a text, in numbers and names. Source: this project.
use Rattle.std.specs.Prelude.{ℕ, List, [], ◌∷◌, ◌++◌, length, take, codes, slice_index_or}
use Rattle.std.specs.List.{flat_map}
use Rattle.std.specs.Fmt.{decimal}
use Rattle.vw_net.specs.declared.cell.Cell.{Cell}
use Rattle.vw_net.specs.declared.cell.Cell.TheVariants.{Gate, Latch}
use Rattle.vw_net.specs.declared.flat.Flat.{Flat}
use Rattle.vw_net.specs.Cells.{read_nets}
use Rattle.vw_net.specs.Gathered.{listed}
use Rattle.vw_text.specs.Physical.{lines_text}

-- ---- words

-- numbers, each behind a space
abbrev pub number_words : List ℕ → List ℕ
number_words numbers = flat_map (λ number. 32 ∷ decimal number) numbers

-- what a net is, its number, and its name
abbrev pub net_words : List ℕ → ℕ → List ℕ → List ℕ
net_words kind net name = kind ++ (32 ∷ (decimal net ++ 32 ∷ name))

-- ---- lines

-- how many columns, cells and outputs there are
abbrev pub head_line : Flat → List ℕ
head_line flat = codes "nets 1" ++ number_words (flat.inputs ∷ length flat.cells ∷ length flat.outputs ∷ [])

-- a net that is a column
abbrev pub column_line : ℕ → List ℕ → List ℕ
column_line net name = net_words (codes "column") net name

-- a net that a cell drives, and the nets that the cell reads, in order
abbrev pub cell_kind : Cell → List ℕ
cell_kind (Gate ins cover) = codes "gate"
cell_kind (Latch d init) = codes "latch"

abbrev pub cell_line : ℕ → List ℕ → Cell → List ℕ
cell_line net name cell = net_words (cell_kind cell) net name ++ number_words (read_nets cell)

-- a net whose value is an output, and the name of the output
abbrev pub output_line : ℕ → List ℕ → List ℕ
output_line net name = net_words (codes "output") net name

-- ---- the text

-- columns are the first nets, by their numbers
abbrev pub column_lines : List (List ℕ) → List (List ℕ)
column_lines names = listed (λ net name. column_line net name ∷ []) 0 names

-- the cells, in order, of which the first drives this net, and each other one the net behind that of the one before it; each
-- net has a name
abbrev pub cell_lines : List (List ℕ) → ℕ → List Cell → List (List ℕ)
cell_lines names first cells = listed (λ net cell. cell_line net (slice_index_or names net []) cell ∷ []) first cells

-- the outputs, in order, each with its name
abbrev pub output_lines : List (List ℕ) → List ℕ → List (List ℕ)
output_lines names outputs = listed (λ place net. output_line net (slice_index_or names place []) ∷ []) 0 outputs

-- the text of a netlist whose nets are printed so, and whose outputs have these names
abbrev pub netlist_lines : List (List ℕ) → List (List ℕ) → Flat → List (List ℕ)
netlist_lines nets outputs flat =
    head_line flat
    ∷ (column_lines (take flat.inputs nets)
    ++ (cell_lines nets flat.inputs flat.cells
    ++ (output_lines outputs flat.outputs ++ codes "end" ∷ [])))

abbrev pub netlist_text : List (List ℕ) → List (List ℕ) → Flat → List ℕ
netlist_text nets outputs flat = lines_text (netlist_lines nets outputs flat)
