-- The microcycles before which no plan can have a net at a node, by the delays between nodes. Source: this project.
use Rattle.std.specs.Prelude.{◌==◌, ◌+◌, ℕ, zero, suc, List, [], ◌∷◌, length, map, max, slice_index, if◌then◌else◌}
use Rattle.vw_net.specs.declared.cell.Cell.{Cell}
use Rattle.vw_net.specs.declared.cell.Cell.TheVariants.{Gate, Latch}
use Rattle.vw_net.specs.Lists.{greatest}
use Rattle.vw_net.specs.Order.{is_gate}
use Rattle.vw_plan.specs.Needs.{needed_pairs}
use Rattle.vw_plan.specs.Nets.{driving_cell, greatest_read}
use Rattle.vw_delays.specs.Delays.{least_delay}
use Rattle.vw_bound.specs.PlacedDesigns.{PlacedDesign, flat_of, home_in}

-- how many microcycles a net takes to settle: a gate's takes those of the board
abbrev pub settling : PlacedDesign → ℕ → ℕ
settling placed net = if is_gate (driving_cell (flat_of placed) net) then placed.board.settle else 0

-- ---- by numbers of nets, each a microcycle before which the net hasn't its value at its own node

-- the net settles there, and goes the quickest way to the node
abbrev pub there_by : PlacedDesign → (ℕ → ℕ) → ℕ → ℕ → ℕ
there_by placed soon_of net node = soon_of net + settling placed net + least_delay placed.board (home_in placed net) node

-- the same where a gate of the node reads the net: gates of one node settle together
abbrev pub read_by : PlacedDesign → (ℕ → ℕ) → ℕ → ℕ → ℕ
read_by placed soon_of node net = if home_in placed net == node then soon_of net else there_by placed soon_of net node

-- the node of a latch needs what the latch reads; a gate needs nothing at the end of a clock
abbrev pub cell_due_by : PlacedDesign → (ℕ → ℕ) → ℕ → Cell → ℕ
cell_due_by placed soon_of number (Gate ins cover) = 0
cell_due_by placed soon_of number (Latch d init) = there_by placed soon_of d (slice_index placed.chip_of number)

-- the last of what cells need, which are numbered from a number on
abbrev pub cells_due_by : PlacedDesign → (ℕ → ℕ) → ℕ → List Cell → ℕ
cells_due_by placed soon_of number [] = 0
cells_due_by placed soon_of number (cell ∷ cells) = max (cell_due_by placed soon_of number cell) (cells_due_by placed soon_of (suc number) cells)

-- the last of the needed pairs and of what latches read; at least one microcycle
abbrev pub due_by : PlacedDesign → (ℕ → ℕ) → ℕ
due_by placed soon_of =
    max 1 (max (greatest (map (λ need. there_by placed soon_of need.net need.to) (needed_pairs (flat_of placed) placed.chip_of)))
    (cells_due_by placed soon_of 0 (flat_of placed).cells))

-- ---- by depth

-- the least microcycle in which a net can have its value at its own node, where at most this many drivers are followed in
-- a row: 0 for an input or a latch, and for a gate the greatest of what it reads
abbrev pub level_soon : ℕ → PlacedDesign → ℕ → ℕ
level_soon zero placed net = 0
level_soon (suc level) placed net = greatest_read (read_by placed (level_soon level placed) (home_in placed net)) (driving_cell (flat_of placed) net)

-- one level more than there are cells is enough, since gates don't read in a circle
unfoldable pub soon : PlacedDesign → ℕ → ℕ
soon placed net = level_soon (length placed.ordered.flat.cells + 1) placed net

-- the least microcycle in which a net can be at a node
abbrev pub there : PlacedDesign → ℕ → ℕ → ℕ
there placed net node = there_by placed (soon placed) net node

-- the last microcycle that the depth of the design asks for
abbrev pub depth_bound : PlacedDesign → ℕ
depth_bound placed = due_by placed (soon placed)
