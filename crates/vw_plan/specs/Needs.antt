-- The needed pairs of a placement, as a list, and how deep each of them is.
use Rattle.std.specs.Prelude.{◌==◌, ◌+◌, ◌&&◌, ◌||◌, ℕ, zero, suc, Bool, List, length, map, nat_lt, if◌then◌else◌}
use Rattle.std.specs.List.{filter, flat_map, range_with_len}
use Rattle.vw_net.specs.declared.flat.Flat.{Flat}
use Rattle.vw_plan.specs.declared.need.Need.{Need}
use Rattle.vw_net.specs.Lists.{greatest}
use Rattle.vw_plan.specs.Nets.{driving_cell, is_needed, node_of, greatest_read}

-- the nodes at which a net is needed, by their numbers; no node above the greatest chip has cells
abbrev pub needed_nodes : Flat → List ℕ → ℕ → List ℕ
needed_nodes flat chip_of net = filter (is_needed flat chip_of net) (range_with_len 0 (greatest chip_of + 1))

-- the needed pairs of a net and a node, by net and then by node
unfoldable pub needed_pairs : Flat → List ℕ → List Need
needed_pairs flat chip_of = flat_map (λ net. map (λ node. record { net = net; to = node }) (needed_nodes flat chip_of net)) (range_with_len 0 (flat.inputs + length flat.cells))

-- one for a net that comes from another node, 0 for a net of the same node
abbrev pub crossing : Flat → List ℕ → ℕ → ℕ → ℕ
crossing flat chip_of net read = if node_of flat chip_of read == node_of flat chip_of net then 0 else 1

-- the depth of a net, where at most this many drivers are followed in a row: 0 for an input or a latch, and for a gate the
-- greatest of what it reads
abbrev pub level_depth : ℕ → Flat → List ℕ → ℕ → ℕ
level_depth zero flat chip_of net = 0
level_depth (suc level) flat chip_of net =
    greatest_read (λ read. level_depth level flat chip_of read + crossing flat chip_of net read) (driving_cell flat net)

-- the depth of a net, and of each pair of it: how many wires must come one after the other, within one clock, before the
-- net has its value. 0 for an input or a latch. One level more than there are cells is enough, since gates don't read in
-- a circle
unfoldable pub depth : Flat → List ℕ → ℕ → ℕ
depth flat chip_of net = level_depth (length flat.cells + 1) flat chip_of net

-- whether a pair is of this net and this node
abbrev pub is_pair : ℕ → ℕ → Need → Bool
is_pair net node need = need.net == net && need.to == node

-- whether a pair comes before another one: by net, and then by node
abbrev pub comes_before : Need → Need → Bool
comes_before need other = nat_lt need.net other.net || (need.net == other.net && nat_lt need.to other.to)
