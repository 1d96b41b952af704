-- Leads by tables: from the leads of nets at their own nodes, and from arrivals at other nodes. Source: this project.
use Rattle.std.specs.Prelude.{◌==◌, ◌+◌, ◌&&◌, ℕ, List, length, slice_index, if◌then◌else◌}
use Rattle.std.specs.Option.{option_map_or}
use Rattle.std.specs.HashMap.{HashMap}
use Rattle.vw_net.specs.declared.flat.Flat.{Flat}
use Rattle.vw_net.specs.Order.{is_gate}
use Rattle.vw_plan.specs.Nets.{driving_cell, node_of}
use Rattle.vw_ready.specs.declared.lead_table.LeadTable.{LeadTable}
use Rattle.vw_ready.specs.Pairs.{pair_in}

-- one past the arrival of a net at a node, by a table of such pairs and what stands at their places; 0 where there is no such
-- pair
abbrev pub arrival_by : {S : Type 0} → HashMap (ℕ × ℕ) ℕ S → List ℕ → ℕ → ℕ → ℕ
arrival_by places arrivals net node = option_map_or (slice_index arrivals) (pair_in places net node) 0

-- the lead of a net at a node: at its own it is known, and at others it is one past the net's arrival
abbrev pub lead_by : Flat → List ℕ → (ℕ → ℕ → ℕ) → List ℕ → ℕ → ℕ → ℕ
lead_by flat chip_of arrived leads node net = if node_of flat chip_of net == node then slice_index leads net else arrived net node

-- the microcycle from which on a node can use a net: a gate on the node needs time to settle
abbrev pub usable_by : Flat → List ℕ → ℕ → (ℕ → ℕ → ℕ) → List ℕ → ℕ → ℕ → ℕ
usable_by flat chip_of settle arrived leads node net =
    lead_by flat chip_of arrived leads node net + (if is_gate (driving_cell flat net) && node_of flat chip_of net == node then settle else 0)

-- ---- by what a lead table knows

-- how many nets there are
abbrev pub nets_in : LeadTable → ℕ
nets_in known = known.ordered.now.flat.inputs + length known.ordered.now.flat.cells

abbrev pub arrival_in : LeadTable → ℕ → ℕ → ℕ
arrival_in known net node = arrival_by known.places.now.places known.arrivals.now net node

abbrev pub lead_in : LeadTable → ℕ → ℕ → ℕ
lead_in known node net = lead_by known.ordered.now.flat known.chip_of.now (arrival_in known) known.leads.now node net

abbrev pub usable_in : LeadTable → ℕ → ℕ → ℕ
usable_in known node net = usable_by known.ordered.now.flat known.chip_of.now known.settle (arrival_in known) known.leads.now node net
