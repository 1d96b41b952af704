-- Faults of nets, each with its first place in preorder. Source: the Berkeley description of BLIF; the rules on clocks
-- are this project's profile.
use Rattle.std.specs.Prelude.{ℕ, Bool, true, false, not, List, [], ◌∷◌, ◌++◌, find, take, is_none, Option, Some, None, option_map, flat_map, filter_map, if◌then◌else◌}
use Rattle.std.specs.Str.{bytes_eq}
use Rattle.vw_design.specs.declared.item.Bind.{Bind}
use Rattle.vw_design.specs.declared.item.Edge.{Edge}
use Rattle.vw_design.specs.declared.item.Edge.TheVariants.{Rise, Fall, Unsaid}
use Rattle.vw_design.specs.declared.item.Item.{Item}
use Rattle.vw_design.specs.declared.item.Item.TheVariants.{Names, Latch, Sub}
use Rattle.vw_design.specs.declared.model.Model.{Model}
use Rattle.vw_design.specs.declared.design.Design.{Design}
use Rattle.vw_design.specs.Distinct.{has_name}
use Rattle.vw_net.specs.FirstFound.{first_found}
use Rattle.vw_design.specs.Paths.{Word, Path, Net, model_named, model_at, model_outputs}
use Rattle.vw_design.specs.Drivers.{Source, at_port, at_cell, driver}
use Rattle.vw_design.specs.Preorder.{Site, sites, latches}
use Rattle.vw_design.specs.NetReads.{net_at, net_reads, data_reads, controls}
use Rattle.vw_design.specs.Clocks.{clock_ports, control_ports}

-- 19: a net that is read has no driver
abbrev pub undriven : Design → Option Net
undriven design = find (λ net. is_none (driver design net.path net.name)) (net_reads design)

-- the actual of a binding, where its formal is one of these outputs
abbrev pub bound_actual : List Word → Bind → Option Word
bound_actual outputs bind = if has_name outputs bind.formal then Some bind.actual else None

-- the names that an item claims, in order, one for each claim
abbrev pub claimed_by : Design → Item → List Word
claimed_by design (Names line ins out cover) = out ∷ []
claimed_by design (Latch line d q edge control init) = q ∷ []
claimed_by design (Sub line model binds) = filter_map (bound_actual (model_outputs (model_named design.models model))) binds

-- the names that the ports and the items before a number of a model claim
abbrev pub claimed_before : Design → Option Model → ℕ → List Word
claimed_before design None number = []
claimed_before design (Some model) number = model.inputs ++ model.clocks ++ flat_map (claimed_by design) (take number model.items)

-- the first name that stands before, or twice
abbrev pub first_again : List Word → List Word → Option Word
first_again before [] = None
first_again before (name ∷ names) = if has_name before name then Some name else first_again (name ∷ before) names

-- the net that an item claims and that a port or an earlier item of its instance claimed, or the item itself before
abbrev pub claimed_again : Design → Site → Option Net
claimed_again design site =
    option_map (net_at site.path) (first_again (claimed_before design (model_at design site.path) site.number) (claimed_by design site.item))

-- 20: a net has two claims; the net whose second claim comes first. All claims on a net are of its own instance
abbrev pub two_drivers : Design → Option Net
two_drivers design = first_found (claimed_again design) (sites design)

-- whether a driver is a gate or a latch
abbrev pub is_cell_source : Option Source → Bool
is_cell_source None = false
is_cell_source (Some (at_port name)) = false
is_cell_source (Some (at_cell path item)) = true

-- 21: the driver of a control is a gate or a latch
abbrev pub gated_clock : Design → Option Net
gated_clock design = find (λ net. is_cell_source (driver design net.path net.name)) (controls design)

-- the first element, and the first after it that a test tells from it
pub record Unlike (A : Type 0) : Type 0 where
  pub first : A
  pub other : A

-- the first of a list, with the first behind it that isn't the same
abbrev pub first_unlike : {A : Type 0} → (A → A → Bool) → List A → Option (Unlike A)
first_unlike same [] = None
first_unlike same (x ∷ xs) = option_map (λ other. record { first = x; other = other }) (find (λ other. not (same x other)) xs)

-- 22: two controls have different root ports: that of the first, and the first other one
abbrev pub several_clocks : Design → Option (Unlike Word)
several_clocks design = first_unlike bytes_eq (control_ports design)

-- a latch by the net that it drives, with the edge that it writes
pub record Edged : Type 0 where
  pub net : Net
  pub edge : Edge

-- the edge of a latch, with its net, where one is written
abbrev pub written_edge : Path → Word → Edge → Option Edged
written_edge path name Rise = Some (record { net = net_at path name; edge = Rise })
written_edge path name Fall = Some (record { net = net_at path name; edge = Fall })
written_edge path name Unsaid = None

-- the edge that an item writes, with its net, where it is a latch that writes one
abbrev pub edge_at : Path → Item → Option Edged
edge_at path (Names line ins out cover) = None
edge_at path (Latch line d q edge control init) = written_edge path q edge
edge_at path (Sub line model binds) = None

-- whether two edges are the same
abbrev pub same_edge : Edge → Edge → Bool
same_edge Rise Rise = true
same_edge Fall Fall = true
same_edge Unsaid Unsaid = true
same_edge one other = false

-- 23: two latches write different types: the first that writes one, and the first that differs from it
abbrev pub several_edges : Design → Option (Unlike Edged)
several_edges design = first_unlike (λ one other. same_edge one.edge other.edge) (filter_map (λ site. edge_at site.path site.item) (latches design))

-- whether a driver is a clock port
abbrev pub is_clock_source : Design → Option Source → Bool
is_clock_source design None = false
is_clock_source design (Some (at_port name)) = has_name (clock_ports design) name
is_clock_source design (Some (at_cell path item)) = false

-- 24: a gate, the data input of a latch or an output of the root reads a clock port
abbrev pub clock_as_data : Design → Option Net
clock_as_data design = find (λ net. is_clock_source design (driver design net.path net.name)) (data_reads design)
