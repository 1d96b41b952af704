-- What is wrong with the wires as a whole. Each needed pair of a net and a node has to have one wire, and there is no other.
use Rattle.std.specs.Prelude.{ℕ, Bool, not, ◌&&◌, List, take, Option}
use Rattle.std.specs.List.{list_any}
use Rattle.vw_net.specs.declared.flat.Flat.{Flat}
use Rattle.vw_plan.specs.declared.plan.Plan.{Plan}
use Rattle.vw_plan.specs.declared.wire.Wire.{Wire}
use Rattle.vw_plan.specs.Nets.{is_needed}
use Rattle.vw_plan.specs.Needs.{needed_pairs}
use Rattle.vw_plan.specs.Lead.{brings}
use Rattle.vw_check.specs.declared.fault.PlanFault.{PlanFault}
use Rattle.vw_check.specs.declared.fault.PlanFault.TheVariants.{MissingWire, ExtraWire}
use Rattle.vw_net.specs.FirstFound.{first_at, found_unless}

-- whether one of these wires brings a net to a node
abbrev pub is_brought : List Wire → ℕ → ℕ → Bool
is_brought wires net node = list_any (brings net node) wires

-- the first needed pair, by net and then by node, that has no wire
abbrev pub missing_wire : Flat → Plan → Option PlanFault
missing_wire flat plan = first_at (λ _ need. found_unless (is_brought plan.wires need.net need.to) (MissingWire need.net need.to)) 0 (needed_pairs flat plan.chip_of)

-- the first wire whose pair isn't needed, or has an earlier wire
abbrev pub extra_wire : Flat → Plan → Option PlanFault
extra_wire flat plan = first_at (λ number wire. found_unless (is_needed flat plan.chip_of wire.net wire.to && not (is_brought (take number plan.wires) wire.net wire.to)) (ExtraWire number)) 0 plan.wires
