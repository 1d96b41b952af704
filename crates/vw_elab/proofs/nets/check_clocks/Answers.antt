use Rattle.std.proofs.Common.{◌≡◌, None, refl, sym, ◌∙◌}
use Rattle.vw_design.specs.Paths.{Word, printed}
use Rattle.vw_net_faults.specs.declared.nets.Pair.{Pair}
use Rattle.vw_design.specs.NetFaults.{Unlike, Edged, gated_clock, several_clocks, several_edges, clock_as_data}
use Rattle.vw_design.specs.Accepted.{clock_gated, clocks_differ, edges_differ, clock_read}
use Rattle.vw_elab.proofs.FurtherFaults.{nothing_found, printed_is, unlike_ports_are, latches_are, by_parts, of_nets}
use Rattle.vw_elab.proofs.nets.check_clocks.Goals.{After-several_clocks, After-several_edges}
use Rattle.vw_elab.proofs.nets.check_clocks.Goals as goal

abbrev pair_of : Unlike Word → Pair
pair_of two = record { first = two.first; other = two.other }

abbrev latches_of : Unlike Edged → Pair
latches_of two = record { first = printed two.first.net; other = printed two.other.net }

-- no earlier fault is there
free : (c : After-several_clocks) → gated_clock c.args.nets.now.design.now ≡ None
free c = nothing_found printed (gated_clock c.args.nets.now.design.now) c.in_ok-net.field-0 c.in_ok-net.ensures c.in_default.is

one : (c : After-several_edges) → several_clocks c.args.nets.now.design.now ≡ None
one c = nothing_found pair_of (several_clocks c.args.nets.now.design.now) c.in_ok-ports.field-0 c.in_ok-ports.ensures c.in_default-2.is

pub returns-in-Some : goal.returns-in-Some
returns-in-Some c =
    let design = c.args.nets.now.design.now in
    let drivers = c.requires in
    let found = printed_is (gated_clock design) c.in-Some.net (sym c.in-Some.is ∙ c.in_ok-net.ensures) in
    (found.0, of_nets design drivers.models (clock_gated found.0) (by_parts drivers.driven drivers.one_driver found.1 refl refl refl), found.2)

pub returns-in-Some-2 : goal.returns-in-Some-2
returns-in-Some-2 c =
    let design = c.args.nets.now.design.now in
    let drivers = c.requires in
    let ports = c.in-Some-2.ports in
    let clocks : Unlike Word = record { first = ports.first; other = ports.other } in
    let found = unlike_ports_are (several_clocks design) ports (sym c.in-Some-2.is ∙ c.in_ok-ports.ensures) in
    of_nets design drivers.models (clocks_differ clocks)
    (by_parts drivers.driven drivers.one_driver (nothing_found printed (gated_clock design) c.in_ok-net.field-0 c.in_ok-net.ensures c.in_default.is) found refl refl)

pub returns-in-Some-3 : goal.returns-in-Some-3
returns-in-Some-3 c =
    let design = c.args.nets.now.design.now in
    let drivers = c.requires in
    let at = goal.at.returns-in-Some-3 c in
    let found = latches_are (several_edges design) c.in-Some-3.latches (sym c.in-Some-3.is ∙ c.in_ok-latches.ensures) in (
      found.latches,
      of_nets design drivers.models (edges_differ found.latches) (by_parts drivers.driven drivers.one_driver (free at.After-several_clocks) (one at.After-several_edges) found.are refl),
      found.first,
      found.other,
    )

pub returns-in-Some-4 : goal.returns-in-Some-4
returns-in-Some-4 c =
    let design = c.args.nets.now.design.now in
    let drivers = c.requires in
    let at = goal.at.returns-in-Some-4 c in
    let edge = nothing_found latches_of (several_edges design) c.in_ok-latches.field-0 c.in_ok-latches.ensures c.in_default-3.is in
    let found = printed_is (clock_as_data design) c.in-Some-4.net (sym c.in-Some-4.is ∙ c.in_ok-net-2.ensures) in
    (found.0, of_nets design drivers.models (clock_read found.0) (by_parts drivers.driven drivers.one_driver (free at.After-several_clocks) (one at.After-several_edges) edge found.1), found.2)

pub returns : goal.returns
returns c =
    let design = c.args.nets.now.design.now in
    let drivers = c.requires in
    let at = goal.at.returns c in
    record {
      models = drivers.models;
      driven = drivers.driven;
      one_driver = drivers.one_driver;
      clocks_free = free at.After-several_clocks;
      one_clock = one at.After-several_edges;
      one_edge = nothing_found latches_of (several_edges design) c.in_ok-latches.field-0 c.in_ok-latches.ensures c.in_default-3.is;
      no_clock_read = nothing_found printed (clock_as_data design) c.in_ok-net-2.field-0 c.in_ok-net-2.ensures c.in_default-4.is;
    }
