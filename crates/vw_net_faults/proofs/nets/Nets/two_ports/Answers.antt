use Rattle.std.proofs.Common.{◌∙◌, Some, ap, ap₂, sym}
use Rattle.std.proofs.lemmas.Option.{none-some, same_Some}
use Rattle.vw_design.specs.Paths.{Word, lent}
use Rattle.vw_drivers.specs.Tables.{root_firsts}
use Rattle.vw_net_faults.specs.Steps.Ports.{root_ports}
use Rattle.vw_net_faults.proofs.ClockFlags.{found_by_number}
use Rattle.vw_net_faults.proofs.nets.Nets.two_ports.Goals as goal

pub returns-in_default : goal.returns-in_default
returns-in_default c = λ one two is_one is_two first other.
    let found = found_by_number (root_firsts c.args.self.now.tables.now) (root_ports c.args.self.now.design.now) one c.args.first is_one first in
    absurd (none-some one (ap lent (sym c.in_default.is) ∙ c.port_named.ensures ∙ found))

pub returns-in_default-port_named : goal.returns-in_default-port_named
returns-in_default-port_named c = λ one two is_one is_two first other.
    let found = found_by_number (root_firsts c.args.self.now.tables.now) (root_ports c.args.self.now.design.now) two c.args.other is_two other in
    absurd (none-some two (ap lent (sym c.in_default-port_named.is) ∙ c.port_named-2.ensures ∙ found))

pub returns : goal.returns
returns c = λ one two is_one is_two first other.
    let root = root_firsts c.args.self.now.tables.now in
    let ports = root_ports c.args.self.now.design.now in
    let same_one = same_Some c.in-Some.first.now one (c.in-Some.ensures ∙ found_by_number root ports one c.args.first is_one first) in
    let same_two = same_Some c.in-Some-port_named.other.now two (c.in-Some-port_named.ensures ∙ found_by_number root ports two c.args.other is_two other) in
    ap₂ (λ (a b : Word). Some (record { first = a; other = b })) (c.in_ok-first.ensures ∙ same_one) (c.in_ok-other.ensures ∙ same_two)
