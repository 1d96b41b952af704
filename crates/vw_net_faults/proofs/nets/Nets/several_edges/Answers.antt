use Rattle.std.proofs.Common.{subst, Option}
use Rattle.vw_net_faults.specs.declared.edges.Typed.{Typed}
use Rattle.vw_design.specs.declared.item.Edge.TheVariants.{Unsaid}
use Rattle.vw_net_faults.specs.Steps.Edges.{IsTyped, first_other}
use Rattle.vw_net_faults.proofs.Edged.{no_types, one_type, two_types}
use Rattle.vw_net_faults.proofs.nets.Nets.several_edges.Goals as goal

pub returns-in_default : goal.returns-in_default
returns-in_default c =
    let design = c.args.self.now.design.now in
    no_types design (subst (λ (found : Option Typed). IsTyped design (first_other design Unsaid) found) c.in_default.is c.first_typed.ensures)

pub returns-in_default-first_typed : goal.returns-in_default-first_typed
returns-in_default-first_typed c =
    let design = c.args.self.now.design.now in
    one_type design c.in-Some.first c.in-Some.ensures (subst (λ (found : Option Typed). IsTyped design (first_other design c.in-Some.first.edge) found) c.in_default-first_typed.is c.first_typed-2.ensures)

pub returns : goal.returns
returns c =
    two_types c.args.self.now.design.now c.in-Some.first c.in-Some.ensures c.in-Some-first_typed.other c.in-Some-first_typed.ensures
    c.in_ok-first.first c.in_ok-other.other c.in_ok-first.ensures c.in_ok-other.ensures
