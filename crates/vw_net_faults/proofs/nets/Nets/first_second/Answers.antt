use Rattle.std.proofs.Common.{◌≡◌, ◌<◌, ◌∙◌, ◌+◌, ℕ, List, Option, length, sym, ap, subst, arith}
use Rattle.vw_design.specs.Preorder.{instances}
use Rattle.vw_design.proofs.ListPlaces.{at_within}
use Rattle.vw_instances.specs.declared.tables.ListedInstance.{ListedInstance}
use Rattle.vw_net_faults.specs.declared.two_drivers.Second.{Second}
use Rattle.vw_net_faults.specs.Steps.SecondClaims.{IsFirstSecond}
use Rattle.vw_net_faults.proofs.InstancePlaces.{as_many}
use Rattle.vw_net_faults.proofs.FirstAgain.{taken, kept}
use Rattle.vw_net_faults.proofs.nets.Nets.first_second.Goals as goal
use Rattle.vw_net_faults.proofs.nets.Nets.first_second.Goals.{then-comes_first, else-comes_first}

pub loop-instance-preserved : goal.loop-instance-preserved
loop-instance-preserved c =
    let design = c.args.self.now.design.now in
    let i = c.loop-instance.instance in
    let many : length c.instances.result.now ≡ length c.args.self.now.tables.now.instances = ap (λ (list : List ListedInstance). length list) c.instances.ensures in
    let within : i < length (instances design) = omega (arith, c.loop-instance-test.true, many, as_many c.args.self.now) in
    let path = at_within (instances design) i within in
    let found = c.second_in-found.result in
    let is = c.second_in-found.ensures path.0 path.1 in
    elim c.if-comes_first.branch [
      | then-comes_first w ↦
          subst (λ (first : Option Second). IsFirstSecond design (i + 1) first) (sym w.first-is)
          (taken design i path.0 path.1 found c.loop-instance.first is c.loop-instance.invariant (sym c.comes_first.ensures ∙ w.if-comes_first.true))
      | else-comes_first w ↦
          subst (λ (first : Option Second). IsFirstSecond design (i + 1) first) (sym w.first-is)
          (kept design i path.0 path.1 found c.loop-instance.first is c.loop-instance.invariant (sym c.comes_first.ensures ∙ w.if-comes_first.false))
    ]

pub returns : goal.returns
returns c =
    let many : length c.instances.result.now ≡ length c.args.self.now.tables.now.instances = ap (λ (list : List ListedInstance). length list) c.instances.ensures in
    let last : c.loop-instance.instance ≡ length c.args.self.now.tables.now.instances = omega (arith, c.loop-instance-test.false, c.loop-instance.auto.instance-end, many) in
    subst (λ (n : ℕ). IsFirstSecond c.args.self.now.design.now n c.loop-instance.first) last c.loop-instance.invariant
