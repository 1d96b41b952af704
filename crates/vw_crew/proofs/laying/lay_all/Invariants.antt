use Rattle.std.proofs.Common.{◌≡◌}
use Rattle.std.specs.Option.{is_some}
use Rattle.vw_crew.specs.Groups.{group_numbers}
use Rattle.vw_crew.proofs.LayingOn.{IsLaying}
use Rattle.vw_crew.proofs.laying.lay_all.Given as goal

-- the links below the number are laid
abbrev pub invariant-loop-number : goal.invariant-loop-number
invariant-loop-number g l = record {
  laying : IsLaying l.fn.job (is_some (g.F.Fabric.carried l.fn.fabric)) l.groups l.number;
  numbers : group_numbers l.groups ≡ group_numbers l.fn.groups;
  same : g.F.Fabric.carried l.fabric ≡ g.F.Fabric.carried l.fn.fabric;
}
