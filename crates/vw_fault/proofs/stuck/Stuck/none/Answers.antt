use Rattle.vw_fault.specs.declared.stuck.Stuck.{Stuck}
use Rattle.vw_fault.proofs.Masks.{none_stuck}
use Rattle.vw_fault.proofs.stuck.Stuck.none.Goals as goal

-- each net keeps all lanes
pub returns-clause-plain : goal.returns-clause-plain
returns-clause-plain c = λ lane low net bit.
    let stuck : Stuck = record { kept = c.in_ok-kept.kept; forced = c.in_ok-forced.forced } in
    none_stuck stuck c.args.nets lane net bit low c.in_ok-kept.ensures c.in_ok-forced.ensures
