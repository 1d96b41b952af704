use Rattle.std.proofs.Common.{◌+◌, ◌++◌, drop, filter_map, ap, ◌∙◌}
use Rattle.vw_drivers.specs.Firsts.{number_named}
use Rattle.vw_net_faults.proofs.SearchSteps.{gather_none, gather_one}
use Rattle.vw_net_faults.proofs.clock_flags.numbers_named.Goals as goal
use Rattle.vw_net_faults.proofs.clock_flags.numbers_named.Goals.{in-Some+in_ok-push, in_default}

pub loop-name-preserved : goal.loop-name-preserved
loop-name-preserved c =
    let number = number_named c.args.claims.now.firsts in
    let i = c.loop-name.name-index in
    let named = ap number c.as_slice.ensures in
    elim c.match-first.branch [
      | in-Some+in_ok-push w ↦
          gather_one number c.args.names.now i c.name-item.result c.loop-name-test.true c.name-item.is c.loop-name.numbers.items _ c.loop-name.invariant
          w.in-Some.number (w.in-Some.ensures.number ∙ named) c.match-first.numbers.items (ap (λ v. v.items) w.numbers-is ∙ w.in_ok-push.ensures.items)
      | in_default w ↦
          ap (λ v. v.items ++ filter_map number (drop (i + 1) c.args.names.now)) w.numbers-is
          ∙ gather_none number c.args.names.now i c.name-item.result c.loop-name-test.true c.name-item.is c.loop-name.numbers.items _ c.loop-name.invariant (w.in_default.ensures.number ∙ named)
    ]
