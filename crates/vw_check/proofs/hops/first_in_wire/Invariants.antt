-- the first hop that breaks the rule is the first of the rest
use Rattle.std.proofs.Common.{◌≡◌, drop}
use Rattle.vw_net.specs.FirstFound.{first_at, found_unless}
use Rattle.vw_check.specs.Steps.Rules.{first_in_wire, keeps, rule_fault}
use Rattle.vw_check.proofs.hops.first_in_wire.Given as goal

abbrev pub invariant-loop-place : goal.invariant-loop-place
invariant-loop-place l = first_at (λ place hop. found_unless (keeps l.rule l.wired.board.now l.wired.plan.now.period l.from l.wire place hop) (rule_fault l.rule l.number place)) l.place (drop l.place l.wire.hops) ≡ first_in_wire l.rule l.wired.board.now l.wired.plan.now.period l.from l.number l.wire
