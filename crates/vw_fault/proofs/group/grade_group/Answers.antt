use Rattle.std.proofs.Common.{◌≡◌, ◌++◌, ◌+◌, ◌∙◌, ℕ, List, OnOk, subst, ap, arith}
use Rattle.vw_net.specs.TruthTable.{bit_of}
use Rattle.vw_fault.specs.declared.open.Open.{Open}
use Rattle.vw_fault.specs.Steps.Groups.{is_seen}
use Rattle.vw_fault.proofs.Groups.{left_filtered}
use Rattle.vw_fault.proofs.group.grade_group.Goals as goal

-- the faults whose lanes aren't seen are those that the rows don't reveal
pub returns : goal.returns
returns c =
    let lane_is = λ (place : ℕ). let same : 0 + place ≡ place = omega arith in same in
    let filtered = left_filtered c.in_ok-seen.seen 0 (is_seen c.args.grading.now) c.args.faults.now (λ place fault is. ap (bit_of c.in_ok-seen.seen) (lane_is place) ∙ c.in_ok-seen.ensures place fault is) in
    subst (λ (rest : List Open). OnOk c.left_open.result (c.left_open.new.left.items ≡ c.args.left.now.items ++ rest)) filtered c.left_open.ensures
