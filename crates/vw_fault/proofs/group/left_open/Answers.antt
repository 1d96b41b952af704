use Rattle.std.proofs.Common.{◌≡◌, ◌+◌, ◌∙◌, Bool, true, false, ◌∷◌, drop, get_or, if◌then◌else◌, ap, sym}
use Rattle.std.proofs.lemmas.List.{get_or_default}
use Rattle.vw_net.specs.TruthTable.{bit_of}
use Rattle.vw_net.proofs.GatheredLists.{none_gathered, one_gathered}
use Rattle.vw_fault.specs.Steps.Groups.{left_open}
use Rattle.vw_fault.proofs.group.left_open.Goals as goal
use Rattle.vw_fault.proofs.group.left_open.Goals.{then-not-bit_of+in_ok-push, else-not-bit_of}

-- a fault whose lane isn't seen is one more
pub loop-lane-preserved : goal.loop-lane-preserved
loop-lane-preserved c =
    let faults = c.args.faults.now in
    let seen = c.args.seen in
    let place = c.loop-lane.lane in
    let left = c.loop-lane.left.items in
    let fault = get_or faults place (record { net = 0; bit = false }) in
    let rest = left_open seen (place + 1) (drop (place + 1) faults) in
    let gives = λ (value : Bool) (is : bit_of seen place ≡ value). ap (λ (b : Bool). if b then rest else fault ∷ rest) is in
    let is : fault ≡ get_or faults place fault = get_or_default faults place (record { net = 0; bit = false }) fault c.loop-lane-test.true in
    elim c.if-not-bit_of.branch [
      | then-not-bit_of+in_ok-push w ↦
          one_gathered (left_open seen) faults place fault left _ c.loop-lane-test.true is c.loop-lane.invariant c.if-not-bit_of.left.items fault (gives false (sym c.bit_of.ensures ∙ w.if-not-bit_of.true)) (ap (λ v. v.items) w.left-is ∙ w.in_ok-push.ensures.items)
      | else-not-bit_of w ↦
          none_gathered (left_open seen) faults place fault left _ c.loop-lane-test.true is c.loop-lane.invariant c.if-not-bit_of.left.items (gives true (sym c.bit_of.ensures ∙ w.if-not-bit_of.false)) (ap (λ v. v.items) w.left-is)
    ]
