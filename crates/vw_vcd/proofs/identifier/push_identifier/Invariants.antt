-- what is written, and the digits that are left
use Rattle.std.proofs.Common.{◌≡◌, ◌++◌}
use Rattle.vw_vcd.specs.Identifiers.{identifier}
use Rattle.vw_vcd.proofs.Digits.{further_digits}
use Rattle.vw_vcd.proofs.identifier.push_identifier.Given as goal

abbrev pub invariant-loop-left : goal.invariant-loop-left
invariant-loop-left l = l.text.items ++ further_digits l.left ≡ l.fn.text.items ++ identifier l.number

abbrev pub decreases-loop-left : goal.decreases-loop-left
decreases-loop-left l = l.left
