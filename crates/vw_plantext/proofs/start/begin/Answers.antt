use Rattle.std.proofs.Common.{refl}
use Rattle.vw_plantext.proofs.ReadSoFar.{fault_no_line, fault_head, fault_no_second, fault_chips, begun_to}
use Rattle.vw_plantext.proofs.start.begin.Goals as goal

pub returns-in_default-clause-fault : goal.returns-in_default-clause-fault
returns-in_default-clause-fault c = fault_no_line c.args.bytes.now c.in_default.ensures.none

pub returns-in_default-2-clause-fault : goal.returns-in_default-2-clause-fault
returns-in_default-2-clause-fault c =
    let none = rw c.in_default-2.is at c.in_ok-head.ensures in
    fault_head c.args.bytes.now c.in-Some.line.now c.in-Some.rest.now c.in-Some.ensures.cut none

pub returns-in_default-next_line-clause-fault : goal.returns-in_default-next_line-clause-fault
returns-in_default-next_line-clause-fault c =
    let head = rw c.in-Some-2.is at c.in_ok-head.ensures in
    fault_no_second c.args.bytes.now c.in-Some.line.now c.in-Some.rest.now c.in-Some.ensures.cut c.in-Some-2.head head c.in_default-next_line.ensures.none

pub returns-in_default-3-clause-fault : goal.returns-in_default-3-clause-fault
returns-in_default-3-clause-fault c =
    let head = rw c.in-Some-2.is at c.in_ok-head.ensures in
    let none = rw c.in_default-3.is at c.in_ok-chip_of.ensures in
    fault_chips c.args.bytes.now c.in-Some.line.now c.in-Some.rest.now c.in-Some.ensures.cut c.in-Some-2.head head c.in-Some-next_line.line.now c.in-Some-next_line.rest.now c.in-Some-next_line.ensures.cut none

pub returns-clause-begun : goal.returns-clause-begun
returns-clause-begun c =
    let head = rw c.in-Some-2.is at c.in_ok-head.ensures in
    let chips = rw c.in-Some-3.is at c.in_ok-chip_of.ensures in
    rw c.new.ensures.items (begun_to c.args.bytes.now c.in-Some.line.now c.in-Some.rest.now c.in-Some.ensures.cut c.in-Some-2.head head c.in-Some-next_line.line.now c.in-Some-next_line.rest.now c.in-Some-3.chip_of.items c.in-Some-next_line.ensures.cut chips 1073741823 refl)
