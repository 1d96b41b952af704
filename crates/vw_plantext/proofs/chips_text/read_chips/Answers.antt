use Rattle.std.proofs.Common.{refl, inl, arith}
use Rattle.vw_plantext.proofs.ChipsLines.{no_line}
use Rattle.vw_plantext.proofs.chips_text.read_chips.Goals as goal

-- the first line isn't one of chips
pub returns-in_default-2-clause-refuses : goal.returns-in_default-2-clause-refuses
returns-in_default-2-clause-refuses c =
    let none = rw c.in_default-2.is at c.in_ok-chips.ensures in
    (omega (arith, c.if-bytes-gt-MOST_PLAN_BYTES.false), inl (refl, no_line c.args.bytes.now c.in-Some.line.now c.in-Some.rest.now c.in-Some.ensures.cut none))
