-- Words of no line.
use Rattle.std.proofs.Common.{Some, subst}
use Rattle.vw_rows.specs.declared.said.Said.{Said}
use Rattle.vw_rows.specs.Steps.Saying.{EndsWord}
use Rattle.vw_rows.proofs.ScannedLines.{line_bad, letters_done}
use Rattle.vw_rows.proofs.scan.Scan.adds.Goals as goal

pub returns-in_default-clause-adds : goal.returns-in_default-clause-adds
returns-in_default-clause-adds c line is short before =
    line_bad c.args.self.now.line line c.args.self.now.width c.args.self.now.number before c.in_default.ensures is

pub returns-in-Letters-clause-adds : goal.returns-in-Letters-clause-adds
returns-in-Letters-clause-adds c line is short before =
    absurd (letters_done c.args.self.now.line line c.in-Letters.field-0 (subst (λ (s : Said). EndsWord c.args.self.now.line.said (Some s)) c.in-Letters.is c.in-Some.ensures) is)
