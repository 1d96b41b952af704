-- With the line there are too many rows, or it is counted.
use Rattle.std.proofs.Common.{◌≡◌, ◌+◌, ◌-◌, ◌^◌, ◌≤◌, ℕ, min, ap, arith}
use Rattle.vw_rows.specs.Steps.Scans.{rows_from_line}
use Rattle.vw_rows.proofs.ScannedLines.{too_many_clocks, counted_line}
use Rattle.vw_rows.proofs.scan.Scan.end.Goals as goal

pub returns-then-clocks-gt-MOST_CLOCKS-clause-ends : goal.returns-then-clocks-gt-MOST_CLOCKS-clause-ends
returns-then-clocks-gt-MOST_CLOCKS-clause-ends c line is short before =
    let scan = c.args.self.now in
    let sum : c.saturating_add-clocks.result ≡ min (scan.clocks + rows_from_line c.in_ok-adds.adds) (2 ^ 64 - 1) = omega (c.saturating_add-clocks.ensures, c.count_of.ensures, arith) in
    too_many_clocks scan c.in_ok-adds.adds line c.saturating_add-clocks.result before (c.in_ok-adds.ensures.adds line is) c.requires.few sum (omega (c.if-clocks-gt-MOST_CLOCKS.true, arith))

pub returns-clause-ends : goal.returns-clause-ends
returns-clause-ends c =
    let scan = c.args.self.now in
    let clocks = c.saturating_add-clocks.result in
    let sum : clocks ≡ min (scan.clocks + rows_from_line c.in_ok-adds.adds) (2 ^ 64 - 1) = omega (c.saturating_add-clocks.ensures, c.count_of.ensures, arith) in
    let within : clocks ≤ 4294967295 = omega (c.if-clocks-gt-MOST_CLOCKS.false, arith) in
    let exact : clocks ≡ scan.clocks + rows_from_line c.in_ok-adds.adds = omega (sum, within, arith) in (
      λ line is. counted_line scan c.in_ok-adds.adds line clocks (c.in_ok-adds.ensures.adds line is) c.requires.few sum within,
      ap (λ (n : ℕ). record { line = scan.line; width = scan.width; number = scan.number; clocks = n }) exact,
    )
