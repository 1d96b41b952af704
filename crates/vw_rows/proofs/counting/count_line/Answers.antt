-- A line goes on, or ends and is counted, or is at fault.
use Rattle.std.proofs.Common.{◌+◌, ℕ, Bool, List, sym, ◌∙◌, ap, subst, arith, MatchBool}
use Rattle.std.proofs.lemmas.Result.{err_from_is_err_and}
use Rattle.std.proofs.lemmas.List.{take_all}
use Rattle.vw_rows.specs.declared.scan.Scan.{Scan}
use Rattle.vw_rows.specs.Steps.Lines.{EndsBy, TakesAll}
use Rattle.vw_rows.specs.Steps.Counting.{IsReadFurther}
use Rattle.vw_rows.proofs.CountedRows.{with_line, goes_further_in, ends_and_begins, ends_at_fault}
use Rattle.vw_rows.proofs.counting.count_line.Goals as goal

pub returns-then-not-ended-clause-counts : goal.returns-then-not-ended-clause-counts
returns-then-not-ended-clause-counts c =
    let scan = c.args.scan.now in
    let piece = c.args.piece.now in
    let count = c.in_ok-count.count in
    let line = c.take.new.self in
    let all = subst (λ (ended : Bool). MatchBool ended (EndsBy piece count scan.line line) (TakesAll piece count scan.line line)) c.if-not-ended.true c.in_ok-count.ensures.takes in
    subst (λ (bytes : List ℕ). IsReadFurther bytes scan (with_line scan line)) (sym (take_all count piece (omega (all.long, arith)))) (goes_further_in piece scan line all.goes)

pub returns-in_err-end-clause-counts : goal.returns-in_err-end-clause-counts
returns-in_err-end-clause-counts c =
    let p = err_from_is_err_and c.from_residual-in_err-end.result c.from_residual-in_err-end.ensures.1 in
    let scan = c.args.scan.now in
    let piece = c.args.piece.now in
    let count = c.in_ok-count.count in
    let line = c.take.new.self in
    let ends = subst (λ (ended : Bool). MatchBool ended (EndsBy piece count scan.line line) (TakesAll piece count scan.line line)) c.if-not-ended.false c.in_ok-count.ensures.takes in
    rw (p.1, p.2) (λ of_text. ends_at_fault piece count scan line c.in_err-end.field-0.0 ends c.in_err-end.ensures.ends)

pub returns-clause-counts : goal.returns-clause-counts
returns-clause-counts c =
    let scan = c.args.scan.now in
    let piece = c.args.piece.now in
    let count = c.in_ok-count.count in
    let line = c.take.new.self in
    let ends = subst (λ (ended : Bool). MatchBool ended (EndsBy piece count scan.line line) (TakesAll piece count scan.line line)) c.if-not-ended.false c.in_ok-count.ensures.takes in
    let counted = c.in_ok-end.ensures.ends in
    ends_and_begins piece count scan line c.in_ok-end.field-0 c.begin.new.self ends counted.0 c.begin.ensures.line
    (c.begin.ensures.width ∙ ap (λ (s : Scan). s.width) counted.1)
    (c.begin.ensures.number ∙ ap (λ (s : Scan). s.number + 1) counted.1)
    (c.begin.ensures.clocks ∙ ap (λ (s : Scan). s.clocks) counted.1)
