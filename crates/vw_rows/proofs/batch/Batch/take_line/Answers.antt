-- A line goes on, or ends, or is at fault.
use Rattle.std.proofs.Common.{◌+◌, ℕ, Bool, List, sym, ◌∙◌, subst, arith, MatchBool}
use Rattle.std.proofs.lemmas.Result.{err_from_is_err_and}
use Rattle.std.proofs.lemmas.List.{take_all}
use Rattle.vw_rows.specs.Steps.Lines.{EndsBy, TakesAll}
use Rattle.vw_rows.specs.Steps.Batches.{GathersFurther}
use Rattle.vw_rows.proofs.GatheredBatches.{with_read, line_goes_on, line_ends, line_fails}
use Rattle.vw_rows.proofs.batch.Batch.take_line.Goals as goal

pub returns-then-not-ended-clause-takes : goal.returns-then-not-ended-clause-takes
returns-then-not-ended-clause-takes c =
    let old = c.args.self.now in
    let piece = c.args.piece.now in
    let count = c.in_ok-count.count in
    let line = c.take.new.self in
    let all = subst (λ (ended : Bool). MatchBool ended (EndsBy piece count old.scan.line line) (TakesAll piece count old.scan.line line)) c.if-not-ended.true c.in_ok-count.ensures.takes in
    subst (λ (bytes : List ℕ). GathersFurther c.args.before.now bytes old (with_read old line (old.read + count))) (sym (take_all count piece (omega (all.long, arith)))) (line_goes_on c.args.before.now piece count old line all)

pub returns-in_err-end_line-clause-takes : goal.returns-in_err-end_line-clause-takes
returns-in_err-end_line-clause-takes c =
    let p = err_from_is_err_and c.from_residual-in_err-end_line.result c.from_residual-in_err-end_line.ensures.1 in
    let old = c.args.self.now in
    let piece = c.args.piece.now in
    let count = c.in_ok-count.count in
    let line = c.take.new.self in
    let ends = subst (λ (ended : Bool). MatchBool ended (EndsBy piece count old.scan.line line) (TakesAll piece count old.scan.line line)) c.if-not-ended.false c.in_ok-count.ensures.takes in
    rw (p.1, p.2) (λ of_text. line_fails c.args.before.now piece count old line c.in_err-end_line.field-0.0 ends (c.in_err-end_line.ensures.ends of_text))

pub returns-clause-takes : goal.returns-clause-takes
returns-clause-takes c =
    let old = c.args.self.now in
    let piece = c.args.piece.now in
    let count = c.in_ok-count.count in
    let line = c.take.new.self in
    let ends = subst (λ (ended : Bool). MatchBool ended (EndsBy piece count old.scan.line line) (TakesAll piece count old.scan.line line)) c.if-not-ended.false c.in_ok-count.ensures.takes in
    line_ends c.args.before.now piece count old c.end_line.new.self line ends (ends.goes.kept ∙ c.requires.fit.kept) c.in_ok-end_line.ensures.ends
