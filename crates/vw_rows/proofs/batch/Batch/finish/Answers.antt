-- The last line is at fault, or is too few rows, or is added.
use Rattle.std.proofs.Common.{◌<◌, Bool, List, length, Result, refl, sym, subst, arith}
use Rattle.std.proofs.lemmas.Result.{err_from_is_err_and}
use Rattle.vw_rows.specs.declared.fault.StimFault.{StimFault}
use Rattle.vw_rows.specs.Standing.{IsFoundIn}
use Rattle.vw_rows.proofs.GatheredBatches.{text_ended, at_end, end_at_fault, ends_before_line, none_behind, number_ended, number_before_line}
use Rattle.vw_rows.proofs.batch.Batch.finish.Goals as goal

pub returns-in_err-end_line-clause-ends : goal.returns-in_err-end_line-clause-ends
returns-in_err-end_line-clause-ends c =
    let p = err_from_is_err_and c.from_residual.result c.from_residual.ensures.1 in
    let old = c.args.self.now in
    let fault = c.in_err-end_line.field-0.0 in
    rw (p.1, p.2) (λ of_text base start origin total read g small.
    subst (λ (said : Result (List (List Bool)) StimFault). IsFoundIn old.wanted start read fault said)
    (sym (end_at_fault c.args.before.now base start origin total read old fault g c.requires.fit.few small (c.in_err-end_line.ensures.ends of_text))) refl)

pub returns-then-self-clause-ends : goal.returns-then-self-clause-ends
returns-then-self-clause-ends c of_text base start origin total read g small =
    let old = c.args.self.now in
    let ended = ends_before_line c.args.before.now base start origin total read old g c.if-self.true in
    none_behind c.args.before.now old total read old.wanted start ended (c.requires.fit.rows.paid c.requires.room) c.requires.room (number_before_line c.args.before.now base start origin total read old g c.if-self.true)

pub returns-then-len-self-clause-ends : goal.returns-then-len-self-clause-ends
returns-then-len-self-clause-ends c of_text base start origin total read g small =
    let old = c.args.self.now in
    let new = c.end_line.new.self in
    let counted = c.in_ok-end_line.ensures.ends in
    let ended = text_ended c.args.before.now base start origin total read old new g c.requires.fit.kept c.requires.fit.few counted in
    let missing : length new.rows < new.wanted = omega (c.if-len-self.true, c.len.ensures, arith) in
    none_behind c.args.before.now new total read old.wanted start ended.0 (counted.paid.paid missing) (omega (missing, counted.wanted, arith))
    (number_ended c.args.before.now base start origin total read old new g c.if-self.false counted)

pub returns-clause-ends : goal.returns-clause-ends
returns-clause-ends c base start origin total read g =
    let old = c.args.self.now in
    let new = c.end_line.new.self in
    let counted = c.in_ok-end_line.ensures.ends in
    let ended = text_ended c.args.before.now base start origin total read old new g c.requires.fit.kept c.requires.fit.few counted in
    (ended.1, at_end c.args.before.now base start origin total read old new g c.if-self.false counted ended.0)
